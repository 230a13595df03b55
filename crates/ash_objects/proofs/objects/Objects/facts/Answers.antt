use Rattle.std.proofs.Common.{arith}
use Rattle.ash_objects.proofs.Sound.{sound_table}
use Rattle.ash_objects.proofs.objects.Objects.facts.Goals as goal

pub returns : goal.returns
returns g c = record {
  sound = rw (← c.self.view_is) (sound_table c.self.inside.store.objects _ _ c.self.invariant.table c.len-living.ensures.stored (omega arith) _ _ _);
}
