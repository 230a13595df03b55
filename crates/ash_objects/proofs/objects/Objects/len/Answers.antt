use Rattle.std.proofs.Common.{arith}
use Rattle.ash_objects.proofs.Newcomers.{length-living}
use Rattle.ash_objects.proofs.objects.Objects.len.Goals as goal

pub returns : goal.returns
returns g c = record {
  len = rw (← c.self.view_is) (omega (arith, length-living c.self.inside.store.objects c.self.inside.store.objects, c.len.ensures.len));
}
