use Rattle.std.proofs.Common.{sym, ◌∙◌}
use Rattle.ash_objects.proofs.Counts.{numbers-living}
use Rattle.ash_objects.proofs.objects.Objects.numbers.Goals as goal

pub returns : goal.returns
returns g c = record {
  numbers = rw (← c.self.view_is) (c.numbers.ensures.numbers ∙ sym (numbers-living c.self.inside.store.objects c.self.inside.store.objects));
}
