use Rattle.std.proofs.Common.{◌∙◌}
use Rattle.ash_objects.proofs.Views.{slot_seen}
use Rattle.ash_objects.proofs.objects.Objects.slot.Goals as goal

pub returns : goal.returns
returns g c = record { slot = rw (← c.self.view_is) (c.slot.ensures.slot ∙ slot_seen c.args.number c.self.inside.store.objects) }
