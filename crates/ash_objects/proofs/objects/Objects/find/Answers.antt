use Rattle.std.proofs.Common.{◌∙◌}
use Rattle.ash_objects.proofs.Views.{slot_seen}
use Rattle.ash_objects.proofs.objects.Objects.find.Goals as goal

pub returns-clause-slot : goal.returns-clause-slot
returns-clause-slot g c = rw (← c.self.view_is) (c.find.ensures.slot ∙ slot_seen c.args.number c.self.inside.store.objects)
