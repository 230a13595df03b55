use Rattle.ash_admission.proofs.AdmissionLaws.{decides}
use Rattle.ash_admission.proofs.admission.is_well_typed.Goals as goal

pub returns : goal.returns
returns c = record { exact = λ host offers. decides c.args.kinds.now c.args.objects.now host c.args.modules.now c.is_of_its_types.result c.is_of_its_types.ensures.both c.is_of_its_types.ensures.in_order offers }
