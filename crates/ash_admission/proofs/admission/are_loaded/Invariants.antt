use Rattle.std.proofs.Common.{◌≡◌, drop}
use Rattle.std.specs.List.{list_all}
use Rattle.ash_admission.specs.Admission.{is_loaded}
use Rattle.ash_admission.proofs.admission.are_loaded.Given as goal

abbrev pub invariant-loop-loaded : goal.invariant-loop-loaded
invariant-loop-loaded l = list_all (is_loaded l.objects) (drop l.loaded-index l.modules) ≡ list_all (is_loaded l.objects) l.modules
