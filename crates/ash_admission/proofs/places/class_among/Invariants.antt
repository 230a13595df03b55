use Rattle.std.proofs.Common.{◌≡◌, drop, map}
use Rattle.ash_typed.specs.Modules.{class_of, module_of}
use Rattle.ash_admission.specs.Places.{class_from}
use Rattle.ash_admission.proofs.places.class_among.Given as goal

abbrev pub invariant-loop-class : goal.invariant-loop-class
invariant-loop-class l =
    class_from (module_of l.tree) l.place l.class (map class_of (drop l.class l.classes)) ≡ class_from (module_of l.tree) l.place 0 (map class_of l.classes)
