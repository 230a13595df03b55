use Rattle.std.proofs.Common.{◌≡◌, drop, map}
use Rattle.ash_typed.specs.Modules.{interface_of}
use Rattle.ash_admission.specs.Contents.{any_interface}
use Rattle.ash_admission.specs.Admission.{program_of}
use Rattle.ash_admission.proofs.elements.are_of_interface.Given as goal

abbrev pub invariant-loop-interface : goal.invariant-loop-interface
invariant-loop-interface l =
    any_interface l.objects l.place l.words (program_of l.loaded) l.interface (map interface_of (drop l.interface l.interfaces)) ≡ any_interface l.objects l.place l.words (program_of l.loaded) 0 (map interface_of l.interfaces)
