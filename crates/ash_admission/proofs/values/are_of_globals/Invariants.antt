use Rattle.std.proofs.Common.{◌≡◌, drop, map}
use Rattle.ash_typed.specs.Modules.{variables_of}
use Rattle.ash_typed.specs.Signatures.{types_of_globals}
use Rattle.ash_admission.specs.Values.{are_values}
use Rattle.ash_admission.specs.Admission.{program_of}
use Rattle.ash_admission.proofs.values.are_of_globals.Given as goal

abbrev pub invariant-loop-declaration : goal.invariant-loop-declaration
invariant-loop-declaration l =
    are_values (program_of l.loaded) l.objects (types_of_globals (map variables_of (drop l.declaration-index l.declarations))) l.rest ≡ are_values (program_of l.loaded) l.objects (types_of_globals (map variables_of l.declarations)) l.fn.words
