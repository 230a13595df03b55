use Rattle.std.proofs.Common.{◌≡◌, drop, map}
use Rattle.ash_typed.specs.BodyViews.{value_of}
use Rattle.ash_typed.specs.Signatures.{type_declared}
use Rattle.ash_admission.specs.Values.{after_values}
use Rattle.ash_admission.specs.Admission.{program_of}
use Rattle.ash_admission.proofs.values.after_values.Given as goal

abbrev pub invariant-loop-variable : goal.invariant-loop-variable
invariant-loop-variable l =
    after_values (program_of l.loaded) l.objects (map type_declared (map value_of (drop l.variable-index l.variables))) l.rest ≡ after_values (program_of l.loaded) l.objects (map type_declared (map value_of l.variables)) l.fn.words
