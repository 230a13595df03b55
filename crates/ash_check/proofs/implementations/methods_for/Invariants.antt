use Rattle.std.proofs.Common.{◌≡◌, map, drop}
use Rattle.ash_type_rules.specs.Implementations as definition
use Rattle.ash_check_names.specs.EnvironmentViews.{function_signature_of}
use Rattle.ash_check.proofs.MethodLaws.{prepended}
use Rattle.ash_check.proofs.implementations.methods_for.Given as goal

-- the places so far, and those of the methods that are left, are those of the whole
abbrev pub invariant-loop-method : goal.invariant-loop-method
invariant-loop-method l = prepended l.places.items (definition.methods_for (map function_signature_of l.methods) (map function_signature_of (drop l.method-index l.declared))) ≡ definition.methods_for (map function_signature_of l.methods) (map function_signature_of l.declared)
