use Rattle.std.proofs.Common.{◌≡◌, drop}
use Rattle.ash_type_rules.specs.Implementations as definition
use Rattle.ash_check.proofs.implementations.are_same.Given as goal

-- the outcome of what is left is that of the whole
abbrev pub invariant-loop-of : goal.invariant-loop-of
invariant-loop-of l = definition.are_same (drop l.of-index l.some) l.rest ≡ definition.are_same l.some l.others
