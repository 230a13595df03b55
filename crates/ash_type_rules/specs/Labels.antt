-- Labels of a `switch` (AngelScript manual, "Switch-case statements"): which constants they may have, and which is the
-- last.
use Rattle.std.specs.Prelude.{ℕ, ◌^◌, Bool, true, false, ◌&&◌, nat_eq, nat_le}
use Rattle.ash_tree.specs.declared.tree.statements.Label.{Label}
use Rattle.ash_tree.specs.declared.tree.statements.Label.TheVariants as labels
use Rattle.ash_integers.specs.declared.int_type.IntType.{IntType}
use Rattle.ash_integers.specs.declared.int_type.IntType.TheVariants.{Int, Uint, Int64, Uint64}
use Rattle.ash_type_rules.specs.TypeRules.{holds}
use Rattle.ash_tree.specs.Tree as written

-- The type holds what is this much below zero.
abbrev pub holds_minus : IntType → ℕ → Bool
holds_minus Int n = nat_le n (2 ^ 31)
holds_minus Uint n = nat_eq n 0
holds_minus Int64 n = nat_le n (2 ^ 63)
holds_minus Uint64 n = nat_eq n 0

-- The type holds the constant of a label.
abbrev pub holds_label : IntType → Label → Bool
holds_label k (labels.Case n) = holds k n
holds_label k (labels.CaseMinus n) = holds_minus k n
holds_label k labels.Default = true

-- Two labels have equal constants: `-0` is `0`.
abbrev pub is_same_constant : Label → Label → Bool
is_same_constant (labels.Case m) (labels.Case n) = nat_eq m n
is_same_constant (labels.Case m) (labels.CaseMinus n) = nat_eq m 0 && nat_eq n 0
is_same_constant (labels.CaseMinus m) (labels.Case n) = nat_eq m 0 && nat_eq n 0
is_same_constant (labels.CaseMinus m) (labels.CaseMinus n) = nat_eq m n
is_same_constant _ _ = false

abbrev pub is_last : written.Cases → Bool
is_last written.no_case = true
is_last (written.next_case c cs) = false
