-- Labels of a `switch` (AngelScript manual, "Switch-case statements"): which constants they may have, and where
-- `default` may be.
use Rattle.std.specs.Prelude.{ℕ, Bool, true, List, Option, Some, None, Ok, if◌then◌else◌}
use Rattle.std.specs.List.{list_any}
use Rattle.ash_tree.specs.declared.tree.statements.Label.{Label}
use Rattle.ash_tree.specs.declared.tree.statements.Label.TheVariants as labels
use Rattle.ash_type_rules.specs.declared.fault.Rule.TheVariants.{Misplaced, ConstantOutOfRange, DuplicateCase}
use Rattle.ash_integers.specs.declared.int_type.IntType.{IntType}
use Rattle.ash_type_rules.specs.declared.types.Ty.{Ty}
use Rattle.ash_type_rules.specs.declared.types.Ty.TheVariants as ty
use Rattle.ash_type_rules.specs.TypingResult.{TypingResult, broken}
use Rattle.ash_type_rules.specs.Labels.{holds_label, is_same_constant}

-- `integer_type_in of` is the integer type of the value, where it has one.
abbrev pub integer_type_in : Ty → Option IntType
integer_type_in (ty.Integer k) = Some k
integer_type_in _ = None

-- The constant is in the range of the type; no range is known without an integer type.
unfoldable pub is_within : Option IntType → Label → Bool
is_within None l = true
is_within (Some k) l = holds_label k l

-- The constant of a label is at this offset, after the labels before it.
unfoldable pub check_constant : Option IntType → List Label → ℕ → Label → TypingResult Label
check_constant int_type before at l =
    if is_within int_type l then (if list_any (is_same_constant l) before then broken DuplicateCase at else Ok l)
    else broken ConstantOutOfRange at

-- A label is at this offset: `default` has to be the last one.
unfoldable pub check_label : Option IntType → List Label → Bool → ℕ → Label → TypingResult Label
check_label int_type before last at labels.Default = if last then Ok labels.Default else broken Misplaced at
check_label int_type before last at l = check_constant int_type before at l
