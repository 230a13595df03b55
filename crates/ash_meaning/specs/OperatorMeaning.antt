-- Operators on words, by the definitions of the integers of scripts.
use Rattle.std.specs.Prelude.{Bool, false, not, ℤ, pos, ◌+ℤ◌, ◌-ℤ◌, Result, Ok, Err}
use Rattle.ash_host.specs.declared.word.Word.{Word}
use Rattle.ash_host.specs.declared.word.Word.TheVariants as words
use Rattle.ash_host.specs.Records.{is_same_word}
use Rattle.ash_integers.specs.declared.int_type.IntType.{IntType}
use Rattle.ash_integers.specs.declared.arithmetic.Arithmetic.TheVariants as arithmetic
use Rattle.ash_integers.specs.declared.arithmetic.DivisionFault.{DivisionFault}
use Rattle.ash_integers.specs.declared.arithmetic.DivisionFault.TheVariants as faults
use Rattle.ash_integers.specs.declared.shift.Shift.TheVariants as shifts
use Rattle.ash_integers.specs.declared.comparison.Comparison.TheVariants as comparisons
use Rattle.ash_integers.specs.Integers.{number_of, word_of, complement_of, calculated, shifted, compared}
use Rattle.ash_typed.specs.declared.types.VarType.{VarType}
use Rattle.ash_typed.specs.declared.types.VarType.TheVariants as vars
use Rattle.ash_typed.specs.declared.tree.operations.Calculator.{Calculator}
use Rattle.ash_typed.specs.declared.tree.operations.Calculator.TheVariants as calculators
use Rattle.ash_typed.specs.declared.tree.operations.Calculation.{Calculation}
use Rattle.ash_typed.specs.declared.tree.operations.Comparator.{Comparator}
use Rattle.ash_typed.specs.declared.tree.operations.Comparator.TheVariants as comparators
use Rattle.ash_typed.specs.declared.tree.operations.Operands.{Operands}
use Rattle.ash_typed.specs.declared.tree.operations.Operands.TheVariants as operands
use Rattle.ash_typed.specs.declared.tree.operations.Operation.{Operation}
use Rattle.ash_typed.specs.declared.tree.operations.Operation.TheVariants as operations
use Rattle.ash_typed.specs.declared.tree.operations.Change.{Change}
use Rattle.ash_typed.specs.declared.tree.operations.Change.TheVariants as changes
use Rattle.ash_typed.specs.declared.tree.operations.IncrementOp.{IncrementOp}
use Rattle.ash_typed.specs.declared.tree.operations.IncrementOp.TheVariants as steps
use Rattle.ash_meaning.specs.declared.exception.Exception.TheVariants.{DivideByZero, DivideOverflow}
use Rattle.ash_meaning.specs.Runs.{Run, give, raise}

-- types and their words

-- the word of an integer type that a whole number leaves
abbrev pub word_at : IntType → ℤ → Word
word_at int_type number = word_of int_type number

-- a word of any integer type, converted
abbrev pub converted_to : IntType → Word → Word
converted_to int_type word = word_at int_type (number_of word)

-- what a variable holds before anything is written to it
abbrev pub zero_of : VarType → Word
zero_of vars.Bool = words.Bool false
zero_of (vars.Integer int_type) = word_at int_type (pos 0)
zero_of (vars.Object of) = words.Null
zero_of (vars.Handle of) = words.Null

-- whether a word is `true`
abbrev pub is_true : Word → Bool
is_true (words.Bool b) = b
is_true _ = false

-- operators that make an integer of two

abbrev pub calculated_by : Calculator → IntType → Word → Word → Result Word DivisionFault
calculated_by calculators.Multiply t left right = calculated arithmetic.Multiply t left right
calculated_by calculators.Divide t left right = calculated arithmetic.Divide t left right
calculated_by calculators.Remainder t left right = calculated arithmetic.Remainder t left right
calculated_by calculators.Add t left right = calculated arithmetic.Add t left right
calculated_by calculators.Subtract t left right = calculated arithmetic.Subtract t left right
calculated_by calculators.ShiftLeft t left count = Ok (shifted shifts.Left t left count)
calculated_by calculators.ShiftRight t left count = Ok (shifted shifts.Right t left count)
calculated_by calculators.ShiftRightArithmetic t left count = Ok (shifted shifts.RightArithmetic t left count)
calculated_by calculators.BitAnd t left right = calculated arithmetic.BitAnd t left right
calculated_by calculators.BitXor t left right = calculated arithmetic.BitXor t left right
calculated_by calculators.BitOr t left right = calculated arithmetic.BitOr t left right

-- a quotient that is refused is an exception
abbrev pub give_or_raise : Result Word DivisionFault → Run Word
give_or_raise (Ok word) = give word
give_or_raise (Err faults.ByZero) = raise DivideByZero
give_or_raise (Err faults.Overflow) = raise DivideOverflow

abbrev pub calculate : Calculation → Word → Word → Run Word
calculate calculation left right = give_or_raise (calculated_by calculation.operator calculation.of left right)

-- operators that make a truth value of two

-- of integers: by their numbers
abbrev pub holds_of_numbers : Comparator → ℤ → ℤ → Bool
holds_of_numbers comparators.Less x y = compared comparisons.Less x y
holds_of_numbers comparators.LessOrEqual x y = compared comparisons.LessOrEqual x y
holds_of_numbers comparators.Greater x y = compared comparisons.Greater x y
holds_of_numbers comparators.GreaterOrEqual x y = compared comparisons.GreaterOrEqual x y
holds_of_numbers comparators.Equal x y = compared comparisons.Equal x y
holds_of_numbers comparators.NotEqual x y = compared comparisons.NotEqual x y
holds_of_numbers _ x y = false

-- of truth values, objects and null: by whether they are the same
abbrev pub holds_of_words : Comparator → Word → Word → Bool
holds_of_words comparators.Equal left right = is_same_word left right
holds_of_words comparators.Is left right = is_same_word left right
holds_of_words comparators.NotEqual left right = not (is_same_word left right)
holds_of_words comparators.NotIs left right = not (is_same_word left right)
holds_of_words comparators.Xor left right = not (is_same_word left right)
holds_of_words _ left right = false

abbrev pub holds : Comparator → Operands → Word → Word → Bool
holds comparator (operands.Integers int_type) left right =
    holds_of_numbers comparator (number_of left) (number_of right)
holds comparator operands.Bools left right = holds_of_words comparator left right
holds comparator operands.Handles left right = holds_of_words comparator left right

abbrev pub operate : Operation → Word → Word → Run Word
operate (operations.Calculate calculation) left right = calculate calculation left right
operate (operations.Compare comparator of) left right = give (words.Bool (holds comparator of left right))

-- operators of one operand

abbrev pub altered : Change → Word → Word
altered (changes.Negate int_type) word = word_at int_type (pos 0 -ℤ number_of word)
altered (changes.Complement int_type) word = word_at int_type (complement_of (number_of word))
altered changes.Not word = words.Bool (not (is_true word))

-- what `++` and `--` leave in a place of this type, and which of its values they give
abbrev pub counted : IncrementOp → IntType → Word → Word
counted steps.Increment int_type word = word_at int_type (number_of word +ℤ pos 1)
counted steps.IncrementAfter int_type word = word_at int_type (number_of word +ℤ pos 1)
counted steps.Decrement int_type word = word_at int_type (number_of word -ℤ pos 1)
counted steps.DecrementAfter int_type word = word_at int_type (number_of word -ℤ pos 1)

abbrev pub given_by : IncrementOp → Word → Word → Word
given_by steps.Increment old new = new
given_by steps.Decrement old new = new
given_by steps.IncrementAfter old new = old
given_by steps.DecrementAfter old new = old
