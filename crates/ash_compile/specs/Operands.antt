-- Values that stay where they are or go where they are wanted: in the slot of their expression, or in that of a local.
use Rattle.std.specs.Prelude.{◌≡◌, ◌≤◌, ◌<◌, ◌⊎◌, ℕ, List, Bool, length, take, slice_index_or, Option, ℤ, pos, ◌-ℤ◌}
use Rattle.ash_host.specs.declared.word.Word.{Word}
use Rattle.ash_host.specs.declared.word.Word.TheVariants.{Null}
use Rattle.ash_integers.specs.declared.comparison.Comparison.{Comparison}
use Rattle.ash_integers.specs.declared.comparison.Comparison.TheVariants as comparisons
use Rattle.ash_integers.specs.declared.int_type.IntType.{IntType}
use Rattle.ash_integers.specs.declared.int_type.IntType.TheVariants as ints
use Rattle.ash_typed.specs.declared.types.VarType.{VarType}
use Rattle.ash_typed.specs.declared.types.VarType.TheVariants as vars
use Rattle.ash_typed.specs.declared.tree.operations.Variable.TheVariants as variables
use Rattle.ash_typed.specs.declared.tree.operations.Calculator.{Calculator}
use Rattle.ash_typed.specs.declared.tree.operations.Calculator.TheVariants as calculators
use Rattle.ash_typed.specs.declared.tree.operations.Calculation.{Calculation}
use Rattle.ash_typed.specs.declared.tree.operations.Comparator.{Comparator}
use Rattle.ash_typed.specs.declared.tree.operations.Comparator.TheVariants as comparators
use Rattle.ash_typed.specs.declared.tree.operations.Operands.{Operands}
use Rattle.ash_typed.specs.declared.tree.operations.Operands.TheVariants as operand_types
use Rattle.ash_typed.specs.declared.tree.operations.Operation.{Operation}
use Rattle.ash_typed.specs.declared.tree.operations.Operation.TheVariants as operations
use Rattle.ash_typed.specs.TypeOf.{ValueType}
use Rattle.ash_typed.specs.TypedTree.{Expr, Number, Truth, Read, Operate, Assign, Stored}
use Rattle.ash_typed.specs.SoundExpressions.{IsWellTyped}
use Rattle.ash_meaning.specs.Activity.{Activity}
use Rattle.ash_meaning.specs.Runs.{Run, Done}
use Rattle.ash_meaning.specs.Ends.{Outcome}
use Rattle.ash_meaning.specs.ExpressionMeaning.{expression}
use Rattle.ash_code.specs.declared.instruction.Instruction.{Instruction}
use Rattle.ash_code.specs.declared.instruction.Instruction.TheVariants as i
use Rattle.ash_code.specs.Controls.{Window, control}
use Rattle.ash_code.specs.Performing.{Setting, of_int}
use Rattle.ash_compile.specs.declared.builder.Written.{Written}
use Rattle.ash_compile.specs.Stretches.{continued, Arrives, with_slots, Fits}
use Rattle.ash_compile.specs.Emission.{code_of, end_of, Keeps, Scene, IsScene, Suits, calls_of, Good, Stands, Emits}
use Rattle.ash_compile.specs.Places.{HoldsBelow}

-- expressions

-- a type of numbers or of truth values
pub data IsPlain : VarType → Type 0 where
  truth : IsPlain vars.Bool
  integer : {t : IntType} → IsPlain (vars.Integer t)

-- The expression reads a local in this slot, which is no handle.
pub data ReadsLocal : Expr → ℕ → Type 0 where
  reads_local : {n : ℕ} {of : VarType} → IsPlain of → ReadsLocal (Read (Stored (variables.Local n of))) n

-- A literal, or a local that is read: nothing is written.
pub data IsSimple : Expr → Type 0 where
  number : {t : IntType} {n : ℕ} → IsSimple (Number t n)
  truth : {b : Bool} → IsSimple (Truth b)
  local : {n : ℕ} {of : VarType} → IsSimple (Read (Stored (variables.Local n of)))

-- operators

-- The instruction calculates with the words of two slots.
pub data Calculates : Instruction → Calculation → ℕ → ℕ → ℕ → Type 0 where
  calculates : {c : Calculation} {left right to : ℕ} → Calculates (i.Calculate c left right to) c left right to
  adds : {left right to : ℕ} → Calculates (i.AddInt left right to) (of_int calculators.Add) left right to
  subtracts : {left right to : ℕ} → Calculates (i.SubtractInt left right to) (of_int calculators.Subtract) left right to

-- The instruction does what an operator does with the words of two slots.
pub data Operates : Instruction → Operation → ℕ → ℕ → ℕ → Type 0 where
  calculates : {j : Instruction} {c : Calculation} {left right to : ℕ} → Calculates j c left right to
      → Operates j (operations.Calculate c) left right to
  compares : {comparator : Comparator} {operands : Operands} {left right to : ℕ}
      → Operates (i.Compare comparator operands left right to) (operations.Compare comparator operands) left right to

-- a comparison of integers
pub data ComparesBy : Comparator → Comparison → Type 0 where
  less : ComparesBy comparators.Less comparisons.Less
  less_or_equal : ComparesBy comparators.LessOrEqual comparisons.LessOrEqual
  greater : ComparesBy comparators.Greater comparisons.Greater
  greater_or_equal : ComparesBy comparators.GreaterOrEqual comparisons.GreaterOrEqual
  equal : ComparesBy comparators.Equal comparisons.Equal
  not_equal : ComparesBy comparators.NotEqual comparisons.NotEqual

-- The operator compares two integers.
pub data Compares : Operation → Comparison → Type 0 where
  compares : {comparator : Comparator} {comparison : Comparison} {int_type : IntType} → ComparesBy comparator comparison
      → Compares (operations.Compare comparator (operand_types.Integers int_type)) comparison

-- The expression compares the integers of two locals.
pub data ComparesLocals : Expr → Comparison → ℕ → ℕ → Type 0 where
  compares_locals : {o : Operation} {comparison : Comparison} {a b : Expr} {left right : ℕ} → Compares o comparison
      → ReadsLocal a left → ReadsLocal b right → ComparesLocals (Operate o a b) comparison left right

-- an `int` that a script writes
pub data IsInt : Expr → ℤ → Type 0 where
  int : {n : ℕ} → IsInt (Number ints.Int n) (pos n)

-- An operator with a number as its right operand adds a number to its left one.
pub data Adds : Calculator → Expr → ℤ → Type 0 where
  adds : {n : ℕ} → Adds calculators.Add (Number ints.Int n) (pos n)
  subtracts : {n : ℕ} → Adds calculators.Subtract (Number ints.Int n) (pos 0 -ℤ pos n)

-- A calculation with a number as its right operand adds a number to an `int`.
pub data AddsTo : Calculation → Expr → ℤ → Type 0 where
  adds_to : {operator : Calculator} {e : Expr} {number : ℤ} → Adds operator e number → AddsTo (of_int operator) e number

pub data IsAddition : Operation → Expr → ℤ → Type 0 where
  addition : {c : Calculation} {e : Expr} {number : ℤ} → AddsTo c e number
      → IsAddition (operations.Calculate c) e number

-- what code leaves

-- The value is in a slot, that of the expression or that of a local. What was computed before stays.
pub record HoldsIn (old : Window) (slot at : ℕ) (word : Word) (slots : List Word) (b : Activity) : Type 0 where
  pub long : length slots ≡ length old.slots
  pub kept : (k : ℕ) → old.count ≤ k → k < slot → slice_index_or slots k Null ≡ slice_index_or old.slots k Null
  pub there : (at ≡ slot) ⊎ (at < old.count)
  pub value : slice_index_or slots at Null ≡ word
  pub locals : (b.frame).locals ≡ take old.count slots

module _ (s : Setting) (Good : Activity → Type 0) (function room : ℕ) where
  -- The code from one place to another does what an expression does, and has its value in a slot.
  pub record ComputesIn (run : Run Word) (from to slot at : ℕ) : Type 0 where
    pub comes : (w : Window) (a : Activity) (rest : Word → Activity → Option Outcome)
        → w.count ≤ slot
        → room ≤ length w.slots
        → Fits w a
        → Good a
        → ((word : Word) (b : Activity) (slots : List Word) → run a ≡ Done word b → HoldsIn w slot at word slots b
        → Arrives s (control function to (with_slots slots w)) b (rest word b))
        → Arrives s (control function from w) a (continued (run a) rest)

  -- The code from one place to another does what an expression does, whose value is not used.
  pub record Affects (run : Run Word) (from to slot : ℕ) : Type 0 where
    pub comes : (w : Window) (a : Activity) (rest : Word → Activity → Option Outcome)
        → w.count ≤ slot
        → room ≤ length w.slots
        → Fits w a
        → Good a
        → ((word : Word) (b : Activity) (slots : List Word) → run a ≡ Done word b → HoldsBelow w slot slots b
        → Arrives s (control function to (with_slots slots w)) b (rest word b))
        → Arrives s (control function from w) a (continued (run a) rest)

-- emitted code

-- What is said of code that has grown, wherever it stands, for an expression that is well typed there.
abbrev pub Wherever : Written → Written → Expr → (Scene → Type 0) → Type 0
Wherever old new e Does =
    (s : Scene) (of : ValueType)
    → IsScene s
    → IsWellTyped s.env e of
    → Stands s (code_of new) (end_of old) (end_of new)
    → Suits s new
    → Does s

-- The code has grown by that of an expression, whose value it has in a slot.
pub record EmitsIn (old new : Written) (e : Expr) (slot at : ℕ) : Type 0 where
  pub keeps : Keeps old new
  pub does : Wherever old new e
      (λ s. ComputesIn s.setting (Good s) s.function s.room (expression (calls_of s) e) (end_of old) (end_of new) slot at)

-- The code has grown by that of an expression, whose value is not used.
pub record EmitsEffect (old new : Written) (e : Expr) (slot : ℕ) : Type 0 where
  pub keeps : Keeps old new
  pub does : Wherever old new e
      (λ s. Affects s.setting (Good s) s.function s.room (expression (calls_of s) e) (end_of old) (end_of new) slot)

-- The code has grown by that of an expression, whose value goes to a slot: its own, or that of a local, which is
-- assigned.
pub record EmitsInto (old new : Written) (e : Expr) (slot to : ℕ) : Type 0 where
  pub in_slot : to ≡ slot → Emits old new e slot
  pub in_local : (of : VarType) → EmitsIn old new (Assign (Stored (variables.Local to of)) e) slot to
