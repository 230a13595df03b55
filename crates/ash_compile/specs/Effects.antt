-- Assignments to locals by one instruction.
use Rattle.std.specs.Prelude.{◌≡◌, ℕ, pos, negsuc}
use Rattle.ash_integers.specs.declared.int_type.IntType.{IntType}
use Rattle.ash_integers.specs.declared.int_type.IntType.TheVariants as ints
use Rattle.ash_typed.specs.declared.types.VarType.{VarType}
use Rattle.ash_typed.specs.declared.tree.operations.IncrementOp.{IncrementOp}
use Rattle.ash_typed.specs.declared.tree.operations.IncrementOp.TheVariants as steps
use Rattle.ash_typed.specs.declared.tree.operations.Variable.{Variable}
use Rattle.ash_typed.specs.declared.tree.operations.Variable.TheVariants as variables
use Rattle.ash_typed.specs.TypedTree.{Place, Stored}
use Rattle.ash_code.specs.declared.instruction.Instruction.{Instruction}
use Rattle.ash_code.specs.declared.instruction.Instruction.TheVariants as i

-- The place is a local in this slot.
pub data IsLocalPlace : Place → ℕ → Type 0 where
  local_place : {n : ℕ} {of : VarType} → IsLocalPlace (Stored (variables.Local n of)) n

-- The instruction counts an `int` in a slot up or down.
pub data CountsInt : Instruction → IncrementOp → ℕ → Type 0 where
  up : {n : ℕ} → CountsInt (i.AddNumber n (pos 1) n) steps.Increment n
  up_after : {n : ℕ} → CountsInt (i.AddNumber n (pos 1) n) steps.IncrementAfter n
  down : {n : ℕ} → CountsInt (i.AddNumber n (negsuc 0) n) steps.Decrement n
  down_after : {n : ℕ} → CountsInt (i.AddNumber n (negsuc 0) n) steps.DecrementAfter n

-- The instruction counts what is in a slot up or down.
pub data Counts : Instruction → IncrementOp → IntType → ℕ → Type 0 where
  counts : {step : IncrementOp} {t : IntType} {n : ℕ} → Counts (i.Count step t n n) step t n
  counts_int : {j : Instruction} {step : IncrementOp} {n : ℕ} → CountsInt j step n → Counts j step ints.Int n
