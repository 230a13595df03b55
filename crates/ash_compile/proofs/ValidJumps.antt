-- Which instructions may stand where they are put.
use Rattle.std.proofs.Common.{◌≡◌, ◌≤◌, ◌<◌, ℕ, Bool, true, false, ◌&&◌, ◌||◌, nat_lt, nat_le, refl, sym, ap, subst}
use Rattle.std.specs.Prelude.{Option, None, Result, Ok, Err, IfOk}
use Rattle.std.specs.Option.{option_map_or}
use Rattle.ash_typed.specs.declared.tree.operations.Lazy.{Lazy}
use Rattle.ash_typed.specs.declared.tree.operations.Lazy.TheVariants as lazies
use Rattle.ash_typed.specs.declared.tree.statements.Test.{Test}
use Rattle.ash_typed.specs.declared.tree.statements.Test.TheVariants as tests
use Rattle.ash_typed.specs.declared.tree.operations.IncrementOp.{IncrementOp}
use Rattle.ash_typed.specs.declared.tree.operations.Operation.{Operation}
use Rattle.ash_typed.specs.TypedTree.{Expr}
use Rattle.ash_integers.specs.declared.int_type.IntType.{IntType}
use Rattle.ash_code.specs.Validity.{target, ticks}
use Rattle.ash_code.specs.declared.instruction.Instruction.{Instruction}
use Rattle.ash_code.specs.declared.instruction.Instruction.TheVariants as i
use Rattle.ash_compile.specs.declared.layout.Layout.{Layout}
use Rattle.ash_compile.specs.declared.bodies.Condition.{Condition}
use Rattle.ash_compile.specs.declared.bodies.Condition.TheVariants as conditions
use Rattle.ash_compile.specs.Emission.{lazy_jump}
use Rattle.ash_compile.specs.EmittedStatements.{frame_end, branch_on, loop_entry, NextTurn}
use Rattle.ash_compile.specs.Operands.{Operates, Calculates}
use Rattle.ash_compile.specs.Effects.{Counts, CountsInt}
use Rattle.ash_compile.specs.ValidCode.{leads_on, MayStand, IsEnd}
use Rattle.ash_compile.proofs.ValidSteps.{and_is, lower, not_higher}

-- two clauses of one result
pub if_both : {A E : Type 0} {P Q R : A → Type 0} (r : Result A E) → IfOk r P → IfOk r Q
    → ((v : A) → P v → Q v → R v) → IfOk r R
if_both (Ok v) first second next = next v first second
if_both (Err e) first second next = tt

pub same_stands : (layout : Layout) (len at : ℕ) (j k : Instruction) → j ≡ k → MayStand layout len at k
    → MayStand layout len at j
same_stands layout len at j k same stands = subst (λ (x : Instruction). MayStand layout len at x) (sym same) stands

-- a jump may lead on from its place
leads_test : (len at to : ℕ) → at < to → to ≤ len → nat_le to len && (false || nat_lt at to) ≡ true
leads_test len at to before within =
    and_is (nat_le to len) (nat_lt at to) (not_higher to len within) (lower at to before)

-- a jump that takes a tick may lead anywhere
ticks_test : (len to : ℕ) → to ≤ len → nat_le to len && true ≡ true
ticks_test len to within = and_is (nat_le to len) true (not_higher to len within) refl

module _ (layout : Layout) (len at : ℕ) where
  -- ends

  pub end_stands : (constructs : Bool) → MayStand layout len at (frame_end constructs)
  end_stands true = (refl, refl)
  end_stands false = (refl, refl)

  -- jumps

  pub jump_stands : (to : ℕ) → at < to → to ≤ len → MayStand layout len at (i.Jump to)
  jump_stands to before within = (leads_test len at to before within, refl)

  pub branch_stands : (condition : Condition) (to : ℕ) → at < to → to ≤ len
      → MayStand layout len at (branch_on condition to)
  branch_stands (conditions.Truth slot) to before within = (leads_test len at to before within, refl)
  branch_stands (conditions.Comparison comparison left right) to before within =
      (leads_test len at to before within, refl)

  pub lazy_stands : (operator : Lazy) (condition to : ℕ) → at < to → to ≤ len
      → MayStand layout len at (lazy_jump operator condition to)
  lazy_stands lazies.And condition to before within = (leads_test len at to before within, refl)
  lazy_stands lazies.Or condition to before within = (leads_test len at to before within, refl)

  pub turn_stands : {e : Option Expr} {line head inside : ℕ} {j : Instruction} → NextTurn e line head inside j
      → head ≤ len → inside ≤ len → MayStand layout len at j
  turn_stands {head = head} NextTurn.leads_back back within = (ticks_test len head back, refl)
  turn_stands {inside = inside} (NextTurn.compares is) back within = (ticks_test len inside within, refl)

  pub entry_stands : (test : Test) (line to : ℕ) → at < to → to ≤ len
      → MayStand layout len at (loop_entry test line to)
  entry_stands tests.First line to before within = (refl, refl)
  entry_stands tests.Last line to before within = (leads_test len at to before within, refl)

pub counts_stand : (layout : Layout) (len at : ℕ) {j : Instruction} {step : IncrementOp} {t : IntType} {n : ℕ}
    → Counts j step t n
    → MayStand layout len at j
counts_stand layout len at Counts.counts = (refl, refl)
counts_stand layout len at (Counts.counts_int CountsInt.up) = (refl, refl)
counts_stand layout len at (Counts.counts_int CountsInt.up_after) = (refl, refl)
counts_stand layout len at (Counts.counts_int CountsInt.down) = (refl, refl)
counts_stand layout len at (Counts.counts_int CountsInt.down_after) = (refl, refl)

pub operates_stand : (layout : Layout) (len at : ℕ) {j : Instruction} {o : Operation} {left right to : ℕ}
    → Operates j o left right to → MayStand layout len at j
operates_stand layout len at (Operates.calculates Calculates.calculates) = (refl, refl)
operates_stand layout len at (Operates.calculates Calculates.adds) = (refl, refl)
operates_stand layout len at (Operates.calculates Calculates.subtracts) = (refl, refl)
operates_stand layout len at Operates.compares = (refl, refl)

-- what enters a function leads nowhere
pub entering_leads : (len at : ℕ) (j : Instruction) → target j ≡ None → leads_on len at j ≡ true
entering_leads len at j none =
    ap (λ (o : Option ℕ). option_map_or (λ to. nat_le to len && (ticks j || nat_lt at to)) o true) none

pub frame_ends : (constructs : Bool) → IsEnd (frame_end constructs)
frame_ends true = record { leads = refl; ends = refl }
frame_ends false = record { leads = refl; ends = refl }
