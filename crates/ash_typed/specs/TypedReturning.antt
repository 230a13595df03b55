-- These definitions say which typed statements return, however their conditions turn out; control never gets past one
-- of them.
use Rattle.std.specs.Prelude.{ℕ, Option}
use Rattle.ash_tree.specs.declared.tree.statements.Label.{Label}
use Rattle.ash_tree.specs.declared.tree.statements.Label.TheVariants as labels
use Rattle.ash_integers.specs.declared.int_type.IntType.{IntType}
use Rattle.ash_typed.specs.TypedTree.{Expr}
use Rattle.ash_typed.specs.StatementTree.{Stmt, Block, If, Branch, branch, Switch, Break, Return, Stmts, stmt, Case}
use Rattle.ash_typed.specs.StatementTree.{labelled, Cases, no_case, next_case}

-- a `break` that leaves what the statement is in, and no loop or `switch` inside it
mutual
  pub data Breaks : Stmt → Type 0 where
    break_out : {line : ℕ} → Breaks (Break line)
    in_block : {line : ℕ} {ss : Stmts} → AnyBreaks ss → Breaks (Block line ss)
    in_then : {line : ℕ} {c : Expr} {s : Stmt} {other : Branch} → Breaks s → Breaks (If line c s other)
    in_else : {line : ℕ} {c : Expr} {s t : Stmt} → Breaks t → Breaks (If line c s (branch t))

  pub data AnyBreaks : Stmts → Type 0 where
    first_breaks : {s : Stmt} {ss : Stmts} → Breaks s → AnyBreaks (stmt s ss)
    later_breaks : {s : Stmt} {ss : Stmts} → AnyBreaks ss → AnyBreaks (stmt s ss)

-- A `break` after one of the labels leaves the `switch`.
pub data BreaksOut : Cases → Type 0 where
  first_case : {l : Label} {ss : Stmts} {cs : Cases} → AnyBreaks ss → BreaksOut (next_case (labelled l ss) cs)
  later_case : {c : Case} {cs : Cases} → BreaksOut cs → BreaksOut (next_case c cs)

-- One of the labels is `default`.
pub data HasDefault : Cases → Type 0 where
  first_label : {ss : Stmts} {cs : Cases} → HasDefault (next_case (labelled labels.Default ss) cs)
  later_label : {c : Case} {cs : Cases} → HasDefault cs → HasDefault (next_case c cs)

mutual
  pub data Returns : Stmt → Type 0 where
    returned : {line : ℕ} {e : Option Expr} → Returns (Return line e)
    in_block : {line : ℕ} {ss : Stmts} → AnyReturns ss → Returns (Block line ss)
    in_both : {line : ℕ} {c : Expr} {s t : Stmt} → Returns s → Returns t → Returns (If line c s (branch t))
    in_switch : {line : ℕ} {k : IntType} {e : Expr} {cs : Cases}
        → HasDefault cs
        → (BreaksOut cs → ⊥)
        → LastReturns cs
        → Returns (Switch line k e cs)

  pub data AnyReturns : Stmts → Type 0 where
    first_returns : {s : Stmt} {ss : Stmts} → Returns s → AnyReturns (stmt s ss)
    later_returns : {s : Stmt} {ss : Stmts} → AnyReturns ss → AnyReturns (stmt s ss)

  -- One of the statements after the last label returns.
  pub data LastReturns : Cases → Type 0 where
    last_case : {l : Label} {ss : Stmts} → AnyReturns ss → LastReturns (next_case (labelled l ss) no_case)
    not_last_case : {c : Case} {cs : Cases} → LastReturns cs → LastReturns (next_case c cs)
