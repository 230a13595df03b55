-- Which statements return, however their conditions turn out, as a test.
use Rattle.std.specs.Prelude.{Bool, true, false, not, ◌&&◌, ◌||◌, List}
use Rattle.ash_tree.specs.declared.tree.statements.Label.{Label}
use Rattle.ash_tree.specs.declared.tree.statements.Label.TheVariants as labels
use Rattle.ash_tree.specs.Tree.{Stmt, Stmts, Case, Cases, Block, If, IfElse, Switch, Break, Return, no_stmt, stmt}
use Rattle.ash_tree.specs.Tree.{stmts, labelled, no_case, next_case}

-- a `break` that leaves what the statement is in, and no loop or `switch` inside it
abbrev mutual
  pub breaks : Stmt → Bool
  breaks (Break p) = true
  breaks (Block p ss) = any_breaks ss
  breaks (If p c s) = breaks s
  breaks (IfElse p c s t) = breaks s || breaks t
  breaks _ = false

  pub any_breaks : Stmts → Bool
  any_breaks no_stmt = false
  any_breaks (stmt s ss) = breaks s || any_breaks ss

abbrev pub breaks_out : Cases → Bool
breaks_out no_case = false
breaks_out (next_case (labelled p l ss) cs) = any_breaks ss || breaks_out cs

abbrev pub is_default : Label → Bool
is_default labels.Default = true
is_default _ = false

abbrev pub has_default : Cases → Bool
has_default no_case = false
has_default (next_case (labelled p l ss) cs) = is_default l || has_default cs

-- `last_of here cs later` is what is said of the last label, where others follow by those.
abbrev pub last_of : Bool → Cases → Bool → Bool
last_of here no_case later = here
last_of here (next_case c cs) later = later

abbrev mutual
  pub returns : Stmt → Bool
  returns (Return p e) = true
  returns (Block p ss) = any_returns ss
  returns (IfElse p c s t) = returns s && returns t
  returns (Switch p e cs) = has_default cs && (not (breaks_out cs) && last_returns cs)
  returns _ = false

  pub any_returns : Stmts → Bool
  any_returns no_stmt = false
  any_returns (stmt s ss) = returns s || any_returns ss

  -- one of the statements after the last label returns
  pub last_returns : Cases → Bool
  last_returns no_case = false
  last_returns (next_case c cs) = last_of (case_returns c) cs (last_returns cs)

  pub case_returns : Case → Bool
  case_returns (labelled p l ss) = any_returns ss

-- A body returns, however its conditions turn out.
unfoldable pub returns_in : List Stmt → Bool
returns_in body = any_returns (stmts body)
