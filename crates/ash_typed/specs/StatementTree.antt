-- The typed tree of a statement is given here without where its parts lie in memory; each statement has the line of its
-- first token.
use Rattle.std.specs.Prelude.{ℕ, List, [], ◌∷◌, Option}
use Rattle.ash_tree.specs.declared.tree.statements.Label.{Label}
use Rattle.ash_integers.specs.declared.int_type.IntType.{IntType}
use Rattle.ash_typed.specs.declared.types.VarType.{VarType}
use Rattle.ash_typed.specs.declared.tree.statements.Test.{Test}
use Rattle.ash_typed.specs.TypedTree.{Expr}

-- A variable that is declared has a name, a type, and what it begins with; where nothing is written, it begins with
-- zero, `false` or null.
pub record Initialization : Type 0 where
  pub name : List ℕ
  pub of : VarType
  pub value : Option Expr

-- The head of a `for` is nothing, variables, or an expression.
pub data Head : Type 0 where
  no_head : Head
  declared_head : List Initialization → Head
  evaluated_head : Expr → Head

mutual
  pub data Stmt : Type 0 where
    Empty : ℕ → Stmt
    Declare : ℕ → List Initialization → Stmt
    Evaluate : ℕ → Expr → Stmt
    Block : ℕ → Stmts → Stmt
    If : ℕ → Expr → Stmt → Branch → Stmt
    Repeat : ℕ → Loop → Stmt
    For : ℕ → Head → Loop → Stmt
    Switch : ℕ → IntType → Expr → Cases → Stmt
    Break : ℕ → Stmt
    Continue : ℕ → Stmt
    Return : ℕ → Option Expr → Stmt

  -- A branch follows `else`, where it is written.
  pub data Branch : Type 0 where
    no_branch : Branch
    branch : Stmt → Branch

  -- A loop says when its condition is evaluated, and has the condition, the steps and the body.
  pub data Loop : Type 0 where
    repeated : Test → Option Expr → List Expr → Stmt → Loop

  pub data Stmts : Type 0 where
    no_stmt : Stmts
    stmt : Stmt → Stmts → Stmts

  -- A label of a `switch` has the statements after it.
  pub data Case : Type 0 where
    labelled : Label → Stmts → Case

  pub data Cases : Type 0 where
    no_case : Cases
    next_case : Case → Cases → Cases

-- A body has these statements.
abbrev pub Body : Type 0
Body = Stmts

abbrev pub stmts : List Stmt → Stmts
stmts [] = no_stmt
stmts (s ∷ ss) = stmt s (stmts ss)

abbrev pub cases : List Case → Cases
cases [] = no_case
cases (c ∷ cs) = next_case c (cases cs)
