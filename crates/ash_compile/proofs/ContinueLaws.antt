-- Statements without `continue`.
use Rattle.std.proofs.Common.{◌≡◌, ℕ, List, sym, ap, ◌∙◌, subst}
use Rattle.std.specs.Prelude.{Option}
use Rattle.ash_typed.specs.declared.tree.statements.StmtKind.{StmtKind}
use Rattle.ash_typed.specs.BodyViews.{stmt_at}
use Rattle.ash_typed.specs.TypedTree.{Expr}
use Rattle.ash_typed.specs.StatementTree.{Initialization, Head, Loop, Stmt, Empty, Declare, Evaluate, Block, If}
use Rattle.ash_typed.specs.StatementTree.{no_branch, branch, Repeat, For, Break, Return, Stmts, no_stmt, stmt}
use Rattle.ash_typed.specs.SoundStatements.{TypedScope, IsSoundStmt, AreSoundStmts, IsLoop}
use Rattle.ash_typed.specs.SoundStatements as typing
use Rattle.ash_compile.specs.EmittedStatements.{without_continue, HasNoContinue, HaveNoContinue}

pub of_kind : (line : ℕ) (k l : StmtKind) (x : Stmt) → k ≡ l → stmt_at line l ≡ x → HasNoContinue x
    → HasNoContinue (stmt_at line k)
of_kind line k l x is means none = subst (λ (y : Stmt). HasNoContinue y) (sym (ap (stmt_at line) is ∙ means)) none

pub none_in_empty : {line : ℕ} → HasNoContinue (Empty line)
none_in_empty scope typing.empty = typing.empty

pub none_in_declaration : {line : ℕ} {vs : List Initialization} → HasNoContinue (Declare line vs)
none_in_declaration scope sound = elim sound [ ]

pub none_in_evaluation : {line : ℕ} {e : Expr} → HasNoContinue (Evaluate line e)
none_in_evaluation scope (typing.evaluate typed) = typing.evaluate typed

loop_inside : (scope : TypedScope) (inside : Loop) → IsLoop scope inside → IsLoop (without_continue scope) inside
loop_inside scope _ (typing.loop condition steps body) = typing.loop condition steps body

pub none_in_repeat : {line : ℕ} {inside : Loop} → HasNoContinue (Repeat line inside)
none_in_repeat {inside = inside} scope (typing.repeat sound) = typing.repeat (loop_inside scope inside sound)

pub none_in_for : {line : ℕ} {head : Head} {inside : Loop} → HasNoContinue (For line head inside)
none_in_for {inside = inside} scope (typing.for {types = types} head sound) =
    typing.for head (loop_inside (typing.declaring scope types) inside sound)

pub none_in_break : {line : ℕ} → HasNoContinue (Break line)
none_in_break scope (typing.break_out may) = typing.break_out may

pub none_in_return : {line : ℕ} {value : Option Expr} → HasNoContinue (Return line value)
none_in_return scope (typing.return_nothing none) = typing.return_nothing none
none_in_return scope (typing.return_value some fitting) = typing.return_value some fitting

pub none_in_block : {line : ℕ} {xs : Stmts} → HaveNoContinue xs → HasNoContinue (Block line xs)
none_in_block none scope (typing.block sound) = typing.block (none scope sound)

pub none_in_if : {line : ℕ} {e : Expr} {x : Stmt} → HasNoContinue x → HasNoContinue (If line e x no_branch)
none_in_if none scope (typing.if_only condition sound) = typing.if_only condition (none scope sound)

pub none_in_if_else : {line : ℕ} {e : Expr} {x y : Stmt} → HasNoContinue x → HasNoContinue y
    → HasNoContinue (If line e x (branch y))
none_in_if_else first second scope (typing.if_else condition sound other) =
    typing.if_else condition (first scope sound) (second scope other)

pub none_in_nothing : HaveNoContinue no_stmt
none_in_nothing scope typing.no_stmts = typing.no_stmts

pub none_in_more : {x : Stmt} {xs : Stmts} → HasNoContinue x → HaveNoContinue xs → HaveNoContinue (stmt x xs)
none_in_more first rest scope (typing.declare {types = types} declares sound) =
    typing.declare declares (rest (typing.declaring scope types) sound)
none_in_more first rest scope (typing.more_stmts sound others) = typing.more_stmts (first scope sound) (rest scope others)
