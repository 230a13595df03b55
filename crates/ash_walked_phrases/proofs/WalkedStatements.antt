-- Statements that the code has in vectors come to what their definitions say.
use Rattle.std.proofs.Common.{◌≡◌, ℕ, ap, ◌∙◌, refl, map, Vec, Global}
use Rattle.ash_typed.specs.declared.tree.statements.StmtKind.TheVariants as kinds
use Rattle.ash_typed.specs.declared.tree.statements.StmtKind.TheViews as views
use Rattle.ash_typed.specs.declared.tree.statements.Stmt as stmt_code
use Rattle.ash_typed.specs.declared.tree.statements.Initialization as initialization_code
use Rattle.ash_typed.specs.declared.tree.statements.Case as case_code
use Rattle.ash_typed.specs.declared.tree.expressions.Expr as expr_code
use Rattle.ash_integers.specs.declared.int_type.IntType.{IntType}
use Rattle.ash_typed.specs.TypedTreeViews.{expr_of}
use Rattle.ash_typed.specs.StatementTree.{Stmt, Declare, Switch, cases}
use Rattle.ash_typed.specs.BodyViews.{stmt_at, stmt_of, body_of, value_of, case_of}
use Rattle.ash_typed.proofs.StatementRows.{block_is, switch_is}
use Rattle.ash_meaning.specs.Activity.{Activity}
use Rattle.ash_meaning.specs.CallMeaning.{Calls}
use Rattle.ash_meaning.specs.StatementMeaning.{statement, statements, in_block}

pub block_follows : (calls : Calls) (depth : ℕ) (s : stmt_code.Stmt) (ss : Vec stmt_code.Stmt Global) (a : Activity) → s.kind ≡ views.Block ss → statement calls depth (stmt_of s) a ≡ in_block (statements calls depth (body_of ss.items)) a
block_follows calls depth s ss a is =
    ap (λ (x : Stmt). statement calls depth x a) (ap (stmt_at s.line) is ∙ block_is s.line ss)

declare_is : (line : ℕ) (vs : Vec initialization_code.Initialization Global) → stmt_at line (kinds.Declare vs) ≡ Declare line (map value_of vs.items)
declare_is line vs = refl

pub declare_follows : (calls : Calls) (depth : ℕ) (s : stmt_code.Stmt) (vs : Vec initialization_code.Initialization Global) (a : Activity) → s.kind ≡ kinds.Declare vs → statement calls depth (stmt_of s) a ≡ statement calls depth (Declare s.line (map value_of vs.items)) a
declare_follows calls depth s vs a is =
    ap (λ (x : Stmt). statement calls depth x a) (ap (stmt_at s.line) is ∙ declare_is s.line vs)

pub switch_follows : (calls : Calls) (depth : ℕ) (s : stmt_code.Stmt) (of : IntType) (e : expr_code.Expr) (cs : Vec case_code.Case Global) (a : Activity) → s.kind ≡ views.Switch of e cs → statement calls depth (stmt_of s) a ≡ statement calls depth (Switch s.line of (expr_of e) (cases (map case_of cs.items))) a
switch_follows calls depth s of e cs a is =
    ap (λ (x : Stmt). statement calls depth x a) (ap (stmt_at s.line) is ∙ switch_is s.line of e cs)
