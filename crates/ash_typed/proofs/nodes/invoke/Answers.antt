use Rattle.std.proofs.Common.{◌≡◌, IfOk}
use Rattle.ash_typed.specs.TypedTree.{Expr}
use Rattle.ash_typed.specs.TypedTreeViews.{expr_of}
use Rattle.std.proofs.Common.{subst}
use Rattle.ash_typed.proofs.Rows.{invoke_is}
use Rattle.ash_typed.proofs.nodes.invoke.Goals as goal

pub returns-clause-value : goal.returns-clause-value
returns-clause-value c =
    subst (λ (x : Expr). IfOk c.link.result (λ e. expr_of e ≡ x))
    (invoke_is (expr_of c.args.object) c.args.method c.args.parameters c.args.arguments) c.link.ensures.value
