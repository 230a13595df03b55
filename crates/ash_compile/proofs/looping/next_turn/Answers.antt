use Rattle.std.proofs.Common.{sym, ap, subst}
use Rattle.std.specs.Prelude.{Option, option_map}
use Rattle.ash_typed.specs.declared.tree.expressions.Expr as expr_code
use Rattle.ash_typed.specs.TypedTree.{Expr}
use Rattle.ash_typed.specs.TypedTreeViews.{expr_of}
use Rattle.ash_compile.specs.EmittedStatements.{NextTurn}
use Rattle.ash_compile.proofs.looping.next_turn.Goals as goal

pub returns-in-None : goal.returns-in-None
returns-in-None c = record { next = NextTurn.leads_back }

pub returns-in-Some : goal.returns-in-Some
returns-in-Some c = record {
  next = subst (λ (o : Option Expr). NextTurn o c.args.line c.args.head c.args.body c.next_test.result)
      (sym (ap (λ (o : Option expr_code.Expr). option_map expr_of o) c.in-Some.is)) c.next_test.ensures.next;
}
