use Rattle.std.proofs.Common.{subst, sym, ap, refl}
use Rattle.std.specs.Prelude.{Option, Some, None, option_map}
use Rattle.ash_typed.specs.declared.tree.expressions.Expr as expr_code
use Rattle.ash_typed.specs.TypedTree.{Expr}
use Rattle.ash_typed.specs.TypedTreeViews.{expr_of}
use Rattle.ash_compile.specs.EmittedStatements.{MayTest}
use Rattle.ash_compile.proofs.builder.CodeBuilder.turn_condition.Goals as goal

pub returns-in-None : goal.returns-in-None
returns-in-None c = record {
  tests = subst (λ (o : Option Expr). MayTest c.args.self.now c.args.self.now o c.args.slot None)
      (sym (ap (λ (o : Option expr_code.Expr). option_map expr_of o) c.in-None.is)) (refl, refl);
}

pub returns-in_ok-branch-in-Some : goal.returns-in_ok-branch-in-Some
returns-in_ok-branch-in-Some c = record {
  tests = subst (λ (o : Option Expr). MayTest c.args.self.now c.condition.new.self o c.args.slot
      (Some c.in_ok-branch-in-Some.branch))
      (sym (ap (λ (o : Option expr_code.Expr). option_map expr_of o) c.in-Some.is))
      (c.in_ok-branch-in-Some.branch, refl, c.in_ok-branch-in-Some.ensures.emits);
}
