use Rattle.std.proofs.Common.{List, sym, ap, map, subst}
use Rattle.ash_typed.specs.declared.tree.statements.Initialization as initialization_code
use Rattle.ash_typed.specs.StatementTree.{Head}
use Rattle.ash_typed.specs.TypedTreeViews.{expr_of}
use Rattle.ash_typed.specs.BodyViews.{value_of, head_of}
use Rattle.ash_compile.specs.EmittedStatements.{EmitsHead, EmitsVariables}
use Rattle.ash_compile.proofs.Emitted.{if_ok}
use Rattle.ash_compile.proofs.EmittedParts as parts
use Rattle.ash_compile.proofs.builder.CodeBuilder.head.Goals as goal

pub returns-in-Empty : goal.returns-in-Empty
returns-in-Empty c = record {
  emits = subst (λ (h : Head). EmitsHead c.args.self.now c.args.self.now h c.args.locals c.args.locals)
      (sym (ap head_of c.in-Empty.is)) (parts.no_parts c.args.self.now c.args.locals);
}

pub returns-in-Declare : goal.returns-in-Declare
returns-in-Declare c = record {
  emits = if_ok c.variables.result
      (λ more emits. subst (λ (h : Head). EmitsHead c.args.self.now c.variables.new.self h c.args.locals more)
      (sym (ap head_of c.in-Declare.is))
      (parts.head_of_variables c.args.self.now c.variables.new.self (map value_of c.in-Declare.values.items) c.args.locals more
      (subst (λ (vs : List initialization_code.Initialization). EmitsVariables c.args.self.now c.variables.new.self
      (map value_of vs) c.args.locals more) c.deref.ensures.value emits)))
      c.variables.ensures.emits;
}

pub returns-in_ok-evaluation-in-Evaluate : goal.returns-in_ok-evaluation-in-Evaluate
returns-in_ok-evaluation-in-Evaluate c = record {
  emits = subst (λ (h : Head). EmitsHead c.args.self.now c.evaluation.new.self h c.args.locals c.args.locals)
      (sym (ap head_of c.in-Evaluate.is))
      (parts.head_of_evaluation c.args.self.now c.evaluation.new.self (expr_of c.in-Evaluate.expr) c.args.locals
      c.in_ok-evaluation-in-Evaluate.ensures.emits);
}
