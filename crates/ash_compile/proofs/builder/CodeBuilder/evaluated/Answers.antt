use Rattle.ash_typed.specs.TypedTreeViews.{expr_of}
use Rattle.ash_compile.proofs.Emitted.{if_ok}
use Rattle.ash_compile.proofs.EmittedSingly as singly
use Rattle.ash_compile.proofs.builder.CodeBuilder.evaluated.Goals as goal

pub returns : goal.returns
returns c = record {
  emits = if_ok c.evaluation.result
      (λ u emits breaks continues.
      singly.evaluate c.args.self.now c.tick.new.self c.evaluation.new.self c.args.line (expr_of c.args.expr.now) c.args.scope
      c.in_ok-tick.ensures.puts emits breaks continues)
      c.evaluation.ensures.emits;
}
