use Rattle.std.proofs.Common.{ap}
use Rattle.std.specs.Prelude.{Option, option_map}
use Rattle.ash_typed.specs.declared.tree.expressions.Expr as expr_code
use Rattle.ash_typed.specs.TypedTreeViews.{expr_of}
use Rattle.ash_typed.specs.BodyViews.{value_of}
use Rattle.ash_compile.proofs.Emitted.{if_ok}
use Rattle.ash_compile.proofs.EmittedParts as parts
use Rattle.ash_compile.proofs.builder.CodeBuilder.variable_begins.Goals as goal

pub returns-in_ok-put-in-None : goal.returns-in_ok-put-in-None
returns-in_ok-put-in-None c = record {
  emits = if_ok c.put-in-None.result
      (λ u puts. parts.zero_variable c.args.self.now c.put.new.self c.put-in-None.new.self (value_of c.args.value.now)
      c.args.slot c.zero_word-word.result (ap (λ (o : Option expr_code.Expr). option_map expr_of o) c.in-None.is)
      c.zero_word-word.ensures.word c.in_ok-put-in-None.ensures.puts puts)
      c.put-in-None.ensures.puts;
}

pub returns-in_ok-expression-in-Some : goal.returns-in_ok-expression-in-Some
returns-in_ok-expression-in-Some c = record {
  emits = if_ok c.put-in-Some.result
      (λ u puts. parts.value_variable c.args.self.now c.expression.new.self c.put-in-Some.new.self (value_of c.args.value.now)
      c.args.slot (expr_of c.in-Some.expr) (ap (λ (o : Option expr_code.Expr). option_map expr_of o) c.in-Some.is)
      c.in_ok-expression-in-Some.ensures.emits puts)
      c.put-in-Some.ensures.puts;
}
