use Rattle.ash_compile.proofs.Emitted.{if_ok}
use Rattle.ash_compile.proofs.builder.CodeBuilder.full_value.Goals as goal

pub returns : goal.returns
returns c = record {
  emits = if_ok c.put.result
      (λ u puts. record { mid = c.expression.new.self; emits = c.in_ok-expression.ensures.emits; puts = puts })
      c.put.ensures.puts;
}
