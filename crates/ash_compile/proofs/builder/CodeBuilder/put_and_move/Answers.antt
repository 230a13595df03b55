use Rattle.ash_compile.proofs.Emitted.{if_ok}
use Rattle.ash_compile.proofs.builder.CodeBuilder.put_and_move.Goals as goal

pub returns : goal.returns
returns c = record {
  puts = if_ok c.put-2.result (λ u puts. (c.put.new.self, c.in_ok-put.ensures.puts, puts)) c.put-2.ensures.puts;
}
