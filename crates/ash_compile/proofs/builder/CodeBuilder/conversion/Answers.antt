use Rattle.ash_compile.proofs.Emitted.{if_ok}
use Rattle.ash_compile.proofs.Emitted as emitted
use Rattle.ash_compile.proofs.builder.CodeBuilder.conversion.Goals as goal

pub returns : goal.returns
returns c = record {
  emits = if_ok c.convert.result
      (λ u converts start e first.
      emitted.converted_by start c.args.self.now c.convert.new.self c.args.conversion e c.args.slot converts first)
      c.convert.ensures.converts;
}
