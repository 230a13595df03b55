use Rattle.std.proofs.Common.{◌≡◌, rules}
use Rattle.ash_compile.proofs.Operands as emitted
use Rattle.ash_compile.proofs.builder.CodeBuilder.converted.Goals as goal

pub returns-then-eq-clause-emits : goal.returns-then-eq-clause-emits
returns-then-eq-clause-emits c =
    let same : c.args.conversion.from ≡ c.args.conversion.to = search rules in
    λ start e first.
    emitted.unconverted_in start c.args.self.now c.args.conversion e c.args.slot c.args.left same first

pub returns-clause-emits : goal.returns-clause-emits
returns-clause-emits c = λ start e first.
    emitted.convert_in start c.args.self.now c.put.new.self c.args.conversion e c.args.slot c.args.left first
    c.in_ok-put.ensures.puts
