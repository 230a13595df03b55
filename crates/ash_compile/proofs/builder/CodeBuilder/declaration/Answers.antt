use Rattle.std.proofs.Common.{map}
use Rattle.ash_typed.specs.BodyViews.{value_of}
use Rattle.ash_compile.proofs.Emitted.{if_ok}
use Rattle.ash_compile.proofs.EmittedBlocks as blocks
use Rattle.ash_compile.proofs.builder.CodeBuilder.declaration.Goals as goal

pub returns : goal.returns
returns c = record {
  emits = if_ok c.variables.result
      (λ more emits breaks continues.
      blocks.declaration c.args.self.now c.tick.new.self c.variables.new.self c.args.line (map value_of c.args.values.now)
      c.args.scope more c.in_ok-tick.ensures.puts emits breaks continues)
      c.variables.ensures.emits;
}
