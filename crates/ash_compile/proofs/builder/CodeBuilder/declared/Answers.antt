use Rattle.std.proofs.Common.{map}
use Rattle.ash_typed.specs.BodyViews.{value_of}
use Rattle.ash_compile.specs.EmittedStatements.{with_jumps}
use Rattle.ash_compile.proofs.EmittedBlocks as blocks
use Rattle.ash_compile.proofs.builder.CodeBuilder.declared.Goals as goal

pub returns : goal.returns
returns c = record {
  emits = λ breaks continues.
      blocks.declared (with_jumps c.args.self.now breaks continues) (with_jumps c.declaration.new.self breaks continues)
      c.args.line (map value_of c.args.values.now) c.args.scope c.in_ok-declaration.field-0
      (c.in_ok-declaration.ensures.emits breaks continues);
}
