use Rattle.std.proofs.Common.{List, ℕ, sym, refl, subst}
use Rattle.ash_typed.specs.StatementTree.{Break}
use Rattle.ash_compile.specs.EmittedStatements.{draft, with_jumps, EmitsStatement}
use Rattle.ash_compile.proofs.EmittedSingly as singly
use Rattle.ash_compile.proofs.builder.CodeBuilder.break_out.Goals as goal

pub returns : goal.returns
returns c = record {
  emits = subst (λ (places : List ℕ). EmitsStatement (draft c.args.self.now c.args.jumps.now)
      (with_jumps c.leave.new.self places (c.args.jumps.now.continues).items) (Break c.args.line) c.args.scope)
      (sym c.in_ok-push.ensures.items)
      (singly.break_out c.args.self.now c.leave.new.self c.args.line c.args.scope.broken c.args.scope.locals c.in_ok-jump.jump
      c.in_ok-jump.ensures.leaves c.args.scope (c.args.jumps.now.breaks).items (c.args.jumps.now.continues).items refl);
}
