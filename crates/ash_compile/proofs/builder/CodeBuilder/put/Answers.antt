use Rattle.std.proofs.Common.{arith, refl, subst, sym, ◌+◌}
use Rattle.ash_compile.specs.declared.builder.Written.{Written}
use Rattle.ash_compile.specs.Emission.{end_of}
use Rattle.ash_compile.specs.ValidCode.{MayStand}
use Rattle.ash_compile.proofs.ValidSteps.{placed_put, placed_same}
use Rattle.ash_compile.proofs.builder.CodeBuilder.put.Goals as goal

pub invariant_of-self : goal.invariant_of-self
invariant_of-self c =
    let old = c.self.inside.written in
    placed_same old (record { instructions = c.push.new.self; slots = old.slots; layout = old.layout })
    c.self.inside.highest
    c.self.invariant refl c.in_err-push.ensures.items

pub invariant_of-self-2 : goal.invariant_of-self-2
invariant_of-self-2 c =
    let old = c.self.inside.written in
    let new : Written = record {
      instructions = c.push.new.self;
      slots = c.max-self-inside.result;
      layout =
          old.layout;
    } in
    let higher = c.max-self-inside-2.ensures in
    let needed = c.highest_used-highest.ensures.highest in
    placed_put old new c.self.inside.highest c.max-self-inside-2.result c.args.instruction c.self.invariant refl
    c.in_ok-push.ensures.items
    (subst (λ (w : Written). MayStand w.layout (end_of w + 1) (end_of w) c.args.instruction) (sym c.self.view_is)
    c.requires.stands)
    (omega (arith, higher, needed)) (omega (arith, higher))
