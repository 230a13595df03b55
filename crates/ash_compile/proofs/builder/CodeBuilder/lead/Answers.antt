use Rattle.std.proofs.Common.{arith, refl, subst, sym, ◌<◌}
use Rattle.ash_compile.specs.declared.builder.Written.{Written}
use Rattle.ash_compile.specs.Emission.{end_of}
use Rattle.ash_compile.specs.ValidCode.{MayStand}
use Rattle.ash_compile.proofs.ValidSteps.{placed_led}
use Rattle.ash_compile.proofs.builder.CodeBuilder.lead.Goals as goal

pub invariant_of-self : goal.invariant_of-self
invariant_of-self c =
    let old = c.self.inside.written in
    let higher = c.max-self-inside.ensures in
    let needed = c.highest_used-highest.ensures.highest in
    placed_led old _ c.self.inside.highest c.max-self-inside.result c.args.at c.args.jump c.self.invariant
    (record { code = refl; slots = refl; layout = refl })
    (subst (λ (w : Written). c.args.at < end_of w) (sym c.self.view_is) c.requires.there)
    (subst (λ (w : Written). MayStand w.layout (end_of w) c.args.at c.args.jump) (sym c.self.view_is)
    c.requires.stands)
    (omega (arith, higher, needed)) (omega (arith, higher))
