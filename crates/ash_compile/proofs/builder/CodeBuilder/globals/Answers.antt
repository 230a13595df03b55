use Rattle.std.proofs.Common.{List, ℕ, ◌+◌, drop, map, sym, subst}
use Rattle.ash_typed.specs.BodyViews.{value_of}
use Rattle.ash_typed.specs.StatementTree.{Initialization}
use Rattle.ash_compile.specs.EmittedParts.{EmitsGlobals}
use Rattle.ash_compile.proofs.EmittedGlobals.{no_globals, more_globals}
use Rattle.ash_compile.proofs.Listings.{rest_here, rest_none}
use Rattle.ash_compile.proofs.builder.CodeBuilder.globals.Goals as goal

pub loop-global-init : goal.loop-global-init
loop-global-init c = λ new emits. emits

pub loop-global-preserved : goal.loop-global-preserved
loop-global-preserved c = λ new emits.
    let l = c.loop-global in
    let global = c.global-item.result in
    let rest = map value_of (drop (l.global-index + 1) c.args.globals.now) in
    l.invariant new (subst (λ (vs : List Initialization). EmitsGlobals l.self new l.place vs)
    (sym (rest_here value_of c.args.globals.now l.global-index global c.loop-global-test.true c.global-item.is))
    (more_globals l.self c.global.new.self new l.place (value_of global) rest c.in_ok-global.ensures.emits
    (subst (λ (n : ℕ). EmitsGlobals c.global.new.self new n rest) c.in_ok-place.ensures.place emits)))

pub returns : goal.returns
returns c = record {
  emits = c.loop-global.invariant c.loop-global.self
      (subst (λ (vs : List Initialization). EmitsGlobals c.loop-global.self c.loop-global.self c.loop-global.place vs)
      (sym (rest_none value_of c.args.globals.now c.loop-global.global-index c.loop-global-test.false))
      (no_globals c.loop-global.self c.loop-global.place));
}
