use Rattle.std.proofs.Common.{◌≡◌, List, ℕ, ◌+◌, drop, map, length, sym, ap, arith, ◌∙◌, subst}
use Rattle.std.proofs.lemmas.List.{length-map}
use Rattle.ash_typed.specs.BodyViews.{value_of}
use Rattle.ash_typed.specs.Modules.{Variables, variables_of}
use Rattle.ash_compile.specs.EmittedParts.{EmitsDeclarations, EmitsGlobals}
use Rattle.ash_compile.proofs.EmittedGlobals.{no_variables, more_variables}
use Rattle.ash_compile.proofs.Listings.{rest_here, rest_none}
use Rattle.ash_compile.proofs.builder.CodeBuilder.module_globals.Goals as goal

pub loop-declared-init : goal.loop-declared-init
loop-declared-init c = λ new emits. emits

pub loop-declared-preserved : goal.loop-declared-preserved
loop-declared-preserved c = λ new emits.
    let l = c.loop-declared in
    let declared = c.declared-item.result in
    let rest = map variables_of (drop (l.declared-index + 1) c.args.variables.now) in
    let many : c.len.result ≡ length (map value_of declared.initializations.items)
    = omega (arith, length-map declared.initializations.items value_of, c.len.ensures, declared.initializations.ok.0) in
    l.invariant new (subst (λ (ds : List Variables). EmitsDeclarations l.self new l.place ds)
    (sym (rest_here variables_of c.args.variables.now l.declared-index declared c.loop-declared-test.true
    c.declared-item.is))
    (more_variables l.self c.tick.new.self c.globals.new.self new l.place (variables_of declared) rest
    c.in_ok-tick.ensures.puts
    (subst (λ (vs : List _). EmitsGlobals c.tick.new.self c.globals.new.self l.place (map value_of vs))
    c.deref.ensures.value
    c.in_ok-globals.ensures.emits)
    (subst (λ (n : ℕ). EmitsDeclarations c.globals.new.self new n rest)
    (c.in_ok-place.ensures.place ∙ ap (λ (k : ℕ). l.place + k) many) emits)))

pub returns : goal.returns
returns c = record {
  emits = c.loop-declared.invariant c.loop-declared.self
      (subst (λ (ds : List Variables). EmitsDeclarations c.loop-declared.self c.loop-declared.self
      c.loop-declared.place ds)
      (sym (rest_none variables_of c.args.variables.now c.loop-declared.declared-index c.loop-declared-test.false))
      (no_variables c.loop-declared.self c.loop-declared.place));
}
