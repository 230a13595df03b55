use Rattle.std.proofs.Common.{◌≡◌, ◌≤◌, ℕ, ◌+◌, map, refl, sym, ap, ◌∙◌, arith}
use Rattle.ash_typed.specs.Modules.{interface_of}
use Rattle.ash_compile.specs.Layout.{classes_before}
use Rattle.ash_compile.proofs.Layouts.{before_there, grown}
use Rattle.ash_compile.proofs.layout.places_of_interfaces.Goals as goal

pub loop-index-preserved : goal.loop-index-preserved
loop-index-preserved c =
    let here = c.loop-index in
    let item = c.index-interfaces-index in
    let is = c.in_ok-place_at.ensures.place in
    grown (λ (k : ℕ). k + classes_before k (map interface_of c.args.interfaces.now)) (here.places).items
    (c.push.new.self).items
    c.in_ok-place_at.field-0 here.index c.in_ok-push.ensures.items here.invariant.0
    (sym (is ∙ ap (λ (n : ℕ). here.index + n)
    (sym (before_there here.index c.args.interfaces.now item.result c.loop-index-test.true item.is)))) here.invariant.1

pub returns : goal.returns
returns c = record { places = λ interface low. c.loop-index.invariant.1 interface (omega arith) }
