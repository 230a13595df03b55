use Rattle.std.proofs.Common.{◌≡◌, ◌≤◌, ℕ, ◌+◌, map, refl, sym, ap, ◌∙◌, arith}
use Rattle.ash_typed.specs.Modules.{interface_of}
use Rattle.ash_compile.specs.Layout.{interfaces_before}
use Rattle.ash_compile.proofs.Layouts.{grown}
use Rattle.ash_compile.proofs.layout.places_of_classes.Goals as goal

pub loop-class-preserved : goal.loop-class-preserved
loop-class-preserved c =
    let here = c.loop-class in
    let is = c.in_ok-place_at.ensures.place in
    grown (λ (k : ℕ). k + interfaces_before k (map interface_of c.args.interfaces.now)) (here.places).items
    (c.push.new.self).items
    c.in_ok-place_at.field-0 here.class c.in_ok-push.ensures.items here.invariant.0
    (sym (is ∙ ap (λ (n : ℕ). here.class + n) c.count_before.ensures.count)) here.invariant.1

pub returns : goal.returns
returns c = record { places = λ class low. c.loop-class.invariant.1 class (omega arith) }
