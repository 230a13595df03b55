use Rattle.std.proofs.Common.{◌≡◌, ◌≤◌, ℕ, ◌+◌, map, length, refl, sym, ap, ◌∙◌, arith}
use Rattle.std.proofs.lemmas.List.{length-map}
use Rattle.ash_typed.specs.Modules.{class_of, function_of}
use Rattle.ash_compile.specs.Layout.{methods_before}
use Rattle.ash_compile.proofs.Layouts.{methods_next, grown}
use Rattle.ash_compile.proofs.layout.first_methods.Goals as goal

pub loop-class-preserved : goal.loop-class-preserved
loop-class-preserved c =
    let here = c.loop-class in
    let item = c.class-item.result in
    let classes = c.args.classes.now in
    let more = methods_next classes here.class-index item c.loop-class-test.true c.class-item.is in
    let own : length (map function_of (item.methods).items) ≡ length (item.methods).items = length-map
    (item.methods).items function_of in
    let next = c.in_ok-next.ensures.sum in
    let all = grown (λ (k : ℕ). c.args.first + methods_before k (map class_of classes)) (here.methods).items
    (c.push.new.self).items
    here.next here.class-index c.in_ok-push.ensures.items here.invariant.0 (sym here.invariant.1) here.invariant.2 in
    (all.0, omega (arith, next, more, own, here.invariant.1, c.len.ensures), all.1)

pub returns : goal.returns
returns c = record { methods = λ class low. c.loop-class.invariant.2 class (omega arith) }
