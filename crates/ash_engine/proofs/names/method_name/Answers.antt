use Rattle.std.proofs.Common.{◌≡◌, ◌<◌, ◌≤◌, ◌+◌, ◌-◌, List, ℕ, length, drop, ap, ◌∙◌, subst, slice_get, arith}
use Rattle.std.specs.Prelude.{IfOk, string_bytes}
use Rattle.ash_meaning.specs.Classes.{dotted}
use Rattle.ash_engine.proofs.EntryNames.{named, methods_of, method_here, method_later, no_method}
use Rattle.ash_engine.proofs.names.method_name.Goals as goal

pub returns-then-rest-len : goal.returns-then-rest-len
returns-then-rest-len c =
    let cs = c.args.classes.now in
    let one = c.class-item.result in
    let few : c.loop-class.rest < length one.methods.items = omega (arith, c.len.ensures, c.if-rest-len.true) in
    let is = method_here cs c.loop-class.class-index c.loop-class.rest one c.index.result.now c.loop-class-test.true c.class-item.is few c.index.ensures in
    let same = (λ i. dotted (c.as_str.ensures.value i) (c.as_str-then-rest-len.ensures.value i)) ∙ is ∙ ap named c.loop-class.invariant in
    record { name = subst (λ (x : List ℕ). IfOk c.dotted.result (λ name. string_bytes name ≡ x)) same c.dotted.ensures.value }

pub loop-class-preserved : goal.loop-class-preserved
loop-class-preserved c =
    let cs = c.args.classes.now in
    let one = c.class-item.result in
    let past : length one.methods.items ≤ c.loop-class.rest = omega (arith, c.len.ensures, c.if-rest-len.false) in
    let count : c.len-rest.result ≡ length one.methods.items = omega (arith, c.len-rest.ensures) in
    ap (λ (n : ℕ). slice_get (methods_of (drop (c.loop-class.class-index + 1) cs)) (c.loop-class.rest - n)) count
    ∙ method_later cs c.loop-class.class-index c.loop-class.rest one c.loop-class-test.true c.class-item.is past
    ∙ c.loop-class.invariant

pub returns : goal.returns
returns c =
    let same = no_method c.args.classes.now c.loop-class.class-index c.loop-class.rest c.loop-class-test.false ∙ ap named c.loop-class.invariant in
    record { name = subst (λ (x : List ℕ). IfOk c.from_str.result (λ name. string_bytes name ≡ x)) same c.from_str.ensures.ok }
