use Rattle.std.proofs.Common.{◌≡◌, ◌++◌, ◌∷◌, ◌+◌, List, ℕ, drop, sym, ap, ◌∙◌, arith}
use Rattle.ash_host.specs.Objects.{numbers}
use Rattle.ash_objects.specs.declared.restoring.SavedObject.{SavedObject}
use Rattle.ash_objects.specs.Restoring.{stored_in}
use Rattle.ash_objects.proofs.Referring.{rest_got, rest_over}
use Rattle.ash_objects.proofs.Marks.{appended, nothing_more}
use Rattle.ash_objects.proofs.restoring.numbers_of.Goals as goal

pub loop-object-preserved : goal.loop-object-preserved
loop-object-preserved c =
    let k = c.loop-object.object-index in
    let objects = c.args.objects.now in
    let o = c.object-item.result in
    let next : drop k objects ≡ o ∷ drop (k + 1) objects = rest_got objects k o c.loop-object-test.true ∙ ap (λ (x : SavedObject). x ∷ drop (k + 1) objects) (sym c.object-item.is) in
    record {
      rest =
          ap (λ (ns : List ℕ). ns ++ numbers (stored_in (drop (k + 1) objects))) c.push_reserved.ensures.items
          ∙ appended c.loop-object.list.items (numbers (stored_in (drop (k + 1) objects))) o.number
          ∙ ap (λ (os : List SavedObject). c.loop-object.list.items ++ numbers (stored_in os)) (sym next)
          ∙ c.loop-object.invariant.rest;
      many = omega (arith, c.push_reserved.ensures.len, c.loop-object.invariant.many);
      room = omega (arith, c.push_reserved.ensures.capacity, c.loop-object.invariant.room);
    }

pub returns-clause-numbers : goal.returns-clause-numbers
returns-clause-numbers c =
    let over = rest_over c.args.objects.now c.loop-object.object-index c.loop-object-test.false in
    sym (nothing_more c.loop-object.list.items)
    ∙ ap (λ (os : List SavedObject). c.loop-object.list.items ++ numbers (stored_in os)) (sym over)
    ∙ c.loop-object.invariant.rest
