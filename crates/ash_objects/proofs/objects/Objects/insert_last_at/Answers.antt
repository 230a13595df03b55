use Rattle.std.proofs.Common.{◌≡◌, ◌++◌, ◌∷◌, [], List, Some, refl, sym, subst, ap, ◌∙◌}
use Rattle.std.specs.Prelude.{IsSome, IfSome}
use Rattle.ash_host.specs.declared.word.Word.{Word}
use Rattle.ash_host.specs.Objects.{Lives, handle}
use Rattle.ash_host.specs.ElementTags.{initial_of}
use Rattle.ash_slots.proofs.Options.{some_of, some_if}
use Rattle.ash_objects.specs.Arrays.{array_at, with_elements}
use Rattle.ash_objects.specs.Table.{Table, with_object, with_field, slot_of, field_of}
use Rattle.ash_objects.proofs.Refilling.{each_some, elements_array}
use Rattle.ash_objects.proofs.Appending.{one_longer, field_there, slot_there, alive_there, written_there}
use Rattle.ash_objects.proofs.objects.Objects.insert_last_at.Goals as goal

pub length_at-last-requires : goal.length_at-last-requires
length_at-last-requires g c = record {
  array = let n = c.requires.array.0 in
      let a = some_of (array_at n c.args.self.now) c.requires.array.2 in
      (n, c.requires.array.1, subst (λ v. IsSome v) (sym (elements_array n c.args.self.now a.0 a.1)) refl);
}

pub set_field_at-requires-clause-there : goal.set_field_at-requires-clause-there
set_field_at-requires-clause-there g c =
    let n = c.requires.array.0 in
    let t = c.args.self.now in
    let o = c.lengthen.ensures.in_order in
    let a = some_of (array_at n t) c.requires.array.2 in
    let count = some_if _ _ _ (elements_array n t a.0 a.1) (c.length_at-last.ensures.length n c.requires.array.1) in
    let first = initial_of (a.0).element in
    let grown : c.lengthen.new.self ≡ with_object n (with_elements ((a.0).elements ++ first ∷ [])) t =
    some_if _ _ a.0 a.1 (c.in-Ok.ensures.lengthened n c.requires.array.1) ∙ ap (λ (ws : List Word). with_object n (with_elements ws) t) (one_longer c.length_at-last.result a.0 count) in
    let now = slot_there n t o a.0 a.1 c.args.word first ∙ c.requires.array.1 in
    let there = field_there n t o a.0 a.1 c.args.word first in (
      n,
      subst (λ (t : Table _). slot_of n t ≡ Some c.args.slot) (sym grown) now,
      subst (λ (t : Table _). IsSome (field_of n c.length_at-last.result t)) (sym grown) (subst (λ k. IsSome (field_of n k (with_object n (with_elements ((a.0).elements ++ first ∷ [])) t))) (sym count) there),
    )

pub set_field_at-requires-clause-alive : goal.set_field_at-requires-clause-alive
set_field_at-requires-clause-alive g c =
    let n = c.requires.array.0 in
    let t = c.args.self.now in
    let o = c.lengthen.ensures.in_order in
    let a = some_of (array_at n t) c.requires.array.2 in
    let count = some_if _ _ _ (elements_array n t a.0 a.1) (c.length_at-last.ensures.length n c.requires.array.1) in
    let first = initial_of (a.0).element in
    let grown : c.lengthen.new.self ≡ with_object n (with_elements ((a.0).elements ++ first ∷ [])) t =
    some_if _ _ a.0 a.1 (c.in-Ok.ensures.lengthened n c.requires.array.1) ∙ ap (λ (ws : List Word). with_object n (with_elements ws) t) (one_longer c.length_at-last.result a.0 count) in
    subst (λ (t : Table _). IfSome (handle c.args.word) (Lives t.objects)) (sym grown) (alive_there n t o a.0 a.1 c.args.word first (handle c.args.word) c.requires.alive)

pub returns-clause-inserted : goal.returns-clause-inserted
returns-clause-inserted g c = λ n is.
    each_some _ _ (λ array there.
    let t = c.args.self.now in
    let o = c.lengthen.ensures.in_order in
    let count = some_if _ _ _ (elements_array n t array there) (c.length_at-last.ensures.length n is) in
    let first = initial_of array.element in
    let grown : c.lengthen.new.self ≡ with_object n (with_elements (array.elements ++ first ∷ [])) t =
    some_if _ _ array there (c.in-Ok.ensures.lengthened n is) ∙ ap (λ (ws : List Word). with_object n (with_elements ws) t) (one_longer c.length_at-last.result array count) in
    let now = subst (λ (t : Table _). slot_of n t ≡ Some c.args.slot) (sym grown) (slot_there n t o array there c.args.word first ∙ is) in
    c.set_field_at.ensures.written n now
    ∙ ap (λ (t : Table _). with_object n (with_field c.length_at-last.result c.args.word) t) grown
    ∙ ap (λ k. with_object n (with_field k c.args.word) (with_object n (with_elements (array.elements ++ first ∷ [])) t)) count
    ∙ written_there n t o array there c.args.word first)
