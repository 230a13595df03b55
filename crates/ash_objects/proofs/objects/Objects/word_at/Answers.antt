use Rattle.std.proofs.Common.{◌≡◌, ℕ, List, length, refl, sym, ap, ◌∙◌, Option, Some, None}
use Rattle.std.specs.Prelude.{slice_get}
use Rattle.std.specs.Borrow.{Bor}
use Rattle.std.specs.Option.{option_map, option_and_then, option_copied}
use Rattle.std.specs.Slice.{IsItemAt}
use Rattle.std.proofs.lemmas.Option.{slice_get_past, slice_get_read}
use Rattle.ash_host.specs.Objects.{object_at}
use Rattle.ash_slots.specs.declared.body.Body.{Body}
use Rattle.ash_slots.specs.Bodies.{words_of}
use Rattle.ash_objects.specs.Table.{Living}
use Rattle.ash_objects.specs.Counting.{living_in}
use Rattle.ash_objects.proofs.Views.{in_view, body_view, body_item}
use Rattle.ash_objects.proofs.objects.Objects.word_at.Goals as goal

-- what a slice gives at a place, copied
got_copied : {A : Type 0} (xs : List A) (i : ℕ) (r : Option (Bor A)) → IsItemAt xs i r → option_copied r ≡ slice_get xs i
got_copied xs i None item = sym (slice_get_past xs i item.3)
got_copied xs i (Some x) item = sym (slice_get_read xs (length xs) i x.now refl item.3.0 (item.3.1 x.now))

-- the words of an object are those of its body
word_of : {B : Type 0} (place : ℕ) (body : Body B) (v : Option (Living B)) → option_map (λ object. object.body) v ≡ Some body
    → slice_get (words_of body) place ≡ option_and_then (λ object. slice_get (words_of object.body) place) v
word_of place body None is = absurd (cc)
word_of place body (Some p) is = let one : p.body ≡ body = cc in ap (λ (b : Body _). slice_get (words_of b) place) (sym one)

pub item-requires : goal.item-requires
item-requires g c = record {
  occupied = let at = rw (← c.self.view_is) at c.requires.lives.1 in
      (c.requires.lives.0, in_view c.requires.lives.0 c.args.slot c.self.inside.store.objects at);
}

pub returns : goal.returns
returns g c = record {
  word = λ number is.
      let at = rw (← c.self.view_is) at is in
      let l = c.self.inside.store.objects in
      let body = body_view number l ∙ body_item number l c.item.result.now (c.item.ensures.value number (in_view number c.args.slot l at)) in
      let word = word_of c.args.place (c.item.result.now).body (object_at number (living_in l)) body in
      rw (← c.self.view_is) (c.copied.ensures ∙ got_copied c.words.result.now c.args.place c.get.result c.get.ensures.lookup ∙ ap (λ (ws : List _). slice_get ws c.args.place) c.words.ensures.words ∙ word);
}
