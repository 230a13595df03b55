use Rattle.std.proofs.Common.{◌≡◌, ℕ, List, [], refl, sym, ap, ◌∙◌, subst, take, drop}
use Rattle.std.specs.Prelude.{IsSome}
use Rattle.ash_host.specs.declared.word.Word.{Word}
use Rattle.ash_slots.specs.SlotArrays.{stored_array, refilled}
use Rattle.ash_slots.specs.Store.{SlotEntry, IsIn, change_at}
use Rattle.ash_objects.specs.Counting.{release_all}
use Rattle.ash_objects.proofs.Views.{in_view}
use Rattle.ash_objects.proofs.Refilling.{each_some, found_array, array_view, covers_shorter, in_shorter, array_shorter, view_shorter, table_shorter}
use Rattle.ash_objects.proofs.Releasing.{released_face}
use Rattle.ash_objects.proofs.Listed.{slot_within, listed_change, listed_covers, listed_faces}
use Rattle.ash_slots.proofs.Options.{some_if}
use Rattle.ash_objects.proofs.objects.Objects.shorten.Goals as goal

pub take_elements-words-requires : goal.take_elements-words-requires
take_elements-words-requires g c = record {
  array = let l = c.self.inside.store.objects in
      let t = c.self.invariant.table in
      let n = c.requires.array_of_table.0 in
      let len = c.args.len in
      let a = found_array n l (rw (← c.self.view_is) at c.requires.array_of_table.2) in
      let at = rw (← c.self.view_is) at c.requires.array_of_table.1 in
      let here = in_view n c.args.slot l at in
      (n, here, subst (λ v. IsSome v) (sym a.1) refl);
}

pub release_words-requires : goal.release_words-requires
release_words-requires g c = record {
  within =
      λ m.
      let l = c.self.inside.store.objects in
      let t = c.self.invariant.table in
      let n = c.requires.array_of_table.0 in
      let len = c.args.len in
      let a = found_array n l (rw (← c.self.view_is) at c.requires.array_of_table.2) in
      let at = rw (← c.self.view_is) at c.requires.array_of_table.1 in
      let here = in_view n c.args.slot l at in
      let taken = c.take_elements-words.ensures.taken n here in
      let elements = some_if _ _ a.0 a.1 (c.take_elements-words.ensures.elements n here) in
      let es = (a.0).elements in
      let cut = c.suffix.ensures.suffix ∙ ap (λ (ws : List Word). drop len ws) elements in
      rw (cut, taken) (covers_shorter n len a.0 l _ _ t a.1 m);
}

pub set_elements-requires : goal.set_elements-requires
set_elements-requires g c = record {
  array = let l = c.self.inside.store.objects in
      let t = c.self.invariant.table in
      let n = c.requires.array_of_table.0 in
      let len = c.args.len in
      let a = found_array n l (rw (← c.self.view_is) at c.requires.array_of_table.2) in
      let at = rw (← c.self.view_is) at c.requires.array_of_table.1 in
      let here = in_view n c.args.slot l at in
      let taken = c.take_elements-words.ensures.taken n here in
      let elements = some_if _ _ a.0 a.1 (c.take_elements-words.ensures.elements n here) in
      let es = (a.0).elements in
      let cut = c.suffix.ensures.suffix ∙ ap (λ (ws : List Word). drop len ws) elements in
      let released : c.release_words.new.store.objects ≡ release_all (drop len es) (change_at n (refilled []) l) =
      c.release_words.ensures.objects ∙ ap (λ (ws : List Word). release_all ws c.take_elements-words.new.store.objects) cut ∙ ap (λ (k : List (ℕ × SlotEntry _)). release_all (drop len es) k) taken in
      let put_here = subst (λ (k : List (ℕ × SlotEntry _)). IsIn n c.args.slot k) (sym released) (in_shorter n len a.0 l _ _ t a.1 c.args.slot here) in
      (n, put_here, subst (λ (k : List (ℕ × SlotEntry _)). IsSome (stored_array n k)) (sym released) (array_shorter n len a.0 l _ _ t a.1));
}

pub mark-requires : goal.mark-requires
mark-requires g c = record {
  within =
      let l = c.self.inside.store.objects in
      let at = rw (← c.self.view_is) at c.requires.array_of_table.1 in
      slot_within c.requires.array_of_table.0 c.args.slot l _ (in_view c.requires.array_of_table.0 c.args.slot l at) c.self.invariant.listed;
}

pub invariant_of-self : goal.invariant_of-self
invariant_of-self g c =
    let l = c.self.inside.store.objects in
    let t = c.self.invariant.table in
    let n = c.requires.array_of_table.0 in
    let len = c.args.len in
    let a = found_array n l (rw (← c.self.view_is) at c.requires.array_of_table.2) in
    let at = rw (← c.self.view_is) at c.requires.array_of_table.1 in
    let here = in_view n c.args.slot l at in
    let taken = c.take_elements-words.ensures.taken n here in
    let elements = some_if _ _ a.0 a.1 (c.take_elements-words.ensures.elements n here) in
    let es = (a.0).elements in
    let cut = c.suffix.ensures.suffix ∙ ap (λ (ws : List Word). drop len ws) elements in
    let released : c.release_words.new.store.objects ≡ release_all (drop len es) (change_at n (refilled []) l) =
    c.release_words.ensures.objects ∙ ap (λ (ws : List Word). release_all ws c.take_elements-words.new.store.objects) cut ∙ ap (λ (k : List (ℕ × SlotEntry _)). release_all (drop len es) k) taken in
    let put_here = subst (λ (k : List (ℕ × SlotEntry _)). IsIn n c.args.slot k) (sym released) (in_shorter n len a.0 l _ _ t a.1 c.args.slot here) in
    let put = c.set_elements.ensures.refilled n put_here in
    let all : c.set_elements.new.store.objects ≡ change_at n (refilled (take len es)) (release_all (drop len es) (change_at n (refilled []) l)) =
    put ∙ ap (λ (ws : List Word). change_at n (refilled ws) c.release_words.new.store.objects) (c.truncate.ensures.shortened ∙ ap (λ (ws : List Word). take len ws) elements) ∙ ap (λ (k : List (ℕ × SlotEntry _)). change_at n (refilled (take len es)) k) released in
    let first = listed_covers l _ _ c.mark.ensures.covers c.self.invariant.listed in
    let emptied = listed_change n c.args.slot (refilled []) l _ (λ p. refl) here c.mark.ensures.listed first in
    let left = listed_faces (release_all (drop len es) (change_at n (refilled []) l)) (change_at n (refilled []) l) _ (λ m. released_face (drop len es) m (change_at n (refilled []) l)) emptied in
    rw all (record {
      table = table_shorter n len a.0 l _ _ t a.1;
      listed =
          listed_change n c.args.slot (refilled (take len es))
          (release_all (drop len es) (change_at n (refilled []) l)) _
          (λ p. refl) (in_shorter n len a.0 l _ _ t a.1 c.args.slot here) c.mark.ensures.listed left;
    })

pub returns : goal.returns
returns g c = record {
  effect =
      λ n is.
      let l = c.self.inside.store.objects in
      let t = c.self.invariant.table in
      let len = c.args.len in
      let at = rw (← c.self.view_is) at is in
      let here = in_view n c.args.slot l at in
      rw (← c.self.view_is) (each_some _ _ (λ array found.
      let there = sym (array_view n l) ∙ found in
      let taken = c.take_elements-words.ensures.taken n here in
      let elements = some_if _ _ array there (c.take_elements-words.ensures.elements n here) in
      let es = array.elements in
      let cut = c.suffix.ensures.suffix ∙ ap (λ (ws : List Word). drop len ws) elements in
      let released : c.release_words.new.store.objects ≡ release_all (drop len es) (change_at n (refilled []) l) =
      c.release_words.ensures.objects ∙ ap (λ (ws : List Word). release_all ws c.take_elements-words.new.store.objects) cut ∙ ap (λ (k : List (ℕ × SlotEntry _)). release_all (drop len es) k) taken in
      let put_here = subst (λ (k : List (ℕ × SlotEntry _)). IsIn n c.args.slot k) (sym released) (in_shorter n len array l _ _ t there c.args.slot here) in
      let put = c.set_elements.ensures.refilled n put_here in
      let all : c.set_elements.new.store.objects ≡ change_at n (refilled (take len es)) (release_all (drop len es) (change_at n (refilled []) l)) =
      put ∙ ap (λ (ws : List Word). change_at n (refilled ws) c.release_words.new.store.objects) (c.truncate.ensures.shortened ∙ ap (λ (ws : List Word). take len ws) elements) ∙ ap (λ (k : List (ℕ × SlotEntry _)). change_at n (refilled (take len es)) k) released in
      rw (all, view_shorter n len array l _ _ t there) refl));
}
