use Rattle.std.proofs.Common.{◌≡◌, ◌<◌, refl, sym, ap, ◌∙◌, List, length, Some, subst, ℕ}
use Rattle.std.specs.Prelude.{slice_get, IfSome}
use Rattle.ash_host.specs.Objects.{handle}
use Rattle.ash_slots.specs.Store.{SlotEntry, change_at}
use Rattle.ash_slots.specs.SlotCounting.{counted, change_handle, incremented, decremented, written}
use Rattle.ash_objects.proofs.Fields.{before_counted, view_field, face_more, handle_face, in_face, words_face}
use Rattle.ash_objects.proofs.Views.{in_view, place_view, alive_view, fits_view, table_field}
use Rattle.ash_objects.proofs.Listed.{slot_within, listed_change, listed_covers, listed_faces}
use Rattle.ash_objects.proofs.objects.Objects.set_field_at.Goals as goal

pub add_ref-requires-clause-alive : goal.add_ref-requires-clause-alive
add_ref-requires-clause-alive g c =
    let alive = rw (← c.self.view_is) at c.requires.alive in
    alive_view (handle c.args.word) c.self.inside.store.objects alive

pub add_ref-requires-clause-fits : goal.add_ref-requires-clause-fits
add_ref-requires-clause-fits g c = fits_view c.self.inside.store.objects _ _ c.self.invariant.table

pub write_word-before-requires : goal.write_word-before-requires
write_word-before-requires g c = record {
  there = let l = c.self.inside.store.objects in
      let n = c.requires.there.0 in
      let at = rw (← c.self.view_is) at c.requires.there.1 in
      let there = rw (← c.self.view_is) at c.requires.there.2 in
      rw c.add_ref.ensures.counted (
        n,
        in_face n c.args.slot (change_handle incremented (handle c.args.word) l) l (face_more (handle c.args.word) n l) (in_view n c.args.slot l at),
        words_face (λ ws. c.args.place < length ws) n (change_handle incremented (handle c.args.word) l) l (face_more (handle c.args.word) n l) (place_view n c.args.place l there),
      );
}

pub mark-requires : goal.mark-requires
mark-requires g c = record {
  within =
      let l = c.self.inside.store.objects in
      let at = rw (← c.self.view_is) at c.requires.there.1 in
      slot_within c.requires.there.0 c.args.slot l _ (in_view c.requires.there.0 c.args.slot l at) c.self.invariant.listed;
}

pub remove_ref-requires : goal.remove_ref-requires
remove_ref-requires g c = record {
  counted = let l = c.self.inside.store.objects in
      let n = c.requires.there.0 in
      let at = rw (← c.self.view_is) at c.requires.there.1 in
      let alive = alive_view (handle c.args.word) l (rw (← c.self.view_is) at c.requires.alive) in
      let same = face_more (handle c.args.word) n l in
      let here = rw (← c.add_ref.ensures.counted) at (in_face n c.args.slot (change_handle incremented (handle c.args.word) l) l same (in_view n c.args.slot l at)) in
      let read = rw c.add_ref.ensures.counted at (c.write_word-before.ensures.before n here) in
      let there = words_face (λ ws. slice_get ws c.args.place ≡ Some c.write_word-before.result) n l (change_handle incremented (handle c.args.word) l) (sym same) read in
      let all = c.write_word-before.ensures.written n here ∙ ap (λ (k : List (ℕ × SlotEntry _)). change_at n (written c.args.place c.args.word) k) c.add_ref.ensures.counted in
      subst (λ (k : List (ℕ × SlotEntry _)). IfSome (handle c.write_word-before.result) (λ number. 0 < counted number k)) (sym all)
      (before_counted n c.args.place c.args.word c.write_word-before.result l c.self.invariant.table.in_order c.self.invariant.table.counted alive there);
}

pub invariant_of-self : goal.invariant_of-self
invariant_of-self g c =
    let l = c.self.inside.store.objects in
    let n = c.requires.there.0 in
    let at = rw (← c.self.view_is) at c.requires.there.1 in
    let alive = alive_view (handle c.args.word) l (rw (← c.self.view_is) at c.requires.alive) in
    let same = face_more (handle c.args.word) n l in
    let here = rw (← c.add_ref.ensures.counted) at (in_face n c.args.slot (change_handle incremented (handle c.args.word) l) l same (in_view n c.args.slot l at)) in
    let read = rw c.add_ref.ensures.counted at (c.write_word-before.ensures.before n here) in
    let there = words_face (λ ws. slice_get ws c.args.place ≡ Some c.write_word-before.result) n l (change_handle incremented (handle c.args.word) l) (sym same) read in
    let counted = change_handle incremented (handle c.args.word) l in
    let now = change_at n (written c.args.place c.args.word) counted in
    let first = listed_faces counted l _ (λ m. face_more (handle c.args.word) m l) (listed_covers l _ _ c.mark.ensures.covers c.self.invariant.listed) in
    let changed = listed_change n c.args.slot (written c.args.place c.args.word) counted _ (λ p. refl) (in_face n c.args.slot counted l same (in_view n c.args.slot l at)) c.mark.ensures.listed first in
    rw (c.remove_ref.ensures.objects, c.write_word-before.ensures.written n here, c.add_ref.ensures.counted) (record {
      table =
          table_field l _ _ c.self.invariant.table n c.args.place c.args.word c.write_word-before.result alive there;
      listed =
          listed_faces (change_handle decremented (handle c.write_word-before.result) now) now _
          (λ m. handle_face decremented (λ p. refl) (handle c.write_word-before.result) m now) changed;
    })

pub returns : goal.returns
returns g c = record {
  written = λ n is.
      let l = c.self.inside.store.objects in
      let at = rw (← c.self.view_is) at is in
      let alive = alive_view (handle c.args.word) l (rw (← c.self.view_is) at c.requires.alive) in
      let same = face_more (handle c.args.word) n l in
      let here = rw (← c.add_ref.ensures.counted) at (in_face n c.args.slot (change_handle incremented (handle c.args.word) l) l same (in_view n c.args.slot l at)) in
      let read = rw c.add_ref.ensures.counted at (c.write_word-before.ensures.before n here) in
      let there = words_face (λ ws. slice_get ws c.args.place ≡ Some c.write_word-before.result) n l (change_handle incremented (handle c.args.word) l) (sym same) read in
      rw (← c.self.view_is, c.remove_ref.ensures.objects, c.write_word-before.ensures.written n here, c.add_ref.ensures.counted, view_field n c.args.place c.args.word c.write_word-before.result l c.self.invariant.table.in_order c.self.invariant.table.counted alive there) refl;
}
