use Rattle.std.proofs.Common.{◌≡◌, ◌+◌, ℕ, List, ap, sym, ◌∙◌, drop, length, arith, Some}
use Rattle.std.specs.Prelude.{slice_get, IfSome}
use Rattle.ash_host.specs.declared.word.Word.{Word}
use Rattle.ash_host.specs.Objects.{Lives, handle}
use Rattle.ash_slots.specs.Store.{SlotEntry}
use Rattle.ash_slots.specs.SlotCounting.{counted, change_handle, incremented}
use Rattle.ash_objects.specs.Counting.{refer_all, words_at}
use Rattle.ash_objects.proofs.Fields.{face_more, in_face}
use Rattle.ash_objects.proofs.Referring.{rest_at, rest_none, word_alive, alive_face, more_most, words_item, word_within, word_got, words_at_face}
use Rattle.ash_objects.proofs.counting.refer_words.Goals as goal

pub read_word-word-requires : goal.read_word-word-requires
read_word-word-requires g c = record {
  there = let n = c.requires.within.0 in
      let l = c.args.store.now.objects in
      let cur = c.loop-place.store.objects in
      let same = c.loop-place.invariant.faces n in
      let here = in_face n c.args.slot cur l same c.requires.within.1 in
      let words = words_at_face n cur l same ∙ words_item n l c.item.result.now (c.item.ensures.value n c.requires.within.1) ∙ sym c.words-count.ensures.words in
      let many : length (words_at n cur) ≡ length c.words-count.result.now = ap length words in
      (n, here, word_within n c.args.slot c.loop-place.place cur here (omega (arith, many)));
}

pub add_ref-requires-clause-alive : goal.add_ref-requires-clause-alive
add_ref-requires-clause-alive g c =
    let n = c.requires.within.0 in
    let l = c.args.store.now.objects in
    let cur = c.loop-place.store.objects in
    let same = c.loop-place.invariant.faces n in
    let here = in_face n c.args.slot cur l same c.requires.within.1 in
    let got : slice_get (words_at n l) c.loop-place.place ≡ Some c.read_word-word.result =
    ap (λ (ws : List Word). slice_get ws c.loop-place.place) (sym (words_at_face n cur l same)) ∙ word_got n c.loop-place.place c.read_word-word.result cur (c.read_word-word.ensures.word n here) in
    alive_face (handle c.read_word-word.result) cur l c.loop-place.invariant.faces
    (word_alive (λ word. IfSome (handle word) (Lives l)) (words_at n l) c.loop-place.place c.read_word-word.result got c.requires.within.2)

pub add_ref-requires-clause-fits : goal.add_ref-requires-clause-fits
add_ref-requires-clause-fits g c = λ other.
    let n = c.requires.within.0 in
    let l = c.args.store.now.objects in
    let words = words_item n l c.item.result.now (c.item.ensures.value n c.requires.within.1) ∙ sym c.words-count.ensures.words in
    let many : length (words_at n l) ≡ length c.words-count.result.now = ap length words in
    let few = c.requires.within.3 other in
    let so_far = c.loop-place.invariant.fits other in
    let within = c.loop-place-test.true in
    omega (arith, many, few, so_far, within)

pub loop-place-preserved : goal.loop-place-preserved
loop-place-preserved g c =
    let l = c.args.store.now.objects in
    let cur = c.loop-place.store.objects in
    let w = c.read_word-word.result in
    record {
      rest = λ n is_in.
          let same = c.loop-place.invariant.faces n in
          let here = in_face n c.args.slot cur l same is_in in
          let got : slice_get (words_at n l) c.loop-place.place ≡ Some w = ap (λ (ws : List Word). slice_get ws c.loop-place.place) (sym (words_at_face n cur l same)) ∙ word_got n c.loop-place.place w cur (c.read_word-word.ensures.word n here) in
          let next = rest_at (words_at n l) c.loop-place.place w got in
          ap (λ (k : List (ℕ × SlotEntry _)). refer_all (drop (c.loop-place.place + 1) (words_at n l)) k) c.add_ref.ensures.counted
          ∙ sym (ap (λ (ws : List Word). refer_all ws cur) next)
          ∙ c.loop-place.invariant.rest n is_in;
      faces = λ n. rw c.add_ref.ensures.counted (face_more (handle w) n cur ∙ c.loop-place.invariant.faces n);
      fits = λ other.
          let n = c.requires.within.0 in
          let same = c.loop-place.invariant.faces n in
          let here = in_face n c.args.slot cur l same c.requires.within.1 in
          let got : slice_get (words_at n l) c.loop-place.place ≡ Some w = ap (λ (ws : List Word). slice_get ws c.loop-place.place) (sym (words_at_face n cur l same)) ∙ word_got n c.loop-place.place w cur (c.read_word-word.ensures.word n here) in
          let alive = alive_face (handle w) cur l c.loop-place.invariant.faces (word_alive (λ word. IfSome (handle word) (Lives l)) (words_at n l) c.loop-place.place w got c.requires.within.2) in
          let most = more_most (handle w) other cur alive in
          let now : counted other c.add_ref.new.store.objects ≡ counted other (change_handle incremented (handle w) cur) = ap (counted other) c.add_ref.ensures.counted in
          let so_far = c.loop-place.invariant.fits other in
          omega (arith, most, now, so_far);
    }

pub returns : goal.returns
returns g c = record {
  effect =
      λ n is_in.
      let l = c.args.store.now.objects in
      let words = words_item n l c.item.result.now (c.item.ensures.value n is_in) ∙ sym c.words-count.ensures.words in
      let many : length (words_at n l) ≡ length c.words-count.result.now = ap length words in
      let ended : c.loop-place.place ≡ length (words_at n l) = omega (arith, many) in
      let none = ap (λ (k : ℕ). drop k (words_at n l)) ended ∙ rest_none (words_at n l) in
      sym (ap (λ (ws : List Word). refer_all ws c.loop-place.store.objects) none) ∙ c.loop-place.invariant.rest n is_in;
}
