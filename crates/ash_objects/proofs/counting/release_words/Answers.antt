use Rattle.std.proofs.Common.{ℕ, List, ◌+◌, ap, sym, ◌∙◌, drop, get_or, false}
use Rattle.ash_host.specs.declared.word.Word.{Word}
use Rattle.ash_host.specs.declared.word.Word.TheVariants.{Bool}
use Rattle.ash_slots.specs.Store.{SlotEntry}
use Rattle.ash_objects.specs.Counting.{release_all}
use Rattle.ash_objects.proofs.Referring.{rest_got, rest_over}
use Rattle.ash_objects.proofs.Releasing.{covers_first, covers_rest}
use Rattle.ash_objects.proofs.counting.release_words.Goals as goal

pub remove_ref-requires : goal.remove_ref-requires
remove_ref-requires g c = record {
  counted = let k = c.loop-word.word-index in
      let ws = c.args.words.now in
      let next = rest_got ws k (Bool false) c.loop-word-test.true in
      covers_first (get_or ws k (Bool false)) (drop (k + 1) ws) c.loop-word.store.objects (λ m. rw next at (c.loop-word.invariant.covers m));
}

pub loop-word-preserved : goal.loop-word-preserved
loop-word-preserved g c =
    let k = c.loop-word.word-index in
    let ws = c.args.words.now in
    let next = rest_got ws k (Bool false) c.loop-word-test.true in
    record {
      rest =
          ap (λ (l : List (ℕ × SlotEntry _)). release_all (drop (k + 1) ws) l) c.remove_ref.ensures.objects
          ∙ sym (ap (λ (vs : List Word). release_all vs c.loop-word.store.objects) next)
          ∙ c.loop-word.invariant.rest;
      covers =
          λ m. rw c.remove_ref.ensures.objects
          (covers_rest (get_or ws k (Bool false)) (drop (k + 1) ws) c.loop-word.store.objects
          (λ j. rw next at (c.loop-word.invariant.covers j)) m);
      room = c.remove_ref.ensures.room ∙ c.loop-word.invariant.room;
    }

pub returns-clause-objects : goal.returns-clause-objects
returns-clause-objects g c =
    let over = rest_over c.args.words.now c.loop-word.word-index c.loop-word-test.false in
    sym (ap (λ (vs : List Word). release_all vs c.loop-word.store.objects) over) ∙ c.loop-word.invariant.rest
