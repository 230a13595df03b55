use Rattle.std.proofs.Common.{◌+◌, sym, ap, ◌∙◌, drop, get_or}
use Rattle.ash_slots.proofs.Steps.{is_in_from}
use Rattle.ash_objects.specs.Restoring.{refer_objects}
use Rattle.ash_objects.proofs.Referring.{rest_got}
use Rattle.ash_objects.proofs.Recounting.{turn_faces, turn_fits, turn_rest}
use Rattle.ash_objects.proofs.restoring.refer_from.Goals as goal

pub loop-number-preserved : goal.loop-number-preserved
loop-number-preserved g c =
    let k = c.loop-number.number-index in
    let list = c.args.list.now in
    let l = c.args.store.now.objects in
    let cur = c.loop-number.store.objects in
    let n = get_or list k 0 in
    let next = rest_got list k 0 c.loop-number-test.true in
    let there = c.requires.there k 0 c.loop-number-test.true in
    let here = is_in_from n c.in-Some.slot cur (sym c.slot.ensures.slot ∙ c.in-Some.is) in
    let now = c.refer_words.ensures.effect n here in
    record {
      rest =
          ap (λ s. refer_objects (drop (k + 1) list) s) now ∙ turn_rest list n k cur next
          ∙ c.loop-number.invariant.rest;
      faces =
          λ m. rw now (turn_faces l cur c.loop-number.invariant.faces n k there.1 there.2 c.loop-number.invariant.fits
          m);
      fits =
          λ m. rw now (turn_fits l cur c.loop-number.invariant.faces n k there.1 there.2 c.loop-number.invariant.fits
          m);
    }
