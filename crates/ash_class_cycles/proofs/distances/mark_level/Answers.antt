use Rattle.std.proofs.Common.{◌≡◌, ◌∙◌, ◌<◌, length, get_or, sym, [], ℕ}
use Rattle.ash_class_cycles.proofs.Rounds.{row_read, row_within, marks_further}
use Rattle.ash_class_cycles.specs.Marking.{rows_of}
use Rattle.ash_class_cycles.proofs.distances.mark_level.Goals as goal

pub mark_row-requires : goal.mark_row-requires
mark_row-requires c = record {
  within =
      let to : ℕ = get_or c.args.level.now c.loop-to.to-index 0 in
      let in_table : to < length c.args.referrers.now = c.requires.places c.loop-to.to-index 0 c.loop-to-test.true in
      rw c.deref.ensures.value
      (row_within c.args.referrers.now to c.index-referrers-to.result (length c.loop-to.distances.items)
      c.requires.within in_table c.index-referrers-to.is (c.loop-to.invariant.long ∙ c.requires.long));
}

pub loop-to-preserved : goal.loop-to-preserved
loop-to-preserved c =
    let to : ℕ = get_or c.args.level.now c.loop-to.to-index 0 in
    let in_table : to < length c.args.referrers.now = c.requires.places c.loop-to.to-index 0 c.loop-to-test.true in
    let is_row : get_or (rows_of c.args.referrers.now) to [] ≡ c.deref.result.now =
    row_read c.args.referrers.now to c.index-referrers-to.result in_table c.index-referrers-to.is
    ∙ sym c.deref.ensures.value in
    marks_further (rows_of c.args.referrers.now) c.args.level.now c.deref.result.now c.loop-to.to-index c.args.distance
    c.args.distances.now.items c.loop-to.distances.items c.mark_row.new.distances.items c.args.found.now.items
    c.loop-to.found.items c.mark_row.new.found.items c.loop-to-test.true is_row c.loop-to.invariant
    c.in_ok-mark_row.ensures.marks
