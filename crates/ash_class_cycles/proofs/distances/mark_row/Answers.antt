use Rattle.std.proofs.Common.{arith}
use Rattle.ash_class_cycles.proofs.Markings.{marks_more, marks_end}
use Rattle.ash_class_cycles.proofs.distances.mark_row.Goals as goal

pub loop-place-preserved : goal.loop-place-preserved
loop-place-preserved c =
    marks_more c.args.row.now c.loop-place.place-index c.args.distance c.args.distances.now.items
    c.loop-place.distances.items c.mark.new.distances.items c.args.found.now.items c.loop-place.found.items
    c.mark.new.found.items (omega arith) c.loop-place.invariant c.in_ok-mark.ensures.marks

pub returns : goal.returns
returns c = record {
  marks =
      marks_end c.args.row.now c.loop-place.place-index c.args.distance c.args.distances.now.items
      c.loop-place.distances.items c.args.found.now.items c.loop-place.found.items (omega arith) c.loop-place.invariant;
}
