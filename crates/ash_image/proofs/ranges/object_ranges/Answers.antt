use Rattle.std.proofs.Common.{arith}
use Rattle.ash_image.specs.Fitting.{IsRangedEntry}
use Rattle.ash_image.specs.SnapshotViews.{object_of}
use Rattle.ash_image.proofs.Ranging.{holds_more, holds_all}
use Rattle.ash_image.proofs.ranges.object_ranges.Goals as goal

pub loop-object-preserved : goal.loop-object-preserved
loop-object-preserved c =
    holds_more IsRangedEntry object_of c.args.objects.now c.loop-object.object-index
    c.object-item.result _ c.loop-object-test.true c.object-item.is c.object_range.ensures.ranged c.loop-object.invariant

pub returns : goal.returns
returns c = record {
  ranged = holds_all IsRangedEntry object_of c.args.objects.now c.loop-object.object-index _
      (omega arith) c.loop-object.invariant;
}
