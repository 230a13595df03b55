use Rattle.std.proofs.Common.{arith}
use Rattle.std.specs.List.{AllByRecursion}
use Rattle.ash_image.specs.ImageWords.{FitsWord}
use Rattle.ash_image.specs.Snapshots.{Loaded}
use Rattle.ash_image.specs.SnapshotViews.{module_of}
use Rattle.ash_image.proofs.Ranging.{holds_more, holds_all}
use Rattle.ash_image.proofs.ranges.module_ranges.Goals as goal

pub loop-loaded-preserved : goal.loop-loaded-preserved
loop-loaded-preserved c =
    holds_more (λ (m : Loaded). AllByRecursion FitsWord m.globals) module_of c.args.modules.now c.loop-loaded.loaded-index
    c.loaded-item.result _ c.loop-loaded-test.true c.loaded-item.is c.module_range.ensures.ranged c.loop-loaded.invariant

pub returns : goal.returns
returns c = record {
  ranged = holds_all (λ (m : Loaded). AllByRecursion FitsWord m.globals) module_of c.args.modules.now c.loop-loaded.loaded-index _
      (omega arith) c.loop-loaded.invariant;
}
