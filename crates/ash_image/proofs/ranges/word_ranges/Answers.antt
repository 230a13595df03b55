use Rattle.std.proofs.Common.{arith}
use Rattle.ash_image.specs.ImageWords.{FitsWord}
use Rattle.ash_image.proofs.Ranging.{each_more, each_all}
use Rattle.ash_image.proofs.ranges.word_ranges.Goals as goal

pub loop-word-preserved : goal.loop-word-preserved
loop-word-preserved c =
    each_more FitsWord c.args.words.now c.loop-word.word-index _ _ c.loop-word-test.true
    c.word_range.ensures.fits c.loop-word.invariant

pub returns : goal.returns
returns c = record {
  fit = each_all FitsWord c.args.words.now c.loop-word.word-index _ (omega arith) c.loop-word.invariant;
}
