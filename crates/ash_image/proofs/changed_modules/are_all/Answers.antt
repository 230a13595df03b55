use Rattle.std.proofs.Common.{arith}
use Rattle.ash_image.proofs.IndexedLaws.{counted_on, counts_on, counts_not, counts_all}
use Rattle.ash_image.proofs.changed_modules.are_all.Goals as goal

pub loop-index-preserved : goal.loop-index-preserved
loop-index-preserved c =
    counts_on c.args.words.now c.loop-index.index _ _ c.loop-index-test.true c.if-words-index.false c.loop-index.invariant

pub returns-then-words-index : goal.returns-then-words-index
unfolding counted_on
returns-then-words-index c = record {
  value =
      counts_not c.args.words.now c.loop-index.index _ _ c.loop-index-test.true c.if-words-index.true
      c.loop-index.invariant;
}

pub returns : goal.returns
unfolding counted_on
returns c = record {
  value = counts_all c.args.words.now c.loop-index.index _ (omega arith) c.loop-index.invariant;
}
