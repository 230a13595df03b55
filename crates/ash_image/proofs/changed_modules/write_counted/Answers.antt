use Rattle.std.proofs.Common.{sym, arith}
use Rattle.std.proofs.lemmas.List.{append-nil}
use Rattle.ash_image.specs.Delta.{indexed_from}
use Rattle.ash_image.proofs.IndexedLaws.{written_on, written_all}
use Rattle.ash_image.proofs.changed_modules.write_counted.Goals as goal

pub loop-index-init : goal.loop-index-init
unfolding indexed_from
loop-index-init c = sym (append-nil c.args.out.now.items)

pub loop-index-preserved : goal.loop-index-preserved
loop-index-preserved c =
    written_on _ _ _ c.args.words.now c.loop-index.index _ c.loop-index-test.true c.loop-index.invariant
    c.in_ok-write_indexed.ensures.value

pub returns : goal.returns
returns c = record {
  value = written_all _ _ c.args.words.now c.loop-index.index (omega arith) c.loop-index.invariant;
}
