use Rattle.std.proofs.Common.{◌∷◌, []}
use Rattle.std.proofs.lemmas.List.{map-append}
use Rattle.std.proofs.lemmas.Result.{err_from_is_err_and}
use Rattle.ash_image.specs.Fields.{times_at}
use Rattle.ash_image.specs.DeltaReading.{indexed_at}
use Rattle.ash_image.specs.DeltaViews.{indexed_of, all_indexed}
use Rattle.ash_image.proofs.ItemLoop.{goes_on, ends, is_done}
use Rattle.ash_image.proofs.changed_modules.counted_words.Goals as goal

pub returns-in_err-word : goal.returns-in_err-word
returns-in_err-word c = record {
  field =
      let p = err_from_is_err_and c.from_residual.result c.from_residual.ensures.1 in
      rw (p.1, p.2) (ends indexed_at c.in_err-word.field-0.0 (all_indexed c.loop.words.items)
      c.args.count c.loop.counter c.loop.rest.now (times_at indexed_at c.args.count c.args.bytes.now)
      c.loop-test.true c.in_err-word.ensures.read c.loop.invariant);
}

pub loop-preserved : goal.loop-preserved
loop-preserved c =
    rw (c.in_ok-push.ensures.items, map-append indexed_of c.loop.words.items (c.in_ok-word.word ∷ []))
    (goes_on indexed_at (all_indexed c.loop.words.items) c.args.count c.loop.counter c.loop.rest.now
    (indexed_of c.in_ok-word.word) c.in_ok-word.after.now
    (times_at indexed_at c.args.count c.args.bytes.now) c.loop-test.true c.in_ok-word.ensures.read c.loop.invariant)

pub returns : goal.returns
returns c = record {
  field =
      is_done indexed_at (all_indexed c.loop.words.items) c.args.count c.loop.counter c.loop.rest.now
      (times_at indexed_at c.args.count c.args.bytes.now) c.loop-test.false c.loop.invariant;
}
