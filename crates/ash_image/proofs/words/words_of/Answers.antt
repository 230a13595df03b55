use Rattle.std.proofs.lemmas.Result.{err_from_is_err_and}
use Rattle.ash_image.specs.Fields.{times_at}
use Rattle.ash_image.specs.ImageWords.{word_at}
use Rattle.ash_image.proofs.ItemLoop.{goes_on, ends, is_done}
use Rattle.ash_image.proofs.words.words_of.Goals as goal

pub returns-in_err-word : goal.returns-in_err-word
returns-in_err-word c =
    let p = err_from_is_err_and c.from_residual.result c.from_residual.ensures.1 in
    record {
      read = rw (p.1, p.2) (ends word_at c.in_err-word.field-0.0 c.loop.words.items c.args.count c.loop.counter c.loop.rest.now
          (times_at word_at c.args.count c.args.bytes.now) c.loop-test.true c.in_err-word.ensures.read c.loop.invariant);
    }

pub loop-preserved : goal.loop-preserved
loop-preserved c =
    rw c.in_ok-push.ensures.items (goes_on word_at c.loop.words.items c.args.count c.loop.counter c.loop.rest.now
    c.in_ok-word.word c.in_ok-word.after.now (times_at word_at c.args.count c.args.bytes.now)
    c.loop-test.true c.in_ok-word.ensures.read c.loop.invariant)

pub returns : goal.returns
returns c = record {
  read = is_done word_at c.loop.words.items c.args.count c.loop.counter c.loop.rest.now
      (times_at word_at c.args.count c.args.bytes.now) c.loop-test.false c.loop.invariant;
}
