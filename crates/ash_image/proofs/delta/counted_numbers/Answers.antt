use Rattle.std.proofs.lemmas.Result.{err_from_is_err_and}
use Rattle.ash_image.specs.Fields.{times_at, number_at}
use Rattle.ash_image.proofs.ItemLoop.{goes_on, ends, is_done}
use Rattle.ash_image.proofs.delta.counted_numbers.Goals as goal

pub returns-in_err-number : goal.returns-in_err-number
returns-in_err-number c =
    let p = err_from_is_err_and c.from_residual.result c.from_residual.ensures.1 in
    record {
      read = rw (p.1, p.2) (ends (number_at 8) c.in_err-number.field-0.0 c.loop.numbers.items c.args.count c.loop.counter
          c.loop.rest.now (times_at (number_at 8) c.args.count c.args.bytes.now) c.loop-test.true
          c.in_err-number.ensures.read c.loop.invariant);
    }

pub loop-preserved : goal.loop-preserved
loop-preserved c =
    rw c.in_ok-push.ensures.items (goes_on (number_at 8) c.loop.numbers.items c.args.count c.loop.counter c.loop.rest.now
    c.in_ok-number.number c.in_ok-number.after.now (times_at (number_at 8) c.args.count c.args.bytes.now)
    c.loop-test.true c.in_ok-number.ensures.read c.loop.invariant)

pub returns : goal.returns
returns c = record {
  read = is_done (number_at 8) c.loop.numbers.items c.args.count c.loop.counter c.loop.rest.now
      (times_at (number_at 8) c.args.count c.args.bytes.now) c.loop-test.false c.loop.invariant;
}
