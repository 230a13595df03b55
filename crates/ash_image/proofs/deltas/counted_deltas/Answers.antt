use Rattle.std.proofs.Common.{◌∷◌, []}
use Rattle.std.proofs.lemmas.List.{map-append}
use Rattle.std.proofs.lemmas.Result.{err_from_is_err_and}
use Rattle.ash_image.specs.declared.version.Version.TheVariants.{Two}
use Rattle.ash_image.specs.Fields.{times_at}
use Rattle.ash_image.specs.DeltaReading.{delta_at}
use Rattle.ash_image.specs.DeltaViews.{delta_of}
use Rattle.ash_image.specs.Deltas.{deltas_of}
use Rattle.ash_image.proofs.ItemLoop.{goes_on, ends, is_done}
use Rattle.ash_image.proofs.deltas.counted_deltas.Goals as goal

pub returns-in_err-delta : goal.returns-in_err-delta
returns-in_err-delta c = record {
  field =
      let p = err_from_is_err_and c.from_residual.result c.from_residual.ensures.1 in
      rw (p.1, p.2) (ends (delta_at Two) c.in_err-delta.field-0.0 (deltas_of c.loop.deltas.items)
      c.args.count c.loop.counter c.loop.rest.now (times_at (delta_at Two) c.args.count c.args.bytes.now)
      c.loop-test.true c.in_err-delta.ensures.field c.loop.invariant);
}

pub loop-preserved : goal.loop-preserved
loop-preserved c =
    rw (c.in_ok-push.ensures.items, map-append delta_of c.loop.deltas.items (c.in_ok-delta.delta ∷ []))
    (goes_on (delta_at Two) (deltas_of c.loop.deltas.items) c.args.count c.loop.counter c.loop.rest.now
    (delta_of c.in_ok-delta.delta) c.in_ok-delta.after.now
    (times_at (delta_at Two) c.args.count c.args.bytes.now) c.loop-test.true c.in_ok-delta.ensures.field c.loop.invariant)

pub returns : goal.returns
returns c = record {
  field =
      is_done (delta_at Two) (deltas_of c.loop.deltas.items) c.args.count c.loop.counter c.loop.rest.now
      (times_at (delta_at Two) c.args.count c.args.bytes.now) c.loop-test.false c.loop.invariant;
}
