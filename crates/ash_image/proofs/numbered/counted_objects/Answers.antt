use Rattle.std.proofs.Common.{◌∷◌, []}
use Rattle.std.proofs.lemmas.List.{map-append}
use Rattle.std.proofs.lemmas.Result.{err_from_is_err_and}
use Rattle.ash_image.specs.Fields.{times_at}
use Rattle.ash_image.specs.ImageReading.{object_at}
use Rattle.ash_image.specs.SnapshotViews.{object_of, objects_of}
use Rattle.ash_image.proofs.ItemLoop.{goes_on, ends, is_done}
use Rattle.ash_image.proofs.numbered.counted_objects.Goals as goal

pub returns-in_err-object : goal.returns-in_err-object
returns-in_err-object c = record {
  field =
      let p = err_from_is_err_and c.from_residual.result c.from_residual.ensures.1 in
      rw (p.1, p.2) (ends (object_at c.args.version) c.in_err-object.field-0.0 (objects_of c.loop.objects.items)
      c.args.count c.loop.counter c.loop.rest.now (times_at (object_at c.args.version) c.args.count c.args.bytes.now)
      c.loop-test.true c.in_err-object.ensures.field c.loop.invariant);
}

pub loop-preserved : goal.loop-preserved
loop-preserved c =
    rw (c.in_ok-push.ensures.items, map-append object_of c.loop.objects.items (c.in_ok-object.object ∷ []))
    (goes_on (object_at c.args.version) (objects_of c.loop.objects.items) c.args.count c.loop.counter c.loop.rest.now
    (object_of c.in_ok-object.object) c.in_ok-object.after.now
    (times_at (object_at c.args.version) c.args.count c.args.bytes.now) c.loop-test.true c.in_ok-object.ensures.field c.loop.invariant)

pub returns : goal.returns
returns c = record {
  field =
      is_done (object_at c.args.version) (objects_of c.loop.objects.items) c.args.count c.loop.counter c.loop.rest.now
      (times_at (object_at c.args.version) c.args.count c.args.bytes.now) c.loop-test.false c.loop.invariant;
}
