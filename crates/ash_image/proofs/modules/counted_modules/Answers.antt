use Rattle.std.proofs.Common.{◌∷◌, []}
use Rattle.std.proofs.lemmas.List.{map-append}
use Rattle.std.proofs.lemmas.Result.{err_from_is_err_and}
use Rattle.ash_image.specs.Fields.{times_at}
use Rattle.ash_image.specs.ImageReading.{module_at}
use Rattle.ash_image.specs.SnapshotViews.{module_of, modules_of}
use Rattle.ash_image.proofs.ItemLoop.{goes_on, ends, is_done}
use Rattle.ash_image.proofs.modules.counted_modules.Goals as goal

pub returns-in_err-module : goal.returns-in_err-module
returns-in_err-module c = record {
  field =
      let p = err_from_is_err_and c.from_residual.result c.from_residual.ensures.1 in
      rw (p.1, p.2) (ends module_at c.in_err-module.field-0.0 (modules_of c.loop.modules.items)
      c.args.count c.loop.counter c.loop.rest.now (times_at module_at c.args.count c.args.bytes.now)
      c.loop-test.true c.in_err-module.ensures.field c.loop.invariant);
}

pub loop-preserved : goal.loop-preserved
loop-preserved c =
    rw (c.in_ok-push.ensures.items, map-append module_of c.loop.modules.items (c.in_ok-module.module ∷ []))
    (goes_on module_at (modules_of c.loop.modules.items) c.args.count c.loop.counter c.loop.rest.now
    (module_of c.in_ok-module.module) c.in_ok-module.after.now
    (times_at module_at c.args.count c.args.bytes.now) c.loop-test.true c.in_ok-module.ensures.field c.loop.invariant)

pub returns : goal.returns
returns c = record {
  field =
      is_done module_at (modules_of c.loop.modules.items) c.args.count c.loop.counter c.loop.rest.now
      (times_at module_at c.args.count c.args.bytes.now) c.loop-test.false c.loop.invariant;
}
