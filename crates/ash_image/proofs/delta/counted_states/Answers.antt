use Rattle.std.proofs.Common.{◌∷◌, []}
use Rattle.std.proofs.lemmas.List.{map-append}
use Rattle.std.proofs.lemmas.Result.{err_from_is_err_and}
use Rattle.ash_image.specs.Fields.{times_at}
use Rattle.ash_image.specs.ObjectBytes.{kind_and_state_at}
use Rattle.ash_image.specs.DeltaViews.{service_state_of, service_states_of}
use Rattle.ash_image.proofs.ItemLoop.{goes_on, ends, is_done}
use Rattle.ash_image.proofs.delta.counted_states.Goals as goal

pub returns-in_err-service : goal.returns-in_err-service
returns-in_err-service c = record {
  field =
      let p = err_from_is_err_and c.from_residual.result c.from_residual.ensures.1 in
      rw (p.1, p.2) (ends kind_and_state_at c.in_err-service.field-0.0 (service_states_of c.loop.services.items)
      c.args.count c.loop.counter c.loop.rest.now (times_at kind_and_state_at c.args.count c.args.bytes.now)
      c.loop-test.true c.in_err-service.ensures.read c.loop.invariant);
}

pub loop-preserved : goal.loop-preserved
loop-preserved c =
    rw (c.in_ok-push.ensures.items, map-append service_state_of c.loop.services.items (c.in_ok-service.service ∷ []))
    (goes_on kind_and_state_at (service_states_of c.loop.services.items) c.args.count c.loop.counter c.loop.rest.now
    (service_state_of c.in_ok-service.service) c.in_ok-service.after.now
    (times_at kind_and_state_at c.args.count c.args.bytes.now) c.loop-test.true c.in_ok-service.ensures.read c.loop.invariant)

pub returns : goal.returns
returns c = record {
  field =
      is_done kind_and_state_at (service_states_of c.loop.services.items) c.args.count c.loop.counter c.loop.rest.now
      (times_at kind_and_state_at c.args.count c.args.bytes.now) c.loop-test.false c.loop.invariant;
}
