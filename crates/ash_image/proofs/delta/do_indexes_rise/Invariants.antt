use Rattle.std.proofs.Common.{◌≡◌, ◌∷◌, drop, map}
use Rattle.ash_host.specs.Objects.{numbers}
use Rattle.ash_image.specs.Image.{do_rise}
use Rattle.ash_image.specs.DeltaViews.{service_state_of, service_states_of}
use Rattle.ash_image.proofs.delta.do_indexes_rise.Given as goal

abbrev pub invariant-loop-service : goal.invariant-loop-service
invariant-loop-service l = do_rise (numbers (service_state_of l.last ∷ map service_state_of (drop l.service-index l.rest)))
    ≡ do_rise (numbers (service_states_of l.fn.services))
