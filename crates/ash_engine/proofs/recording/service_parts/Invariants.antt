use Rattle.std.proofs.Common.{◌≡◌, take}
use Rattle.ash_image.specs.DeltaViews.{service_states_in, service_states_of}
use Rattle.ash_engine.proofs.recording.service_parts.Given as goal

abbrev pub invariant-loop-service : goal.invariant-loop-service
invariant-loop-service l = service_states_in l.parts.items ≡ service_states_of (take l.service-index l.services)
