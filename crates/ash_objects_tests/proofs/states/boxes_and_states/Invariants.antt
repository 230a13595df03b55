use Rattle.std.proofs.Common.{◌≡◌, vec_len}
use Rattle.ash_objects_tests.proofs.states.boxes_and_states.Given as goal

abbrev pub invariant-loop-service : goal.invariant-loop-service
invariant-loop-service l = record { many : vec_len l.boxes ≡ vec_len l.states }
