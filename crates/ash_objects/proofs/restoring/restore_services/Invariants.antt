use Rattle.std.proofs.Common.{◌≡◌, ℕ, List, Some}
use Rattle.std.specs.Prelude.{slice_get}
use Rattle.ash_objects.specs.Restoring.{RestoresState, states_in}
use Rattle.ash_objects.proofs.Pointwise.{IsDone}
use Rattle.ash_objects.proofs.restoring.restore_services.Given as goal

abbrev pub invariant-loop-place : goal.invariant-loop-place
invariant-loop-place g l = record {
  done : IsDone (λ place one other. (bytes : List ℕ) → slice_get (states_in l.states) place ≡ Some bytes
      → RestoresState g.B.HostObject one bytes other) l.place l.initial.services.items l.services.items;
}
