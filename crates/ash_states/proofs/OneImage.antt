-- Bytes are the image of one state.
use Rattle.std.proofs.Common.{◌≡◌, List, sym, ap, ◌∙◌}
use Rattle.ash_registry.specs.AcceptedRegistrations.{Registration}
use Rattle.ash_requests.specs.States.{State}
use Rattle.ash_image.proofs.ImageLaws.{spelled_once}
use Rattle.ash_states.specs.HostStates.{HostState}
use Rattle.ash_states.specs.Images.{state_of, IsImageOfOneState}

host_same : (s t : HostState) → s.registered ≡ t.registered → s.state ≡ t.state → s ≡ t
host_same s t registered state =
    ap (λ (r : List Registration). let h : HostState = record { registered = r; state = s.state } in h) registered
    ∙ ap (λ (x : State). let h : HostState = record { registered = t.registered; state = x } in h) state

pub one_state : IsImageOfOneState
one_state bytes s t (v, (one, spelled, depicted)) (w, (other, spelled_too, depicted_too)) same =
    let snapshots : one ≡ other = (spelled_once bytes v w one other spelled.0 spelled_too.0).1 in
    host_same s t same (sym depicted.state_is ∙ ap state_of snapshots ∙ depicted_too.state_is)
