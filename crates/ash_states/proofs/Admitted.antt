-- A host may be in the state before any request.
use Rattle.std.proofs.Common.{◌≡◌, ℕ, List, [], subst, sym}
use Rattle.ash_registry.specs.AcceptedRegistrations.{Registration}
use Rattle.ash_requests.specs.States.{State}
use Rattle.ash_requests.specs.States as states
use Rattle.ash_plain_steps.specs.declared.state.LoadedModule as code_module
use Rattle.ash_plain_steps.specs.declared.state.PlainState.{PlainState}
use Rattle.ash_plain_steps.specs.StateViews.{state_seen}
use Rattle.ash_plain_steps.specs.Consistency.{AreConsistent}
use Rattle.ash_soundness.proofs.First.{empty_well}
use Rattle.ash_states.specs.HostStates.{IsAdmitted, FirstIsAdmitted, embedding_for, offered_to, empty}
use Rattle.ash_states.specs.Holding.{IsHeld}

pub first_admitted : FirstIsAdmitted
first_admitted registered services served few fit = record { formed = empty_well (embedding_for registered) (offered_to registered) services fit; served = served; few = few }

-- and so does the state that the code has
pub first_held : (registered : List Registration) (services : List (List ℕ)) (s : PlainState) → IsAdmitted (empty registered services) → state_seen s ≡ states.empty services → s.modules.items ≡ [] → IsHeld registered s
first_held registered services s admitted is none = record {
  admitted = subst (λ (t : State). IsAdmitted (record { registered = registered; state = t })) (sym is) admitted;
  consistent = subst (λ (ms : List code_module.LoadedModule). AreConsistent (embedding_for registered) ms) (sym none) (record { ascending = tt; read = tt });
}
