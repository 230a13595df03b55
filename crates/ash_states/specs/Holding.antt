-- What is known of the state that the code has.
use Rattle.std.specs.Prelude.{List}
use Rattle.ash_registry.specs.AcceptedRegistrations.{Registration}
use Rattle.ash_plain_steps.specs.declared.state.PlainState.{PlainState}
use Rattle.ash_plain_steps.specs.StateViews.{state_seen}
use Rattle.ash_plain_steps.specs.Consistency.{AreConsistent}
use Rattle.ash_states.specs.HostStates.{HostState, IsAdmitted, embedding_for}

-- the state with what is registered
abbrev pub held_with : List Registration → PlainState → HostState
held_with registered s = record { registered = registered; state = state_seen s }

-- A host with these registrations may be in the state, and the typed tree of each module is that of its source.
pub record IsHeld (registered : List Registration) (s : PlainState) : Type 0 where
  pub admitted : IsAdmitted (held_with registered s)
  pub consistent : AreConsistent (embedding_for registered) s.modules.items
