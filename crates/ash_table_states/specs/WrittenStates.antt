-- A state whose objects are in a table, as it is written.
use Rattle.std.specs.Prelude.{◌≡◌, List, length}
use Rattle.ash_host.specs.declared.host_object.HostObject.{Ghosts}
use Rattle.ash_registry.specs.AcceptedRegistrations.{Registration}
use Rattle.ash_plain_steps.specs.StateViews.{modules_seen}
use Rattle.ash_states.specs.HostStates.{HostState, IsAdmitted}
use Rattle.ash_table_states.specs.declared.writing.TableState.{TableState}
use Rattle.ash_table_states.specs.TableStates.{state_shown}

module _ {B : Type 0} (G : Ghosts B) where
  -- the state, with what is registered
  abbrev pub state_in : List Registration → TableState B → HostState
  state_in registered s = record {
    registered = registered;
    state = state_shown G (modules_seen s.modules.now) s.slots.now s.seq s.table.now;
  }

  -- A host may be in the state, each module has a slot, and the last number is that of the table.
  pub record IsWritable (registered : List Registration) (s : TableState B) : Type 0 where
    pub admitted : IsAdmitted (state_in registered s)
    pub many : length s.slots.now ≡ length s.modules.now
    pub last : s.last ≡ s.table.now.last
