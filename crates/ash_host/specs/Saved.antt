-- What is true of the states of host objects, and what is taken as true of a kind beyond what its code is proved to do.
use Rattle.std.specs.Prelude.{◌≡◌, ◌≤◌, ℕ, List, length}
use Rattle.ash_host.specs.declared.host_object.HostObject.{Ghosts}
use Rattle.ash_host.specs.Limits.{max_state_bytes}

-- The state of an object is no longer than a state may be.
abbrev pub StateFits : {B : Type 0} → Ghosts B → B → Type 0
StateFits host object = length (host.state object) ≤ max_state_bytes

-- An object saves these bytes: they are its state, and no longer than a state may be.
pub record Saves {B : Type 0} (host : Ghosts B) (object : B) (bytes : List ℕ) : Type 0 where
  pub state_is : bytes ≡ host.state object
  pub fits : length bytes ≤ max_state_bytes

-- A fresh object refuses nothing that an object of its kind saves. It is a premise of whatever promises that a store
-- opens again: a kind whose `restore` refuses everything meets the trait, and nothing that it saved comes back.
abbrev pub RestoresSaved : {B : Type 0} → Ghosts B → B → Type 0
RestoresSaved host fresh =
    (object : _) (bytes : List ℕ) → host.kind_of object ≡ host.kind_of fresh → Saves host object bytes
    → host.refuses fresh bytes → ⊥
