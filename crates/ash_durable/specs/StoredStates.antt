-- What a store's files hold, said of states.
use Rattle.std.specs.Prelude.{◌≡◌, ◌⊎◌, ℕ}
use Rattle.std.specs.Bool.{IsTrue}
use Rattle.ash_disk.specs.Device.{Device}
use Rattle.ash_journal.specs.declared.journal.Journal.{Journal}
use Rattle.ash_journal.specs.Current.{Contents}
use Rattle.ash_journal.specs.Journal.{first_disk, second_disk, Holds}
use Rattle.ash_journal.specs.SettledSince.{HoldsSince}
use Rattle.ash_states.specs.HostStates.{HostState}
use Rattle.ash_image.specs.declared.version.Version.TheVariants.{Two}
use Rattle.ash_replay.specs.ReplayedStates.{AreIn, IsStateOf}

-- contents of a state with P
abbrev pub HaveState : (HostState → Type 0) → Contents → Type 0
HaveState P contents = (state : HostState) × P state × IsStateOf state contents

-- the same in version 2
abbrev pub HaveStateInTwo : (HostState → Type 0) → Contents → Type 0
HaveStateInTwo P contents = HaveState P contents × AreIn Two contents

-- this state and no other
abbrev pub IsOne : HostState → HostState → Type 0
IsOne one state = state ≡ one

-- one of two states
abbrev pub IsEither : HostState → HostState → HostState → Type 0
IsEither one other state = (state ≡ one) ⊎ (state ≡ other)

-- both disks do what the disk model says
pub record AreHonest {D : Type 0} (device : Device D) (first second : D) : Type 0 where
  pub honest_first : IsTrue (device.honest first)
  pub honest_second : IsTrue (device.honest second)

-- At every two moments of two disks, from two earlier times up to now, what a crash may leave settles on states with P,
-- in version 2.
abbrev pub SettleSince : {D : Type 0} → Device D → ℕ → ℕ → D → D → (HostState → Type 0) → Type 0
SettleSince device a b first second P = HoldsSince device a b first second (HaveStateInTwo P)

-- what a crash now may leave of two disks settles on states with P, in version 2
abbrev pub SettleNow : {D : Type 0} → Device D → D → D → (HostState → Type 0) → Type 0
SettleNow device first second P = SettleSince device (device.clock first) (device.clock second) first second P

-- or in any version
abbrev pub SettleInAnyVersion : {D : Type 0} → Device D → D → D → (HostState → Type 0) → Type 0
SettleInAnyVersion device first second P =
    HoldsSince device (device.clock first) (device.clock second) first second (HaveState P)

-- A journal's files hold a state, in version 2: all of it is on the devices, and they settle on it alone, whatever a
-- crash does.
pub record HoldsState {D : Type 0} (device : Device D) (state : HostState) (journal : Journal D) : Type 0 where
  pub contents : Contents
  pub holds : Holds device journal contents.0 contents.1
  pub is_state : IsStateOf state contents
  pub in_two : AreIn Two contents

-- Calls took a journal from old to new, and at every moment of them, since two earlier times, the files settle on one
-- of two states, where they settled on the first of them until then.
abbrev pub ExtendsHistory : {D : Type 0} → Device D → HostState → HostState → Journal D → Journal D → Type 0
ExtendsHistory device before after old new =
    (a b : ℕ) → SettleSince device a b (first_disk old) (second_disk old) (IsOne before)
    → SettleSince device a b (first_disk new) (second_disk new) (IsEither before after)

-- The same since the calls began.
abbrev pub BeginsAnew : {D : Type 0} → Device D → HostState → HostState → Journal D → Journal D → Type 0
BeginsAnew device before after old new =
    SettleSince device (device.clock (first_disk old)) (device.clock (second_disk old)) (first_disk new)
    (second_disk new) (IsEither before after)
