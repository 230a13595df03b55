-- These definitions say what state the file is in that is not current.
use Rattle.std.specs.Prelude.{Bool, true, false, ℕ, ◌<◌, List}
use Rattle.ash_journal.specs.declared.other_state.OtherState.{OtherState}
use Rattle.ash_journal.specs.declared.other_state.OtherState.TheVariants.{Shut, Older, Stray}
use Rattle.ash_journal.specs.Layout.{IsClosed, IsShut, HasMark}

-- The state is that of an open, older generation.
abbrev pub is_older : OtherState → Bool
is_older Shut = false
is_older Older = true
is_older Stray = false

-- The state is that of a closed file whose first gate is still to be written over.
abbrev pub is_stray : OtherState → Bool
is_stray Shut = false
is_stray Older = false
is_stray Stray = true

-- `repaired state` is the state once a stray gate is written over.
abbrev pub repaired : OtherState → OtherState
repaired Shut = Shut
repaired Older = Older
repaired Stray = Shut

-- `first_of swapped current other` is the disk that was handed over first.
abbrev pub first_of : {D : Type 0} → Bool → D → D → D
first_of false current other = current
first_of true current other = other

-- `second_of swapped current other` is the disk that was handed over second.
abbrev pub second_of : {D : Type 0} → Bool → D → D → D
second_of false current other = other
second_of true current other = current

-- The other file is shut, or open and older, or closed with a first gate that is still to be written over.
abbrev pub OtherIs : OtherState → ℕ → List ℕ → Type 0
OtherIs Shut current file = IsShut file
OtherIs Older current file = (older : ℕ) × HasMark older file × (older < current)
OtherIs Stray current file = IsClosed file × (IsShut file → ⊥)
