-- What is wrong with an image and records that lead to no state.
use Rattle.std.specs.Prelude.{◌≡◌, ◌⊎◌, ℕ, ◌+◌, List, [], ◌∷◌, length}
use Rattle.ash_journal.specs.Current.{Contents}
use Rattle.ash_journal.specs.Layout.{header_size}
use Rattle.ash_image.specs.declared.version.Version.{Version}
use Rattle.ash_image.specs.Snapshots.{Snapshot}
use Rattle.ash_image.specs.Image.{FitsVersion}
use Rattle.ash_image.specs.Rules.{KeepsRules, IsImage}
use Rattle.ash_image.specs.Leading.{NamedSnapshot, named}
use Rattle.ash_replay.specs.Replay.{IsRecordBetween, LeadTo}

-- offsets in the file

-- how many bytes are before the body of a record: a gate and the body's length
abbrev pub record_header_size : ℕ
record_header_size = 5

-- the offset of the gate after an image: before the image are a gate, the magic, a number and the image's length
abbrev pub after_image : List ℕ → ℕ
after_image image = header_size + length image

-- the offset of the gate before the last of some records, of which the gate before the first is at an offset; another
-- offset if there is none
abbrev pub last_gate_from : ℕ → ℕ → List (List ℕ) → ℕ
last_gate_from other offset [] = other
last_gate_from other offset (body ∷ bodies) = last_gate_from offset (offset + record_header_size + length body) bodies

-- the offset of the gate before the last record, or 0 if there is none
abbrev pub last_gate : Contents → ℕ
last_gate contents = last_gate_from 0 (after_image contents.0) contents.1

-- faults

-- the image of nothing
abbrev pub IsNoImage : List ℕ → Type 0
IsNoImage image = (version : Version) (s : Snapshot) → IsImage image version s → ⊥

-- The body of a record leads from a state to none: it is the body of no record in the version, or its image has another
-- text of what was registered, or a delta changes a service, a module or a global that is not there.
abbrev pub LeadsNowhere : Version → List ℕ → NamedSnapshot → Type 0
LeadsNowhere version body before = (after : NamedSnapshot) → IsRecordBetween version body before after → ⊥

-- Records, of which the gate before the first is at an offset, lead from a state to one from which the next of them
-- leads nowhere: the gate before that is there.
abbrev pub StopsAt : Version → ℕ → List (List ℕ) → NamedSnapshot → ℕ → Type 0
StopsAt version offset [] before at = ⊥
StopsAt version offset (body ∷ bodies) before at =
    (LeadsNowhere version body before × (at ≡ offset))
    ⊎ ((next : NamedSnapshot) × IsRecordBetween version body before next
    × StopsAt version (offset + record_header_size + length body) bodies next at)

-- one of the records after an image leads nowhere
abbrev pub StopsAtRecord : Contents → ℕ → Type 0
StopsAtRecord contents at = (version : Version) × (first : Snapshot) × IsImage contents.0 version first
    × StopsAt version (after_image contents.0) contents.1 (named first) at

-- no state that keeps the rules, and has an image in the version, is this one by names
abbrev pub BreaksRules : Version → NamedSnapshot → Type 0
BreaksRules version last = (state : Snapshot) → named state ≡ last → FitsVersion version state → KeepsRules state → ⊥

-- the records lead to a state that breaks the rules
abbrev pub EndsInNoState : Contents → ℕ → Type 0
EndsInNoState contents at = (version : Version) × (last : NamedSnapshot) × LeadTo version contents last
    × BreaksRules version last × (at ≡ last_gate contents)

-- The bytes at an offset are misshapen, the first that are: the image is none, or a record leads nowhere, or the last
-- state breaks the rules. The offset of a record is that of the gate before it, and the image's is 0.
abbrev pub IsMisshapen : Contents → ℕ → Type 0
IsMisshapen contents at = (IsNoImage contents.0 × (at ≡ 0)) ⊎ (StopsAtRecord contents at ⊎ EndsInNoState contents at)
