-- The steps of reading an image and the records after it.
use Rattle.std.specs.Prelude.{◌≡◌, ◌⊎◌, ℕ, List, [], ◌∷◌, Result, MatchResult}
use Rattle.ash_journal.specs.declared.record.Record.{Record}
use Rattle.ash_journal.specs.Reading.{bodies_of}
use Rattle.ash_image.specs.declared.stored.StoredImage.{StoredImage}
use Rattle.ash_image.specs.declared.named_state.NamedState.{NamedState}
use Rattle.ash_image.specs.declared.version.Version.{Version}
use Rattle.ash_image.specs.Rules.{IsImage}
use Rattle.ash_image.specs.SnapshotViews.{snapshot_of}
use Rattle.ash_image.specs.Leading.{NamedSnapshot}
use Rattle.ash_image.specs.NamedViews.{state_seen}
use Rattle.ash_replay.specs.declared.fault.ReplayFault.{ReplayFault}
use Rattle.ash_replay.specs.declared.fault.ReplayFault.TheVariants as faults
use Rattle.ash_replay.specs.Replay.{IsRecordBetween, LeadThrough}
use Rattle.ash_replay.specs.ReplayFaults.{IsNoImage, LeadsNowhere}

-- what is reported is damage at an offset of which P holds, or that memory was refused
abbrev pub ReportsDamage : (ℕ → Type 0) → ReplayFault → Type 0
ReportsDamage P (faults.Damaged at) = P at
ReportsDamage P faults.NoMemory = Unit {0}
ReportsDamage P faults.OtherInterface = ⊥

-- an image is read as what it is the image of, or it is the image of nothing
abbrev pub ReadsImage : List ℕ → Result StoredImage ReplayFault → Type 0
ReadsImage image result =
    MatchResult result (λ stored. IsImage image stored.version (snapshot_of stored.state))
    (ReportsDamage (λ at. IsNoImage image × (at ≡ 0)))

-- a record leads to the given state, or it leads nowhere, and damage is reported at the gate before it
abbrev pub LeadsOn : Version → NamedSnapshot → List ℕ → ℕ → Result NamedState ReplayFault → Type 0
LeadsOn version before body gate result =
    MatchResult result (λ next. IsRecordBetween version body before (state_seen next))
    (ReportsDamage (λ at. LeadsNowhere version body before × (at ≡ gate)))

-- records lead to a state from which the next of them leads nowhere: the gate before that is at this offset
abbrev pub StopsAtGate : Version → List Record → NamedSnapshot → ℕ → Type 0
StopsAtGate version [] before at = ⊥
StopsAtGate version (r ∷ records) before at =
    (LeadsNowhere version r.body.items before × (at ≡ r.gate))
    ⊎ ((next : NamedSnapshot) × IsRecordBetween version r.body.items before next
    × StopsAtGate version records next at)

-- records lead from a state to the given one, or one of them leads nowhere, and damage is reported at the gate before
-- it
abbrev pub LeadsThrough : Version → NamedSnapshot → List Record → Result NamedState ReplayFault → Type 0
LeadsThrough version before records result =
    MatchResult result (λ last. LeadThrough version (bodies_of records) before (state_seen last))
    (ReportsDamage (StopsAtGate version records before))

-- the gate before the last of some records; another offset if there is none
abbrev pub newest_gate : ℕ → List Record → ℕ
newest_gate other [] = other
newest_gate other (r ∷ records) = newest_gate r.gate records
