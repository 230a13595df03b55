-- Reading an image and the records after it, step by step.
use Rattle.std.proofs.Common.{◌≡◌, inl, inr, ℕ, zero, suc, arith, ◌+◌, ◌<◌, ◌∙◌, true, false, List, [], ◌∷◌, length}
use Rattle.std.proofs.Common.{drop, get_or, Option, Some, None, option_map, Result, Ok, Err, refl, sym, ap, subst}
use Rattle.std.specs.Prelude.{IsSome, slice_get}
use Rattle.std.proofs.lemmas.List.{drop_more}
use Rattle.ash_journal.specs.declared.record.Record.{Record}
use Rattle.ash_journal.specs.Current.{Contents}
use Rattle.ash_journal.specs.Reading.{AreAt, bodies_of}
use Rattle.ash_image.specs.declared.stored.StoredImage.{StoredImage}
use Rattle.ash_image.specs.declared.stored.StoredState.{StoredState}
use Rattle.ash_image.specs.declared.named_state.NamedState.{NamedState}
use Rattle.ash_image.specs.declared.version.Version.{Version}
use Rattle.ash_image.specs.Snapshots.{Snapshot}
use Rattle.ash_image.specs.Image.{FitsVersion}
use Rattle.ash_image.specs.Rules.{KeepsRules, IsImage, IsImageBody}
use Rattle.ash_image.specs.Delta.{Delta, delta_tag}
use Rattle.ash_image.specs.Deltas.{deltas_tag}
use Rattle.ash_image.specs.SnapshotViews.{image_read, snapshot_of}
use Rattle.ash_image.specs.Leading.{NamedSnapshot, named, Leads, IsOrdered}
use Rattle.ash_image.proofs.OneState.{one_led}
use Rattle.ash_replay.specs.declared.fault.ReplayFault.{ReplayFault}
use Rattle.ash_replay.specs.declared.fault.ReplayFault.TheVariants as faults
use Rattle.ash_replay.specs.Replay.{LeadsByImage, LeadsByDelta, LeadOneByOne, LeadsByDeltas, IsRecordBetween}
use Rattle.ash_replay.specs.Replay.{LeadThrough, LeadTo, IsStateIn}
use Rattle.ash_replay.specs.ReplayFaults.{record_header_size, after_image, last_gate_from, IsNoImage, StopsAt}
use Rattle.ash_replay.specs.ReplayFaults.{LeadsNowhere, BreaksRules, IsMisshapen}
use Rattle.ash_replay.specs.ReplaySteps.{ReportsDamage, LeadsOn, StopsAtGate, LeadsThrough, newest_gate}

-- what is said of the offset of damage may be said otherwise
pub damage_is : (P Q : ℕ → Type 0) → ((at : ℕ) → P at → Q at) → (fault : ReplayFault) → ReportsDamage P fault
    → ReportsDamage Q fault
damage_is P Q says (faults.Damaged at) reported = says at reported
damage_is P Q says faults.NoMemory reported = tt
damage_is P Q says faults.OtherInterface reported = absurd reported

-- ---- images

none_is_some : {A : Type 0} (x : A) → None ≡ Some x → ⊥
none_is_some x is = cc

-- bytes of which no image is read are the image of nothing
pub reads_nothing : (image : List ℕ) (found : Option StoredImage) → found ≡ None
    → ((version : Version) (s : Snapshot) → IsImage image version s → option_map image_read found ≡ Some (version, s))
    → IsNoImage image
reads_nothing image (Some stored) is only = absurd (cc)
reads_nothing image None is only = λ version s image_is.
    none_is_some {A = Version × Snapshot} (version, s) (only version s image_is)

-- a body of which no image is read leads nowhere by one
pub no_body : (version : Version) (body : List ℕ) (before after : NamedSnapshot) (found : Option StoredImage)
    → found ≡ None
    → ((version : Version) (s : Snapshot) → IsImageBody body version s
    → option_map image_read found ≡ Some (version, s))
    → LeadsByImage version body before after → ⊥
no_body version body before after (Some stored) is only leads = absurd (cc)
no_body version body before after None is only leads =
    none_is_some {A = Version × Snapshot} (version, leads.state) (only version leads.state leads.is_body)

some_once : {A : Type 0} (x y : A) → Some x ≡ Some y → x ≡ y
some_once x y is = cc

-- a body leads by the image that is read of it, which has the version and the text of what was registered
pub read_with : (version : Version) (body : List ℕ) (before after : NamedSnapshot) (stored : StoredImage)
    → ((version : Version) (s : Snapshot) → IsImageBody body version s
    → option_map image_read (Some stored) ≡ Some (version, s))
    → LeadsByImage version body before after
    → (stored.version ≡ version) × ((snapshot_of stored.state).registered ≡ before.registered)
read_with version body before after stored only leads =
    let same : (stored.version, snapshot_of stored.state) ≡ (version, leads.state) =
    some_once {A = Version × Snapshot} _ _ (only version leads.state leads.is_body) in (
      ap (λ (x : Version × Snapshot). x.0) same,
      ap (λ (x : Version × Snapshot). (x.1).registered) same ∙ leads.registered,
    )

-- ---- bodies

same_tail : (body a b : List ℕ) (tag : ℕ) → body ≡ tag ∷ a → body ≡ tag ∷ b → a ≡ b
same_tail body a b tag p q = cc

image_or_delta : (body a b : List ℕ) → body ≡ 1 ∷ a → body ≡ 2 ∷ b → ⊥
image_or_delta body a b p q = cc

image_or_deltas : (body a b : List ℕ) → body ≡ 1 ∷ a → body ≡ 3 ∷ b → ⊥
image_or_deltas body a b p q = cc

delta_or_deltas : (body a b : List ℕ) → body ≡ 2 ∷ a → body ≡ 3 ∷ b → ⊥
delta_or_deltas body a b p q = cc

-- a body with the tag of a delta leads by it
pub delta_only : (version : Version) (body bytes : List ℕ) (before after : NamedSnapshot) → body ≡ delta_tag ∷ bytes
    → IsRecordBetween version body before after → LeadsByDelta version bytes before after
delta_only version body bytes before after tagged (inl by_image) =
    absurd (image_or_delta body (by_image.is_body).0 bytes (by_image.is_body).1 tagged)
delta_only version body bytes before after tagged (inr (inl (other, is, by_delta))) =
    let same : other ≡ bytes = same_tail body other bytes 2 is tagged in
    subst (λ (b : List ℕ). LeadsByDelta version b before after) same by_delta
delta_only version body bytes before after tagged (inr (inr (other, is, by_deltas))) =
    absurd (delta_or_deltas body bytes other tagged is)

-- a body with the tag of several deltas leads by them
pub deltas_only : (version : Version) (body bytes : List ℕ) (before after : NamedSnapshot) → body ≡ deltas_tag ∷ bytes
    → IsRecordBetween version body before after → LeadsByDeltas version bytes before after
deltas_only version body bytes before after tagged (inl by_image) =
    absurd (image_or_deltas body (by_image.is_body).0 bytes (by_image.is_body).1 tagged)
deltas_only version body bytes before after tagged (inr (inl (other, is, by_delta))) =
    absurd (delta_or_deltas body other bytes is tagged)
deltas_only version body bytes before after tagged (inr (inr (other, is, by_deltas))) =
    let same : other ≡ bytes = same_tail body other bytes 3 is tagged in
    subst (λ (b : List ℕ). LeadsByDeltas version b before after) same by_deltas

-- another leads by an image
pub image_only : (version : Version) (body : List ℕ) (before after : NamedSnapshot)
    → ((bytes : List ℕ) → body ≡ delta_tag ∷ bytes → ⊥) → ((bytes : List ℕ) → body ≡ deltas_tag ∷ bytes → ⊥)
    → IsRecordBetween version body before after → LeadsByImage version body before after
image_only version body before after no_delta no_deltas (inl by_image) = by_image
image_only version body before after no_delta no_deltas (inr (inl (bytes, is, by_delta))) = absurd (no_delta bytes is)
image_only version body before after no_delta no_deltas (inr (inr (bytes, is, by_deltas))) =
    absurd (no_deltas bytes is)

-- ---- from delta to delta

-- The deltas that are left lead from a state where all of them lead from the first, and the other way round.
pub record LeadLikewise (all left : List Delta) (first state : NamedSnapshot) : Type 0 where
  pub on : (after : NamedSnapshot) → LeadOneByOne left state after → LeadOneByOne all first after
  pub only : (after : NamedSnapshot) → LeadOneByOne all first after → LeadOneByOne left state after

-- one more leads on
pub led_one : (all left later : List Delta) (d : Delta) (first state next : NamedSnapshot) → left ≡ d ∷ later
    → LeadLikewise all left first state → Leads d state next → IsOrdered next → LeadLikewise all later first next
led_one all left later d first state next is likewise leads ordered = record {
  on = λ after lead.
      likewise.on after
      (subst (λ (ds : List Delta). LeadOneByOne ds state after) (sym is) (next, leads, ordered, lead));
  only = λ after lead.
      let there = subst (λ (ds : List Delta). LeadOneByOne ds state after) is (likewise.only after lead) in
      let same : there.0 ≡ next = one_led d state there.0 next there.1 leads there.2 ordered in
      subst (λ (from : NamedSnapshot). LeadOneByOne later from after) same there.3;
}

-- where no state is found, a body leads nowhere
pub nowhere : (version : Version) (bytes body : List ℕ) (before : NamedSnapshot) (found : Option NamedState)
    → bytes ≡ body → found ≡ None
    → ((after : NamedSnapshot) → IsRecordBetween version bytes before after → IsSome found)
    → LeadsNowhere version body before
nowhere version bytes body before (Some next) same is only after leads = absurd (cc)
nowhere version bytes body before None same is only after leads =
    let found : false ≡ true = only after
    (subst (λ (b : List ℕ). IsRecordBetween version b before after) (sym same) leads) in
    absurd (cc)

-- ---- from record to record

-- the records that are left begin with this one
pub left_from : (records : List Record) (i : ℕ) (r : Record) → i < length records → r ≡ get_or records i r
    → drop i records ≡ r ∷ drop (i + 1) records
left_from records i r within is = drop_more records i r within ∙ ap (λ (x : Record). x ∷ drop (i + 1) records) (sym is)

-- a record leads to a state, and those after it on from there
pub through_more : (version : Version) (before next : NamedSnapshot) (r : Record) (records : List Record)
    (result : Result NamedState ReplayFault) → IsRecordBetween version r.body.items before next
    → LeadsThrough version next records result → LeadsThrough version before (r ∷ records) result
through_more version before next r records (Ok last) on through = (next, on, through)
through_more version before next r records (Err fault) on through =
    damage_is (StopsAtGate version records next) (StopsAtGate version (r ∷ records) before)
    (λ at later. inr (next, on, later)) fault through

-- a record leads nowhere, and is reported
pub through_none : (version : Version) (before : NamedSnapshot) (r : Record) (records : List Record)
    (fault : ReplayFault) → LeadsOn version before r.body.items r.gate (Err fault)
    → LeadsThrough version before (r ∷ records) (Err fault)
through_none version before r records fault on =
    damage_is _ (StopsAtGate version (r ∷ records) before) (λ at none. inl none) fault on

-- ---- offsets

-- the first record that leads nowhere, if the offsets of records are those of their gates
stops_at : (version : Version) (offset at : ℕ) (records : List Record) (before : NamedSnapshot) → AreAt offset records
    → StopsAtGate version records before at → StopsAt version offset (bodies_of records) before at
stops_at version offset at [] before placed stops = stops
stops_at version offset at (r ∷ records) before placed stops = elim stops [
  | inl here ↦ inl (here.0, here.1 ∙ placed.0)
  | inr later ↦ inr (
    later.0,
    later.1,
    stops_at version (offset + record_header_size + length r.body.items) at records later.0 placed.1 later.2,
  )
]

-- the gate of the last record is the newest
pub last_newest : (other : ℕ) (records : List Record) (i : ℕ) (last : Record) → suc i ≡ length records
    → Some last ≡ slice_get records i → last.gate ≡ newest_gate other records
last_newest other [] i last is found = absurd (omega arith)
last_newest other (r ∷ []) zero last is found = ap (λ (x : Record). x.gate) (some_once last r found)
last_newest other (r ∷ []) (suc i) last is found = absurd (omega arith)
last_newest other (r ∷ s ∷ records) zero last is found = absurd (omega arith)
last_newest other (r ∷ s ∷ records) (suc i) last is found =
    last_newest r.gate (s ∷ records) i last (omega arith) found

-- the gate before the last record
pub newest_is : (other offset : ℕ) (records : List Record) → AreAt offset records
    → newest_gate other records ≡ last_gate_from other offset (bodies_of records)
newest_is other offset [] placed = refl
newest_is other offset (r ∷ records) placed =
    let next = offset + record_header_size + length r.body.items in
    newest_is r.gate next records placed.1
    ∙ ap (λ (gate : ℕ). last_gate_from gate next (bodies_of records)) placed.0

-- ---- all of it

-- the image is none
pub image_fault : (image : List ℕ) (bodies : List (List ℕ)) (fault : ReplayFault)
    → ReportsDamage (λ at. IsNoImage image × (at ≡ 0)) fault → ReportsDamage (IsMisshapen (image, bodies)) fault
image_fault image bodies fault reported =
    damage_is (λ at. IsNoImage image × (at ≡ 0)) (IsMisshapen (image, bodies)) (λ at none. inl none) fault reported

-- a record leads nowhere
pub record_fault : (image : List ℕ) (records : List Record) (version : Version) (s : Snapshot) (first : NamedSnapshot)
    (fault : ReplayFault) → IsImage image version s → first ≡ named s → AreAt (after_image image) records
    → ReportsDamage (StopsAtGate version records first) fault
    → ReportsDamage (IsMisshapen (image, bodies_of records)) fault
record_fault image records version s first fault is same placed reported =
    damage_is (StopsAtGate version records first) (IsMisshapen (image, bodies_of records))
    (λ at stops. inr (inl (
      version,
      s,
      is,
      stops_at version (after_image image) at records (named s) placed
          (subst (λ (from : NamedSnapshot). StopsAtGate version records from at) same stops),
    )))
    fault reported

-- records lead on from the image
pub led_to : (image : List ℕ) (records : List Record) (version : Version) (s : Snapshot) (first last : NamedSnapshot)
    → IsImage image version s → first ≡ named s → LeadThrough version (bodies_of records) first last
    → LeadTo version (image, bodies_of records) last
led_to image records version s first last is same through = record {
  first = s;
  image = is;
  records = subst (λ (from : NamedSnapshot). LeadThrough version (bodies_of records) from last) same through;
}

-- the last state keeps the rules
pub state_led : (version : Version) (contents : Contents) (last : NamedSnapshot) (state : Snapshot)
    → LeadTo version contents last → named state ≡ last → FitsVersion version state → KeepsRules state
    → IsStateIn version contents state
state_led version contents last state led same fits keeps = record {
  led = subst (λ (to : NamedSnapshot). LeadTo version contents to) (sym same) led;
  fits = fits;
  rules = keeps;
}

-- no state is stored, since the last one breaks the rules
pub breaks : (version : Version) (last : NamedSnapshot) (found : Option StoredState) → found ≡ None
    → ((s : Snapshot) → named s ≡ last → FitsVersion version s → KeepsRules s → IsSome found)
    → BreaksRules version last
breaks version last (Some stored) is only state same fits keeps = absurd (cc)
breaks version last None is only state same fits keeps =
    let found : false ≡ true = only state same fits keeps in absurd (cc)

-- the last state breaks the rules
pub rules_fault : (image : List ℕ) (records : List Record) (version : Version) (last : NamedSnapshot) (gate : ℕ)
    → LeadTo version (image, bodies_of records) last → BreaksRules version last → AreAt (after_image image) records
    → gate ≡ newest_gate 0 records → IsMisshapen (image, bodies_of records) gate
rules_fault image records version last gate led breaks placed at_gate =
    inr (inr (version, last, led, breaks, at_gate ∙ newest_is 0 (after_image image) records placed))
