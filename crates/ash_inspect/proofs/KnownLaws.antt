-- What is known of an image and records.
use Rattle.std.proofs.Common.{◌≡◌, inl, inr, ℕ, ◌+◌, Option, IfSome, List, [], ◌∷◌, length, sym, ◌∙◌, ap, subst, arith}
use Rattle.std.proofs.lemmas.List.{length-map, take_all}
use Rattle.ash_journal.specs.Current.{Contents}
use Rattle.ash_journal.specs.Reading.{AreAt, bodies_of}
use Rattle.ash_journal.specs.declared.record.Record.{Record}
use Rattle.ash_image.specs.declared.version.Version.{Version}
use Rattle.ash_image.specs.Snapshots.{Snapshot}
use Rattle.ash_image.specs.SnapshotViews.{snapshot_of}
use Rattle.ash_image.specs.Image.{FitsVersion}
use Rattle.ash_image.specs.Leading.{NamedSnapshot, named}
use Rattle.ash_replay.specs.Replay.{IsStateIn, LeadThrough}
use Rattle.ash_replay.specs.ReplayFaults.{record_header_size, after_image, StopsAt, StopsAtRecord, EndsInNoState}
use Rattle.ash_replay.specs.ReplayFaults.{IsMisshapen}
use Rattle.ash_replay.proofs.Once.{image_once, record_once, led_once}
use Rattle.ash_inspect.specs.declared.known.KnownState.{KnownState}
use Rattle.ash_inspect.specs.Known.{IsKnown, IsKnownOf}

-- the state of all records
pub wholly_known : (known : KnownState) (image : List ℕ) (records : List Record) → known.records ≡ length records
    → IsStateIn known.stored.version (image, bodies_of records) (snapshot_of known.stored.state)
    → IsKnown known image (bodies_of records)
wholly_known known image records count leads =
    let bodies = bodies_of records in
    let counted : length bodies ≡ known.records = length-map records (λ (r : Record). r.body.items) ∙ sym count in
    record {
      within = omega (arith, counted);
      leads = subst
          (λ (bs : List (List ℕ)). IsStateIn known.stored.version (image, bs) (snapshot_of known.stored.state))
          (sym (take_all known.records bodies (omega (arith, counted))))
          leads;
    }

-- records that lead on do not stop
leads_on : (version : Version) (offset at : ℕ) (bodies : List (List ℕ)) (before other after : NamedSnapshot)
    → before ≡ other → LeadThrough version bodies before after → StopsAt version offset bodies other at → ⊥
leads_on version offset at [] before other after same led stops = stops
leads_on version offset at (body ∷ bodies) before other after same led stops =
    let there = subst (λ (from : NamedSnapshot). LeadThrough version (body ∷ bodies) from after) same led in
    elim stops [
      | inl here ↦ here.0 there.0 there.1
      | inr later ↦
          leads_on version (offset + record_header_size + length body) at bodies there.0 later.0 after
          (record_once version body other there.0 later.0 there.1 later.1) there.2 later.2
    ]

no_stop : (version : Version) (contents : Contents) (s : Snapshot) (at : ℕ) → IsStateIn version contents s
    → StopsAtRecord contents at → ⊥
no_stop version contents s at is (other, first, image, stops) =
    let same = image_once contents.0 version other is.led.first first is.led.image image in
    let there = subst (λ (v : Version). LeadThrough v contents.1 (named is.led.first) (named s)) same.0 is.led.records in
    leads_on other (after_image contents.0) at contents.1 (named is.led.first) (named first) (named s)
    (ap named same.1) there stops

no_end : (version : Version) (contents : Contents) (s : Snapshot) (at : ℕ) → IsStateIn version contents s
    → EndsInNoState contents at → ⊥
no_end version contents s at is (other, last, led, breaks, at_gate) =
    let same = led_once version other contents (named s) last is.led led in
    breaks s same.1 (subst (λ (v : Version). FitsVersion v s) same.0 is.fits) is.rules

-- what leads to a state is not misshapen
pub well_shaped : (version : Version) (contents : Contents) (s : Snapshot) (at : ℕ) → IsStateIn version contents s
    → IsMisshapen contents at → ⊥
well_shaped version contents s at is (inl none) = none.0 version is.led.first is.led.image
well_shaped version contents s at is (inr (inl stops)) = no_stop version contents s at is stops
well_shaped version contents s at is (inr (inr ends)) = no_end version contents s at is ends

-- ---- the same lists

abbrev pub IsAllKnown : List ℕ → List Record → Option KnownState → Type 0
IsAllKnown image records found =
    (version : Version) (s : Snapshot) → AreAt (after_image image) records
    → IsStateIn version (image, bodies_of records) s → IsKnownOf (length records) found

abbrev pub IsSomeKnown : List ℕ → List Record → Option KnownState → Type 0
IsSomeKnown image records found = IfSome found (λ known. IsKnown known image (bodies_of records))

pub all_moved : (image other : List ℕ) (records others : List Record) (found : Option KnownState) → other ≡ image
    → others ≡ records → IsAllKnown other others found → IsAllKnown image records found
all_moved image other records others found images rows all =
    subst (λ (x : List ℕ). IsAllKnown x records found) images (subst (λ (x : List Record). IsAllKnown other x found) rows all)

pub some_moved : (image other : List ℕ) (records others : List Record) (found : Option KnownState) → other ≡ image
    → others ≡ records → IsSomeKnown other others found → IsSomeKnown image records found
some_moved image other records others found images rows known =
    subst (λ (x : List ℕ). IsSomeKnown x records found) images
    (subst (λ (x : List Record). IsSomeKnown other x found) rows known)
