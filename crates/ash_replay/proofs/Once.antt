-- An image and records lead to one state.
use Rattle.std.proofs.Common.{◌≡◌, inl, inr, ◌∙◌, ℕ, List, [], ◌∷◌, refl, sym, ap, subst}
use Rattle.ash_journal.specs.Current.{Contents}
use Rattle.ash_image.specs.declared.version.Version.{Version}
use Rattle.ash_image.specs.Snapshots.{Snapshot}
use Rattle.ash_image.specs.Rules.{IsImage, IsImageBody}
use Rattle.ash_image.specs.Delta.{Delta}
use Rattle.ash_image.specs.Leading.{NamedSnapshot, named, Leads}
use Rattle.ash_image.proofs.ImageLaws.{spelled_once}
use Rattle.ash_image.proofs.DeltaLaws.{one_delta}
use Rattle.ash_image.proofs.DeltasLaws.{one_spelling}
use Rattle.ash_image.proofs.OneState.{known_by_names, one_led}
use Rattle.ash_replay.specs.Replay.{LeadsByImage, LeadsByDelta, LeadOneByOne, LeadsByDeltas, IsRecordBetween}
use Rattle.ash_replay.specs.Replay.{LeadThrough, LeadTo, ContentsLeadToOne}

-- an image is of one snapshot, in one version
pub image_once : (image : List ℕ) (v w : Version) (s t : Snapshot) → IsImage image v s → IsImage image w t
    → (v ≡ w) × (s ≡ t)
image_once image v w s t one other = spelled_once image v w s t one.0 other.0

same_tail : (body a b : List ℕ) (tag : ℕ) → body ≡ tag ∷ a → body ≡ tag ∷ b → a ≡ b
same_tail body a b tag p q = cc

image_or_delta : (body a b : List ℕ) → body ≡ 1 ∷ a → body ≡ 2 ∷ b → ⊥
image_or_delta body a b p q = cc

image_or_deltas : (body a b : List ℕ) → body ≡ 1 ∷ a → body ≡ 3 ∷ b → ⊥
image_or_deltas body a b p q = cc

delta_or_deltas : (body a b : List ℕ) → body ≡ 2 ∷ a → body ≡ 3 ∷ b → ⊥
delta_or_deltas body a b p q = cc

-- a body has the image of one snapshot
pub body_once : (body : List ℕ) (v w : Version) (s t : Snapshot) → IsImageBody body v s → IsImageBody body w t
    → (v ≡ w) × (s ≡ t)
body_once body v w s t one other =
    let same : other.0 ≡ one.0 = same_tail body other.0 one.0 1 other.1 one.1 in
    image_once one.0 v w s t one.2 (subst (λ (image : List ℕ). IsImage image w t) same other.2)

by_image_once : (version : Version) (body : List ℕ) (before s t : NamedSnapshot) → LeadsByImage version body before s
    → LeadsByImage version body before t → s ≡ t
by_image_once version body before s t one other =
    one.after_is ∙ ap named (body_once body version version one.state other.state one.is_body other.is_body).1
    ∙ sym other.after_is

by_delta_once : (version : Version) (bytes : List ℕ) (before s t : NamedSnapshot)
    → LeadsByDelta version bytes before s → LeadsByDelta version bytes before t → s ≡ t
by_delta_once version bytes before s t one other =
    let same : other.changes ≡ one.changes =
    one_delta bytes version other.changes one.changes other.is_delta one.is_delta in
    one_led one.changes before s t one.leads
    (subst (λ (d : Delta). Leads d before t) same other.leads) one.ordered other.ordered

-- deltas lead from a state to one, one after the other
one_by_one_once : (ds : List Delta) (before other s t : NamedSnapshot) → before ≡ other → LeadOneByOne ds before s
    → LeadOneByOne ds other t → s ≡ t
one_by_one_once [] before other s t same one two = one ∙ same ∙ sym two
one_by_one_once (d ∷ ds) before other s t same one two =
    let here = subst (λ (from : NamedSnapshot). Leads d from two.0) (sym same) two.1 in
    one_by_one_once ds one.0 two.0 s t (one_led d before one.0 two.0 one.1 here one.2 two.2) one.3 two.3

by_deltas_once : (version : Version) (bytes : List ℕ) (before s t : NamedSnapshot)
    → LeadsByDeltas version bytes before s → LeadsByDeltas version bytes before t → s ≡ t
by_deltas_once version bytes before s t one other =
    let same : other.changes ≡ one.changes =
    one_spelling bytes other.changes one.changes other.are_deltas one.are_deltas in
    one_by_one_once one.changes before before s t refl one.lead
    (subst (λ (ds : List Delta). LeadOneByOne ds before t) same other.lead)

-- a record leads from a state to one
pub record_once : (version : Version) (body : List ℕ) (before s t : NamedSnapshot)
    → IsRecordBetween version body before s
    → IsRecordBetween version body before t → s ≡ t
record_once version body before s t (inl one) (inl other) = by_image_once version body before s t one other
record_once version body before s t (inl one) (inr (inl (bytes, is, other))) =
    absurd (image_or_delta body (one.is_body).0 bytes (one.is_body).1 is)
record_once version body before s t (inl one) (inr (inr (bytes, is, other))) =
    absurd (image_or_deltas body (one.is_body).0 bytes (one.is_body).1 is)
record_once version body before s t (inr (inl (bytes, is, one))) (inl other) =
    absurd (image_or_delta body (other.is_body).0 bytes (other.is_body).1 is)
record_once version body before s t (inr (inl (bytes, is, one))) (inr (inl (more, too, other))) =
    let same : more ≡ bytes = same_tail body more bytes 2 too is in
    by_delta_once version bytes before s t one
    (subst (λ (b : List ℕ). LeadsByDelta version b before t) same other)
record_once version body before s t (inr (inl (bytes, is, one))) (inr (inr (more, too, other))) =
    absurd (delta_or_deltas body bytes more is too)
record_once version body before s t (inr (inr (bytes, is, one))) (inl other) =
    absurd (image_or_deltas body (other.is_body).0 bytes (other.is_body).1 is)
record_once version body before s t (inr (inr (bytes, is, one))) (inr (inl (more, too, other))) =
    absurd (delta_or_deltas body more bytes too is)
record_once version body before s t (inr (inr (bytes, is, one))) (inr (inr (more, too, other))) =
    let same : more ≡ bytes = same_tail body more bytes 3 too is in
    by_deltas_once version bytes before s t one
    (subst (λ (b : List ℕ). LeadsByDeltas version b before t) same other)

-- and so do records, one after the other
pub through_once : (version : Version) (bodies : List (List ℕ)) (before other s t : NamedSnapshot) → before ≡ other
    → LeadThrough version bodies before s → LeadThrough version bodies other t → s ≡ t
through_once version [] before other s t same one two = one ∙ same ∙ sym two
through_once version (body ∷ bodies) before other s t same one two =
    let here = subst (λ (from : NamedSnapshot). IsRecordBetween version body from two.0) (sym same) two.1 in
    through_once version bodies one.0 two.0 s t (record_once version body before one.0 two.0 one.1 here) one.2 two.2

-- contents lead to one state by names, in one version
pub led_once : (v w : Version) (contents : Contents) (s t : NamedSnapshot) → LeadTo v contents s
    → LeadTo w contents t → (v ≡ w) × (s ≡ t)
led_once v w contents s t one other =
    let same = image_once contents.0 v w one.first other.first one.image other.image in
    let there = subst (λ (version : Version). LeadThrough version contents.1 (named other.first) t) (sym same.0)
    other.records in
    (same.0, through_once v contents.1 (named one.first) (named other.first) s t (ap named same.1) one.records there)

-- and to one state
pub state_once : ContentsLeadToOne
state_once v w contents s t one other =
    let same = led_once v w contents (named s) (named t) one.led other.led in
    (same.0, known_by_names s t one.fits.modules.order one.rules other.rules same.1)
