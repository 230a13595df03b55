-- The delta that lists what a request changed, and the body of a record that has it, lead to a state that has an image, if
-- the state before it has one.
use Rattle.std.proofs.Common.{◌≡◌, ◌<◌, ◌^◌, ℕ, Bool, true, false, cond, List, [], ◌∷◌, length, map, zip, nat_eq, refl, sym, ap, ◌∙◌, subst, arith}
use Rattle.std.specs.Prelude.{Option, Some, None, Contains}
use Rattle.std.specs.List.{AllByRecursion}
use Rattle.std.specs.Option.{option_map}
use Rattle.std.proofs.lemmas.Bool.{eqb-true}
use Rattle.std.proofs.lemmas.Option.{same_Some}
use Rattle.ash_host.specs.declared.event.Event.{Event}
use Rattle.ash_host.specs.Objects.{Elements, Bools, Ints, Uints, Int64s, Uint64s, Handles, Hosts, Plain, Script, Array, Host, LiveObjects, object_at}
use Rattle.ash_host.specs.Reach.{is_among}
use Rattle.ash_host.proofs.Membership.{is_among_yes, is_among_says}
use Rattle.ash_registry.specs.AcceptedRegistrations.{Registration}
use Rattle.ash_registry.specs.RegistryText.{text_of}
use Rattle.ash_sources.proofs.SourceLaws.{read_sound}
use Rattle.ash_image.specs.declared.version.Version.TheVariants.{Two}
use Rattle.ash_image.specs.ObjectBytes.{FitsHost, FitsPlain}
use Rattle.ash_image.specs.Image.{FitsText, FitsObject, FitsVersion}
use Rattle.ash_image.specs.Delta.{delta, FitsDelta}
use Rattle.ash_states.specs.HostStates.{HostState, IsAdmitted, service_kinds, embedding_for, offered_to}
use Rattle.ash_states.specs.Indexes.{snapshot_for, index_in, plain_indexed, entry_indexed, HasKind, HaveKinds, HaveServiceKinds}
use Rattle.ash_states.proofs.Lists.{all_more, all_map, each_at}
use Rattle.ash_states.proofs.Renamed.{at_renamed}
use Rattle.ash_states.proofs.Fitting.{fields_indexed}
use Rattle.ash_states.proofs.Depicted.{snapshot_fits}
use Rattle.ash_states.proofs.SnapshotRules.{rules}
use Rattle.ash_change_laws.specs.ChangedStates.{Changes, Names}
use Rattle.ash_change_records.specs.ListedChanges.{changes_listed, ListedChangesLeadTo, BodiesLead}
use Rattle.ash_change_records.proofs.Listing.{at_listed}
use Rattle.ash_change_records.proofs.ChangesLead.{changes_lead}

-- kinds

firsts_fit : (kinds : List ℕ) (states : List (List ℕ)) → length states ≡ length kinds → AllByRecursion (λ (e : ℕ × List ℕ). FitsHost e.0 e.1) (zip kinds states) → HaveServiceKinds kinds
firsts_fit [] states many fit = tt
firsts_fit (kind ∷ kinds) [] many fit = absurd (omega (arith, many))
firsts_fit (kind ∷ kinds) (state ∷ states) many fit = ((fit.0).kind_fits, firsts_fit kinds states (omega (arith, many)) fit.1)

has_kind : (o : Plain ℕ) → FitsPlain o → HasKind o
has_kind (Script owner place fields) fits = tt
has_kind (Array Bools elements) fits = tt
has_kind (Array Ints elements) fits = tt
has_kind (Array Uints elements) fits = tt
has_kind (Array Int64s elements) fits = tt
has_kind (Array Uint64s elements) fits = tt
has_kind (Array (Handles owner place) elements) fits = tt
has_kind (Array (Hosts kind) elements) fits = fits.element_fits
has_kind (Host kind state) fits = fits.kind_fits

-- the kind does not depend on the indexes of modules
other_kind : (one other : List ℕ → ℕ) (o : Plain (List ℕ)) → HasKind (plain_indexed one o) → HasKind (plain_indexed other o)
other_kind one other (Script owner place fields) k = tt
other_kind one other (Array Bools elements) k = tt
other_kind one other (Array Ints elements) k = tt
other_kind one other (Array Uints elements) k = tt
other_kind one other (Array Int64s elements) k = tt
other_kind one other (Array Uint64s elements) k = tt
other_kind one other (Array (Handles owner place) elements) k = tt
other_kind one other (Array (Hosts kind) elements) k = k
other_kind one other (Host kind state) k = k

-- what holds of each entry holds of the one at a number
at_holds : {A : Type 0} (P : ℕ × A → Type 0) (es : List (ℕ × A)) → AllByRecursion P es → (n : ℕ) (a : A) → object_at n es ≡ Some a → P (n, a)
at_holds P [] all n a at = absurd (cc)
at_holds {A} P (e ∷ es) all n a at = by (nat_eq n e.0) refl at (λ later. at_holds P es all.1 n a later)
  where
    by : (b : Bool) → nat_eq n e.0 ≡ b → cond b (Some e.1) (object_at n es) ≡ Some a → (object_at n es ≡ Some a → P (n, a)) → P (n, a)
    by true is here rest =
        subst (λ (m : ℕ). P (m, a)) (sym (eqb-true n e.0 is)) (subst (λ (x : A). P (e.0, x)) (same_Some e.1 a here) all.0)
    by false is there rest = rest there

-- what is at a number, by the index of its module
at_indexed : (s : HostState) (n : ℕ) (o : Plain (List ℕ)) → object_at n (s.state).objects ≡ Some o
    → object_at n (snapshot_for s).objects ≡ Some (plain_indexed (index_in (s.state).modules) o)
at_indexed s n o at =
    at_renamed (plain_indexed (index_in (s.state).modules)) (fields_indexed (index_in (s.state).modules)) n (s.state).objects
    ∙ ap (option_map (plain_indexed (index_in (s.state).modules))) at

module _ (c : Changes) (happened : List Event) (before after : HostState) (was : IsAdmitted before) (is : IsAdmitted after)
    (same : after.registered ≡ before.registered) (h : Names c happened before.state after.state)
    (fits : FitsVersion Two (snapshot_for before)) (spelled : FitsDelta Two (changes_listed c after)) where
  abbrev index : List ℕ → ℕ
  index = index_in (after.state).modules

  one_kind : (e : ℕ × Plain (List ℕ)) → object_at e.0 (after.state).objects ≡ Some e.1 → HasKind (plain_indexed index e.1)
  one_kind e at = by (is_among c.living e.0) refl (is_among c.gone e.0) refl
    where
      by : (b : Bool) → is_among c.living e.0 ≡ b → (g : Bool) → is_among c.gone e.0 ≡ g → HasKind (plain_indexed index e.1)
      by true living g gone =
          let put : object_at e.0 (changes_listed c after).put ≡ Some (plain_indexed index e.1) =
          at_listed (λ n. object_at n (snapshot_for after).objects) e.0 c.living
          ∙ ap (λ (b : Bool). cond b (object_at e.0 (snapshot_for after).objects) None) living
          ∙ at_indexed after e.0 e.1 at in
          has_kind (plain_indexed index e.1) (at_holds (FitsObject Two) (changes_listed c after).put (spelled.put).each e.0 (plain_indexed index e.1) put).fits
      by false living true gone =
          let none : Some e.1 ≡ None = sym at ∙ (h.went e.0 (is_among_says e.0 c.gone gone)).1 in
          absurd (cc)
      by false living false gone =
          let stays : object_at e.0 (before.state).objects ≡ Some e.1 =
          sym (h.objects e.0 (λ i. let yes = is_among_yes e.0 c.living i in absurd (cc)) (λ i. let yes = is_among_yes e.0 c.gone i in absurd (cc))) ∙ at in
          let there = at_indexed before e.0 e.1 stays in
          other_kind (index_in (before.state).modules) index e.1
          (has_kind (plain_indexed (index_in (before.state).modules) e.1)
          (at_holds (FitsObject Two) (snapshot_for before).objects (fits.objects).each e.0 (plain_indexed (index_in (before.state).modules) e.1) there).fits)

  kinds : HaveKinds (snapshot_for after).objects
  kinds =
      all_map (entry_indexed index) (λ (e : ℕ × Plain ℕ). HasKind e.1) (after.state).objects
      (all_more (λ (e : ℕ × Plain (List ℕ)). object_at e.0 (after.state).objects ≡ Some e.1) (λ (e : ℕ × Plain (List ℕ)). HasKind (plain_indexed index e.1))
      one_kind (after.state).objects (each_at (after.state).objects ((is.formed).numbered).in_order))

  pub after_fits : FitsVersion Two (snapshot_for after)
  after_fits =
      snapshot_fits after is
      (subst (λ (rs : List Registration). FitsText (text_of rs)) (sym same) fits.text)
      (subst (λ (rs : List Registration). HaveServiceKinds (service_kinds rs)) (sym same)
      (firsts_fit (service_kinds before.registered) (before.state).services was.served (fits.services).each))
      kinds

pub listed_lead_to : ListedChangesLeadTo
listed_lead_to c happened before after was is same h fits spelled = (
  changes_lead c happened before after was is same h,
  after_fits c happened before after was is same h fits spelled,
  rules (embedding_for after.registered) (offered_to after.registered) (read_sound after.registered) after.state is.formed after.registered,
)

pub bodies_lead : BodiesLead
bodies_lead c happened before after body was is same h fits written = (
  delta (changes_listed c after),
  changes_listed c after,
  written.1,
  (written.0, refl),
  listed_lead_to c happened before after was is same h fits written.0,
)
