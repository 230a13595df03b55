-- What a request changed, as a delta: what the names of its changes name, as it is in the state after the request.
use Rattle.std.specs.Prelude.{◌≡◌, ◌≤◌, ◌<◌, ◌^◌, ◌++◌, ℕ, List, Option, slice_get, length, Contains, ⊤}
use Rattle.std.specs.Bool.{IsTrue}
use Rattle.std.specs.List.{filter_map, AllByRecursion}
use Rattle.std.specs.List.Sorted.{IsStrictlyIncreasing}
use Rattle.std.specs.Option.{option_map, option_map_or}
use Rattle.ash_host.specs.declared.event.Event.{Event}
use Rattle.ash_host.specs.Limits.{max_objects}
use Rattle.ash_host.specs.Objects.{object_at}
use Rattle.ash_image.specs.declared.version.Version.TheVariants.{Two}
use Rattle.ash_image.specs.Image.{is_module_name, FitsVersion}
use Rattle.ash_image.specs.Snapshots.{Loaded}
use Rattle.ash_image.specs.Delta.{ModuleChange, Unchanged, Added, Removed, Globals, Delta, delta, FitsDelta}
use Rattle.ash_image.specs.Delta.{IsDeltaBody}
use Rattle.ash_states.specs.HostStates.{HostState, IsAdmitted}
use Rattle.ash_states.specs.Indexes.{snapshot_for}
use Rattle.ash_change_laws.specs.ChangedStates as changed
use Rattle.ash_change_laws.specs.ChangedStates.{Changes, Names}
use Rattle.ash_image.specs.Leading.{module_named, named, Leads, LeadsTo, IsDeltaBetween}

-- what there is at each of these numbers, with the number; of a number at which there is nothing, nothing
abbrev pub listed : {A : Type 0} → (ℕ → Option A) → List ℕ → List (ℕ × A)
listed {A} at numbers = filter_map (λ number. option_map (λ (a : A). (number, a)) (at number)) numbers

-- what became of the modules, which are these afterwards
abbrev pub change_listed : changed.ModuleChange → List Loaded → ModuleChange
change_listed changed.Unchanged ms = Unchanged
change_listed (changed.Loaded name) ms = option_map_or (λ (m : Loaded). Added m) (module_named name ms) Unchanged
change_listed (changed.Discarded name) ms = Removed name
change_listed (changed.Globals name places) ms =
    option_map_or (λ (m : Loaded). Globals name (listed (slice_get m.globals) places)) (module_named name ms) Unchanged

-- The delta lists each service, each object and each global that is named, as it is in the state after the request; the
-- module that was loaded, or the name of the one that was discarded; and the numbers of the objects that went.
abbrev pub changes_listed : Changes → HostState → Delta
changes_listed c after = record {
  seq = (after.state).seq;
  last = (after.state).last;
  services = listed (slice_get (after.state).services) c.services;
  change = change_listed c.modules (snapshot_for after).modules;
  gone = c.gone;
  put = listed (λ number. object_at number (snapshot_for after).objects) c.living;
}

-- The bytes are the body of a record of what the names name: a tag, and the one spelling of that delta in version 2.
abbrev pub IsBodyListing : Changes → HostState → List ℕ → Type 0
IsBodyListing c after body = IsDeltaBody body Two (changes_listed c after)

-- The delta of what the names name is appended to bytes, in its one spelling in version 2. It is short, since no more
-- objects are gone than live at most.
pub record AppendsListing (c : Changes) (after : HostState) (old new : List ℕ) : Type 0 where
  pub fits : FitsDelta Two (changes_listed c after)
  pub few : length c.gone ≤ max_objects
  pub appended : new ≡ old ++ delta (changes_listed c after)

-- which names a delta can list

-- the places of globals ascend, and the name of a module that was discarded is one
abbrev pub IsListableChange : changed.ModuleChange → Type 0
IsListableChange (changed.Discarded name) = IsTrue (is_module_name name)
IsListableChange (changed.Globals name places) = IsStrictlyIncreasing places
IsListableChange _ = ⊤

-- Places and numbers ascend, no more objects went than live at most, each by a number that one can have, and none that is
-- named as living.
pub record AreListable (c : Changes) : Type 0 where
  pub services : IsStrictlyIncreasing c.services
  pub modules : IsListableChange c.modules
  pub living : IsStrictlyIncreasing c.living
  pub gone : IsStrictlyIncreasing c.gone
  pub few : length c.gone ≤ max_objects
  pub given : AllByRecursion (λ number. (0 < number) × (number < 2 ^ 64)) c.gone
  pub apart : (number : ℕ) → Contains c.gone number → Contains c.living number → ⊥

-- the laws

-- Where names are all that differs between two states, the delta that lists them leads from one to the other.
abbrev pub ListedChangesLead : Type 0
ListedChangesLead = (c : Changes) (happened : List Event) (before after : HostState)
    → IsAdmitted before → IsAdmitted after → after.registered ≡ before.registered
    → Names c happened before.state after.state
    → Leads (changes_listed c after) (named (snapshot_for before)) (named (snapshot_for after))

-- If the one before has an image in version 2 and that delta has a spelling, the one after has an image in it too.
abbrev pub ListedChangesLeadTo : Type 0
ListedChangesLeadTo = (c : Changes) (happened : List Event) (before after : HostState)
    → IsAdmitted before → IsAdmitted after → after.registered ≡ before.registered
    → Names c happened before.state after.state
    → FitsVersion Two (snapshot_for before)
    → FitsDelta Two (changes_listed c after)
    → LeadsTo Two (changes_listed c after) (snapshot_for before) (snapshot_for after)

-- And its body is that of a record that leads from one to the other, if the one before has an image in version 2.
abbrev pub BodiesLead : Type 0
BodiesLead = (c : Changes) (happened : List Event) (before after : HostState) (body : List ℕ)
    → IsAdmitted before → IsAdmitted after → after.registered ≡ before.registered
    → Names c happened before.state after.state
    → FitsVersion Two (snapshot_for before)
    → IsBodyListing c after body
    → IsDeltaBetween body Two (snapshot_for before) (snapshot_for after)
