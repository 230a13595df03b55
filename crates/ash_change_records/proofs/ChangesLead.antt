-- The delta that lists what a request changed leads from the state before it to the state after it.
use Rattle.std.proofs.Common.{◌≡◌, ℕ, List, length, refl, sym, ap, ◌∙◌, subst, zip, slice_get}
use Rattle.std.specs.List.{AllByRecursion}
use Rattle.ash_host.specs.declared.event.Event.{Event}
use Rattle.ash_host.specs.Objects.{Plain, LiveObjects}
use Rattle.ash_registry.specs.AcceptedRegistrations.{Registration}
use Rattle.ash_registry.specs.RegistryText.{text_of}
use Rattle.ash_sources.proofs.SourceLaws.{read_sound}
use Rattle.ash_states.specs.HostStates.{HostState, IsAdmitted, service_kinds, embedding_for, offered_to}
use Rattle.ash_states.specs.Indexes.{snapshot_for, stored_modules_of}
use Rattle.ash_states.proofs.Lists.{all_more}
use Rattle.ash_states.proofs.SnapshotRules.{IsWritten, each_written}
use Rattle.ash_change_laws.specs.ChangedStates.{Changes, Names}
use Rattle.ash_image.specs.Leading.{named, Leads, LeadServices, LeadObjects, objects_named}
use Rattle.ash_change_records.specs.ListedChanges.{listed, changes_listed, ListedChangesLead}
use Rattle.ash_change_records.proofs.ServicesLead.{services_lead}
use Rattle.ash_change_records.proofs.ModulesLead.{modules_lead}
use Rattle.ash_change_records.proofs.ObjectsLead.{ComesBack, indexed, named_back, objects_lead}

-- each object of a state comes back by its module's name
all_back : (s : HostState) → IsAdmitted s → AllByRecursion (λ (e : ℕ × Plain (List ℕ)). ComesBack (s.state).modules e.1) (s.state).objects
all_back s h =
    all_more (IsWritten (s.state).modules) (λ (e : ℕ × Plain (List ℕ)). ComesBack (s.state).modules e.1) (λ e w. (w.place).back) (s.state).objects
    (each_written (embedding_for s.registered) (offered_to s.registered) (read_sound s.registered) s.state h.formed)

objects_back : (s : HostState) → IsAdmitted s → objects_named (stored_modules_of (s.state).modules) (indexed (s.state).modules (s.state).objects) ≡ (s.state).objects
objects_back s h = named_back (s.state).modules (s.state).objects (all_back s h)

pub changes_lead : ListedChangesLead
changes_lead c happened before after was is same h = record {
  registered = ap text_of same;
  seq = refl;
  last = refl;
  services = subst (λ (rs : List Registration). LeadServices (changes_listed c after).services (zip (service_kinds before.registered) (before.state).services) (zip (service_kinds rs) (after.state).services)) (sym same)
      (services_lead (service_kinds before.registered) (before.state).services (after.state).services c.services was.served (is.served ∙ ap (λ (rs : List Registration). length (service_kinds rs)) same) h.services);
  modules = modules_lead c.modules (before.state).modules (after.state).modules (was.formed).ascending (is.formed).ascending h.modules;
  objects = subst (λ (os : LiveObjects (List ℕ)). LeadObjects (changes_listed c after) (snapshot_for after).modules os (named (snapshot_for after)).objects) (sym (objects_back before was))
      (subst (λ (os : LiveObjects (List ℕ)). LeadObjects (changes_listed c after) (snapshot_for after).modules (before.state).objects os) (sym (objects_back after is))
      (objects_lead (after.state).modules (before.state).objects (after.state).objects c.living c.gone (all_back after is) h.objects h.live h.went (changes_listed c after) refl refl));
}
