-- What the code tests is whether what is stored is of the types that the sources say.
use Rattle.std.proofs.Common.{◌≡◌, ◌↔◌, ℕ, Bool, true, List, sym, subst}
use Rattle.std.specs.Prelude.{filter_map}
use Rattle.ash_host.specs.Objects.{LiveObjects}
use Rattle.ash_registry.specs.AcceptedRegistrations.{Registration}
use Rattle.ash_typed.specs.Signatures.{HostSignatures}
use Rattle.ash_registrations.specs.Registrations.{constructed_kind}
use Rattle.ash_states.proofs.OfferedKinds.{kinds_offered}
use Rattle.ash_plain_steps.specs.declared.state.LoadedModule as code_module
use Rattle.ash_plain_steps.specs.StateViews.{modules_seen}
use Rattle.ash_plain_steps.specs.Consistency.{AreConsistent}
use Rattle.ash_admission.specs.Admission.{Constructs, AreWellTypedObjects}
use Rattle.ash_admission.proofs.AdmissionLaws.{as_read}
use Rattle.ash_states.specs.HostStates.{embedding_for, offered_to}
use Rattle.ash_states.proofs.Restored.{Typed}

-- the test of the code, where the trees are those of the sources
pub typed_if : (registered : List Registration) (ms : List code_module.LoadedModule) (objects : LiveObjects (List ℕ)) (kinds : List ℕ) (b : Bool) → AreConsistent (embedding_for registered) ms
    → kinds ≡ filter_map (constructed_kind registered) registered
    → ((host : HostSignatures) → Constructs host kinds → ((b ≡ true) ↔ AreWellTypedObjects host ms objects))
    → (b ≡ true) ↔ Typed registered (modules_seen ms) objects
typed_if registered ms objects kinds b consistent are exact =
    let test = exact (offered_to registered)
    (subst (λ (ks : List ℕ). Constructs (offered_to registered) ks) (sym are) (kinds_offered registered)) in
    let same = as_read (embedding_for registered) objects (offered_to registered) ms consistent in
    (λ h. same.0 (test.0 h), λ t. test.1 (same.1 t))
