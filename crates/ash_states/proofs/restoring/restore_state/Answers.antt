use Rattle.std.proofs.Common.{rules, ◌≡◌, ◌↔◌, true, false, List, map, refl, ◌∙◌, ap, subst}
use Rattle.std.specs.Prelude.{option_map}
use Rattle.std.specs.Vec.{vec_items}
use Rattle.ash_registry.specs.AcceptedRegistrations.{Registration}
use Rattle.ash_registry.specs.RegistryViews.{registered}
use Rattle.ash_typed.specs.Signatures.{HostSignatures}
use Rattle.ash_requests.specs.States.{LoadedModule}
use Rattle.ash_plain_steps.specs.declared.state.LoadedModule as code_module
use Rattle.ash_plain_steps.specs.declared.state.PlainState.{PlainState}
use Rattle.ash_plain_steps.specs.StateViews.{modules_seen}
use Rattle.ash_sources.specs.Sources.{embedding_of}
use Rattle.ash_admission.specs.Admission.{Constructs, AreWellTypedObjects}
use Rattle.ash_image.specs.Snapshots.{Snapshot}
use Rattle.ash_image.specs.declared.stored.StoredHost.{StoredHost}
use Rattle.ash_image.specs.SnapshotViews.{services_of, modules_of, objects_of, snapshot_of}
use Rattle.ash_states.specs.HostStates.{service_kinds, embedding_for}
use Rattle.ash_states.specs.Images.{name_at, entry_named, state_of, kinds_in, HasServices}
use Rattle.ash_states.specs.StateRestoring.{ReadsModules}
use Rattle.ash_states.proofs.Restored.{unread, read_consistent, mistyped_read, typed_read, restored}
use Rattle.ash_states.proofs.Typed.{typed_if}
use Rattle.ash_states.proofs.restoring.restore_state.Goals as goal

pub returns-in_default : goal.returns-in_default
returns-in_default c =
    let registrations : List Registration = registered c.args.registry.now in
    let read : ReadsModules (embedding_for registrations) (modules_of c.args.stored.modules.items) (option_map vec_items c.in_ok-modules.field-0) =
    subst (λ (registered : List Registration). ReadsModules (embedding_of registered) (modules_of c.args.stored.modules.items) (option_map vec_items c.in_ok-modules.field-0))
    c.sources_for-sources.ensures.value c.in_ok-modules.ensures.exact in
    let none = rw c.in_default.is at read in
    record { exact = unread registrations (snapshot_of c.args.stored) none }

pub returns-then-not-is_well_typed : goal.returns-then-not-is_well_typed
returns-then-not-is_well_typed c =
    let registrations : List Registration = registered c.args.registry.now in
    let snapshot : Snapshot = snapshot_of c.args.stored in
    let ms : List code_module.LoadedModule = c.in-Some.modules.items in
    let read : ReadsModules (embedding_for registrations) (modules_of c.args.stored.modules.items) (option_map vec_items c.in_ok-modules.field-0) =
    subst (λ (registered : List Registration). ReadsModules (embedding_of registered) (modules_of c.args.stored.modules.items) (option_map vec_items c.in_ok-modules.field-0))
    c.sources_for-sources.ensures.value c.in_ok-modules.ensures.exact in
    let some = rw c.in-Some.is at read in
    let objects : c.in_ok-objects.objects ≡ (state_of snapshot).objects =
    c.in_ok-objects.ensures.named
    ∙ ap (λ (all : List code_module.LoadedModule). map (entry_named (name_at (modules_seen all))) (objects_of c.args.stored.objects.items)) c.deref-2.ensures.value
    ∙ ap (λ (all : List LoadedModule). map (entry_named (name_at all)) (objects_of c.args.stored.objects.items)) some.0 in
    let test = typed_if registrations ms c.in_ok-objects.objects c.deref-3.result.now c.is_well_typed.result
    (read_consistent registrations snapshot c.requires.shaped ms some) (c.deref-3.ensures.value ∙ c.in_ok-kinds.ensures.in_order)
    (subst (λ (all : List code_module.LoadedModule). (host : HostSignatures) → Constructs host c.deref-3.result.now → ((c.is_well_typed.result ≡ true) ↔ AreWellTypedObjects host all c.in_ok-objects.objects)) c.deref-4.ensures.value c.is_well_typed.ensures.exact) in
    let fails : c.is_well_typed.result ≡ false = search rules in
    record {
      exact = mistyped_read registrations snapshot (modules_seen ms) c.in_ok-objects.objects some.0 objects
          (λ typed. let holds : c.is_well_typed.result ≡ true = test.1 typed in cc);
    }

pub returns : goal.returns
returns c =
    let registrations : List Registration = registered c.args.registry.now in
    let snapshot : Snapshot = snapshot_of c.args.stored in
    let ms : List code_module.LoadedModule = c.in-Some.modules.items in
    let read : ReadsModules (embedding_for registrations) (modules_of c.args.stored.modules.items) (option_map vec_items c.in_ok-modules.field-0) =
    subst (λ (registered : List Registration). ReadsModules (embedding_of registered) (modules_of c.args.stored.modules.items) (option_map vec_items c.in_ok-modules.field-0))
    c.sources_for-sources.ensures.value c.in_ok-modules.ensures.exact in
    let some = rw c.in-Some.is at read in
    let objects : c.in_ok-objects.objects ≡ (state_of snapshot).objects =
    c.in_ok-objects.ensures.named
    ∙ ap (λ (all : List code_module.LoadedModule). map (entry_named (name_at (modules_seen all))) (objects_of c.args.stored.objects.items)) c.deref-2.ensures.value
    ∙ ap (λ (all : List LoadedModule). map (entry_named (name_at all)) (objects_of c.args.stored.objects.items)) some.0 in
    let test = typed_if registrations ms c.in_ok-objects.objects c.deref-3.result.now c.is_well_typed.result
    (read_consistent registrations snapshot c.requires.shaped ms some) (c.deref-3.ensures.value ∙ c.in_ok-kinds.ensures.in_order)
    (subst (λ (all : List code_module.LoadedModule). (host : HostSignatures) → Constructs host c.deref-3.result.now → ((c.is_well_typed.result ≡ true) ↔ AreWellTypedObjects host all c.in_ok-objects.objects)) c.deref-4.ensures.value c.is_well_typed.ensures.exact) in
    let holds : c.is_well_typed.result ≡ true = search rules in
    let has : HasServices registrations snapshot =
    subst (λ (services : List StoredHost). kinds_in (services_of services) ≡ service_kinds registrations) c.deref.ensures.value
    ((c.in_ok-has_services.ensures.exact).0 (search rules)) in
    let s : PlainState = record { alloc = c.args.alloc; modules = c.in-Some.modules; objects = c.in_ok-objects.objects; services = c.in_ok-services.services; last = c.args.stored.last; seq = c.args.stored.seq } in
    record {
      exact = restored registrations snapshot c.requires.shaped has s c.in_ok-services.ensures.states some objects refl refl
          (typed_read registrations snapshot (modules_seen ms) c.in_ok-objects.objects some.0 objects (test.0 holds));
    }
