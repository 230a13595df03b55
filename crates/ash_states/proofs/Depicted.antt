-- Each state that a host may be in has an image.
use Rattle.std.proofs.Common.{◌≡◌, ◌<◌, ◌≤◌, ◌^◌, ℕ, List, [], ◌∷◌, map, refl, sym, ap, ◌∙◌, subst, arith}
use Rattle.std.specs.Prelude.{Ok, length}
use Rattle.std.specs.List.{AllByRecursion}
use Rattle.std.specs.Str.{IsUtf8}
use Rattle.ash_host.specs.Objects.{LiveObjects, Bools, Ints, Uints, Int64s, Uint64s, Handles, Hosts, Plain, Script, Array, Host}
use Rattle.ash_registry.specs.RegistryText.{text_of}
use Rattle.ash_typed.specs.Modules.{Module}
use Rattle.ash_sources.proofs.SourceLaws.{read_sound}
use Rattle.ash_sources.proofs.TypedSourceLaws.{typed_rules}
use Rattle.ash_image.specs.declared.version.Version.TheVariants.{Two}
use Rattle.ash_image.specs.declared.parts.HostParts.{HostParts}
use Rattle.ash_image.specs.declared.parts.ModuleParts.{ModuleParts}
use Rattle.ash_image.specs.declared.parts.ObjectParts.{ObjectParts}
use Rattle.ash_image.specs.Snapshots.{Loaded, Snapshot}
use Rattle.ash_image.specs.SnapshotViews.{services_in, modules_in, object_in, objects_in}
use Rattle.ash_image.specs.ObjectBytes.{FitsHost}
use Rattle.ash_image.specs.Image.{FitsVersion, FitsText, image_of}
use Rattle.ash_soundness.specs.WellFormed.{IsState}
use Rattle.ash_states.specs.HostStates.{HostState, IsAdmitted, service_kinds, embedding_for, offered_to}
use Rattle.ash_states.specs.Images.{IsDepicted, IsImageIn}
use Rattle.ash_states.specs.Indexes.{index_in, plain_indexed, entry_indexed, snapshot_for, IsPlainIndexed, HasKind, HaveKinds, HaveServiceKinds, HaveImages}
use Rattle.ash_states.specs.Writing.{AreWrittenIn}
use Rattle.ash_states.proofs.Lists.{all_more, all_map, zip_firsts, zip_all, zip_short}
use Rattle.ash_states.proofs.Fitting.{modules_fit, objects_fit}
use Rattle.ash_states.proofs.SnapshotRules.{IsWritten, each_written, rules, same_state}

module _ (s : HostState) (h : IsAdmitted s) where
  short : (source : List ℕ) (tree : Module) → (embedding_for s.registered).read source ≡ Ok tree → length source ≤ 65536
  short source tree read = ((typed_rules s.registered source tree read).lexed.0).short

  pub snapshot_fits : FitsText (text_of s.registered) → HaveServiceKinds (service_kinds s.registered) → HaveKinds (snapshot_for s).objects → FitsVersion Two (snapshot_for s)
  snapshot_fits text services kinds = record {
    text = text;
    seq = omega (arith, (h.formed).seq);
    last = omega (arith, (h.formed).last);
    services = record {
      few = omega (arith, zip_short (service_kinds s.registered) (s.state).services, h.few);
      each = zip_all (λ (kind : ℕ). kind < 2 ^ 16) IsState (λ (e : ℕ × List ℕ). FitsHost e.0 e.1) (λ kind state fits short. record { kind_fits = fits; short = short }) (service_kinds s.registered) (s.state).services services (h.formed).services;
    };
    modules = modules_fit (embedding_for s.registered) (offered_to s.registered) (read_sound s.registered) short s.state h.formed;
    objects = objects_fit (embedding_for s.registered) (offered_to s.registered) (read_sound s.registered) short s.state h.formed kinds;
  }

  pub depicted : IsDepicted (snapshot_for s) s
  depicted = record {
    text_is = refl;
    services_are = zip_firsts (service_kinds s.registered) (s.state).services h.served;
    state_is = same_state (embedding_for s.registered) (offered_to s.registered) (read_sound s.registered) s.state h.formed s.registered h.served;
    admitted = h;
  }

  -- what spells the snapshot is the image of the state
  pub image_is : (bytes : List ℕ) → FitsVersion Two (snapshot_for s) → bytes ≡ image_of (snapshot_for s) → IsImageIn Two bytes s
  image_is bytes fits is =
      (snapshot_for s, ((fits, is), rules (embedding_for s.registered) (offered_to s.registered) (read_sound s.registered) s.state h.formed s.registered), depicted)

-- the kinds of the snapshot are those of the state

kind_indexed : (index : List ℕ → ℕ) (o : Plain (List ℕ)) → HasKind o → HasKind (plain_indexed index o)
kind_indexed index (Script owner place fields) k = tt
kind_indexed index (Array Bools elements) k = tt
kind_indexed index (Array Ints elements) k = tt
kind_indexed index (Array Uints elements) k = tt
kind_indexed index (Array Int64s elements) k = tt
kind_indexed index (Array Uint64s elements) k = tt
kind_indexed index (Array (Handles owner place) elements) k = tt
kind_indexed index (Array (Hosts kind) elements) k = k
kind_indexed index (Host kind state) k = k

kinds_indexed : (index : List ℕ → ℕ) (os : LiveObjects (List ℕ)) → HaveKinds os → HaveKinds (map (entry_indexed index) os)
kinds_indexed index [] ks = tt
kinds_indexed index (e ∷ os) ks = (kind_indexed index e.1 ks.0, kinds_indexed index os ks.1)

pub has_image : HaveImages
has_image s h text services kinds =
    (image_of (snapshot_for s), image_is s h (image_of (snapshot_for s)) (snapshot_fits s h text services (kinds_indexed (index_in (s.state).modules) (s.state).objects kinds)) refl)

-- what the code lists and writes

snapshot_same : (a b : Snapshot) → a.registered ≡ b.registered → a.seq ≡ b.seq → a.last ≡ b.last → a.services ≡ b.services → a.modules ≡ b.modules → a.objects ≡ b.objects → a ≡ b
snapshot_same a b registered seq last services modules objects =
    ap (λ (x : List ℕ). let t : Snapshot = record { registered = x; seq = a.seq; last = a.last; services = a.services; modules = a.modules; objects = a.objects } in t) registered
    ∙ ap (λ (x : ℕ). let t : Snapshot = record { registered = b.registered; seq = x; last = a.last; services = a.services; modules = a.modules; objects = a.objects } in t) seq
    ∙ ap (λ (x : ℕ). let t : Snapshot = record { registered = b.registered; seq = b.seq; last = x; services = a.services; modules = a.modules; objects = a.objects } in t) last
    ∙ ap (λ (x : List (ℕ × List ℕ)). let t : Snapshot = record { registered = b.registered; seq = b.seq; last = b.last; services = x; modules = a.modules; objects = a.objects } in t) services
    ∙ ap (λ (x : List Loaded). let t : Snapshot = record { registered = b.registered; seq = b.seq; last = b.last; services = b.services; modules = x; objects = a.objects } in t) modules
    ∙ ap (λ (x : LiveObjects ℕ). let t : Snapshot = record { registered = b.registered; seq = b.seq; last = b.last; services = b.services; modules = b.modules; objects = x } in t) objects

pub all_indexed : (s : HostState) → IsAdmitted s → AllByRecursion (λ (e : ℕ × Plain (List ℕ)). IsPlainIndexed (s.state).modules e.1) (s.state).objects
all_indexed s h =
    all_more (IsWritten (s.state).modules) (λ (e : ℕ × Plain (List ℕ)). IsPlainIndexed (s.state).modules e.1) (λ e w. (w.place).indexed) (s.state).objects
    (each_written (embedding_for s.registered) (offered_to s.registered) (read_sound s.registered) s.state h.formed)

-- a snapshot of the parts that the code lists
abbrev pub listed_snapshot : HostState → List ℕ → List HostParts → List ModuleParts → List ObjectParts → Snapshot
listed_snapshot s text services modules objects = record { registered = text; seq = (s.state).seq; last = (s.state).last; services = services_in services; modules = modules_in modules; objects = objects_in objects }

-- has a spelling, where the text of what is registered has one
pub parts_fit : (s : HostState) → IsAdmitted s → (services : List HostParts) (modules : List ModuleParts) (objects : List ObjectParts) → AreWrittenIn s services modules objects → (text : List ℕ) → text ≡ text_of s.registered → IsUtf8 text → length text ≤ 1048576 → FitsVersion Two (listed_snapshot s text services modules objects)
parts_fit s h services modules objects listed text is utf8 short_text =
    subst (FitsVersion Two) (sym same) (snapshot_fits s h (subst FitsText is (record { utf8 = utf8; short = short_text })) listed.service_kinds kinds)
  where
    same : listed_snapshot s text services modules objects ≡ snapshot_for s
    same = snapshot_same (listed_snapshot s text services modules objects) (snapshot_for s) is refl refl listed.same_services listed.same_modules listed.same_objects

    kinds : HaveKinds (snapshot_for s).objects
    kinds = subst (λ (os : LiveObjects ℕ). HaveKinds os) listed.same_objects (all_map object_in (λ (e : ℕ × Plain ℕ). HasKind e.1) objects listed.kinds)

-- what is written of the parts is the image of the state
pub image_by_parts : (s : HostState) → IsAdmitted s → (snapshot : Snapshot) → snapshot ≡ snapshot_for s → FitsVersion Two snapshot → (bytes : List ℕ) → bytes ≡ image_of snapshot → IsImageIn Two bytes s
image_by_parts s h snapshot same fits bytes is = image_is s h bytes (subst (FitsVersion Two) same fits) (is ∙ ap image_of same)
