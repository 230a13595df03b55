-- What was stored is restored exactly where a host may be in it.
use Rattle.std.proofs.Common.{◌≡◌, ℕ, List, length, sym, ap, ◌∙◌, subst, arith}
use Rattle.std.specs.Prelude.{Some, None}
use Rattle.std.specs.List.{AllByRecursion}
use Rattle.std.proofs.lemmas.List.{length-map}
use Rattle.ash_host.specs.Objects.{LiveObjects}
use Rattle.ash_registry.specs.AcceptedRegistrations.{Registration}
use Rattle.ash_requests.specs.States.{LoadedModule, State, Embedding}
use Rattle.ash_sources.specs.SourceFaults.{SourceFault}
use Rattle.ash_soundness.specs.WellFormed.{AreObjects, AreOffered}
use Rattle.ash_soundness.specs.WellFormedStates.{known_of, IsLoaded}
use Rattle.ash_plain_steps.specs.declared.state.LoadedModule as code_module
use Rattle.ash_plain_steps.specs.declared.state.PlainState.{PlainState}
use Rattle.ash_plain_steps.specs.StateViews.{state_seen}
use Rattle.ash_plain_steps.specs.Consistency.{AreConsistent}
use Rattle.ash_plain_steps.specs.Consistency as code
use Rattle.ash_image.specs.Snapshots.{Loaded, Snapshot}
use Rattle.ash_image.specs.Rules.{IsShaped}
use Rattle.ash_states.specs.HostStates.{HostState, IsAdmitted, embedding_for, offered_to}
use Rattle.ash_states.specs.Images.{loaded_of, loaded_modules_of, state_of, HasServices, IsImageRefused}
use Rattle.ash_states.specs.Holding.{held_with}
use Rattle.ash_states.specs.StateRestoring.{HasTree, ReadsModules, RestoresHostState}
use Rattle.ash_states.proofs.Lists.{all_more, all_unmap}
use Rattle.ash_states.proofs.Names.{ascend_of, code_ascend}
use Rattle.ash_states.proofs.Formed.{formed}

-- states of which all is the same are one
pub state_same : (a b : State) → a.modules ≡ b.modules → a.objects ≡ b.objects → a.services ≡ b.services → a.last ≡ b.last → a.seq ≡ b.seq → a ≡ b
state_same a b modules objects services last seq =
    ap (λ (x : List LoadedModule). let t : State = record { modules = x; objects = a.objects; services = a.services; last = a.last; seq = a.seq } in t) modules
    ∙ ap (λ (x : LiveObjects (List ℕ)). let t : State = record { modules = b.modules; objects = x; services = a.services; last = a.last; seq = a.seq } in t) objects
    ∙ ap (λ (x : List (List ℕ)). let t : State = record { modules = b.modules; objects = b.objects; services = x; last = a.last; seq = a.seq } in t) services
    ∙ ap (λ (x : ℕ). let t : State = record { modules = b.modules; objects = b.objects; services = b.services; last = x; seq = a.seq } in t) last
    ∙ ap (λ (x : ℕ). let t : State = record { modules = b.modules; objects = b.objects; services = b.services; last = b.last; seq = x } in t) seq

-- what is stored is of the types that the sources say
abbrev pub Typed : List Registration → List LoadedModule → LiveObjects (List ℕ) → Type 0
Typed registered ms objects = AllByRecursion (IsLoaded (embedding_for registered) objects) ms × AreObjects (known_of (embedding_for registered) ms) objects × AreOffered (offered_to registered) objects

module _ (registered : List Registration) (snapshot : Snapshot) where
  abbrev embedding : Embedding SourceFault
  embedding = embedding_for registered

  -- a state that is no host's

  admitted_at : (s : HostState) → s.registered ≡ registered → state_of snapshot ≡ s.state → IsAdmitted s → IsAdmitted (record { registered = registered; state = state_of snapshot })
  admitted_at s at is h =
      subst (λ (r : List Registration). IsAdmitted (record { registered = r; state = state_of snapshot })) at
      (subst (λ (t : State). IsAdmitted (record { registered = s.registered; state = t })) (sym is) h)

  has_tree : (objects : LiveObjects (List ℕ)) (m : Loaded) → IsLoaded embedding objects (loaded_of m) → HasTree embedding m
  has_tree objects m l = (l.tree, l.is)

  -- the services are not of the kinds that are registered
  pub misserved : (HasServices registered snapshot → ⊥) → IsImageRefused registered snapshot
  misserved not s at is has h = not has

  -- a source has no typed tree
  pub unread : ReadsModules embedding snapshot.modules None → IsImageRefused registered snapshot
  unread not s at is has h =
      let there = admitted_at s at is h in
      not (all_more (λ (m : Loaded). IsLoaded embedding (state_of snapshot).objects (loaded_of m)) (HasTree embedding) (has_tree (state_of snapshot).objects) snapshot.modules
      (all_unmap loaded_of (IsLoaded embedding (state_of snapshot).objects) snapshot.modules ((there.formed).loaded)))

  -- something that is stored is not of its type
  pub mistyped : (Typed registered (state_of snapshot).modules (state_of snapshot).objects → ⊥) → IsImageRefused registered snapshot
  mistyped not s at is has h =
      let there = admitted_at s at is h in
      not ((there.formed).loaded, (there.formed).living, (there.formed).offered)

  -- a state that is one of a host's

  -- the modules that are read ascend as those that were stored
  pub read_consistent : IsShaped snapshot → (ms : List code_module.LoadedModule) → ReadsModules embedding snapshot.modules (Some ms) → AreConsistent embedding ms
  read_consistent (version, fits, keeps) ms read = record {
    ascending = subst (λ (all : List LoadedModule). code.ModulesAscend all) (sym read.0) (code_ascend (loaded_modules_of snapshot.modules) (ascend_of snapshot.modules (fits.modules).order));
    read = read.1;
  }

  -- what is not of its type as it is read is not so as it was stored
  pub mistyped_read : (ms : List LoadedModule) (objects : LiveObjects (List ℕ)) → ms ≡ (state_of snapshot).modules → objects ≡ (state_of snapshot).objects → (Typed registered ms objects → ⊥) → IsImageRefused registered snapshot
  mistyped_read ms objects same_modules same_objects not =
      mistyped (λ typed. not (subst (λ (all : List LoadedModule). Typed registered all objects) (sym same_modules) (subst (Typed registered (state_of snapshot).modules) (sym same_objects) typed)))

  -- and what is of its type as it is read
  pub typed_read : (ms : List LoadedModule) (objects : LiveObjects (List ℕ)) → ms ≡ (state_of snapshot).modules → objects ≡ (state_of snapshot).objects → Typed registered ms objects → Typed registered (state_of snapshot).modules (state_of snapshot).objects
  typed_read ms objects same_modules same_objects typed =
      subst (λ (all : List LoadedModule). Typed registered all (state_of snapshot).objects) same_modules (subst (Typed registered ms) same_objects typed)

  pub restored : IsShaped snapshot → HasServices registered snapshot → (s : PlainState) → (state_seen s).services ≡ (state_of snapshot).services → ReadsModules embedding snapshot.modules (Some s.modules.items) → s.objects ≡ (state_of snapshot).objects → s.last ≡ snapshot.last → s.seq ≡ snapshot.seq → Typed registered (state_of snapshot).modules (state_of snapshot).objects → RestoresHostState registered snapshot (Some s)
  restored (version, fits, keeps) has s services read objects last seq typed =
      (same, has, record { admitted = admitted; consistent = read_consistent (version, fits, keeps) s.modules.items read })
    where
      many : length (state_of snapshot).services ≡ length snapshot.services
      many = length-map snapshot.services (λ (service : ℕ × List ℕ). service.1)

      same : state_seen s ≡ state_of snapshot
      same = state_same (state_seen s) (state_of snapshot) read.0 objects services last seq

      well : IsAdmitted (record { registered = registered; state = state_of snapshot })
      well = record {
        formed = formed embedding (offered_to registered) version snapshot fits keeps typed.0 typed.1 typed.2;
        served = many ∙ sym (length-map snapshot.services (λ (service : ℕ × List ℕ). service.0)) ∙ ap (length {A = ℕ}) has;
        few = omega (arith, many, (fits.services).few);
      }

      admitted : IsAdmitted (held_with registered s)
      admitted = subst (λ (t : State). IsAdmitted (record { registered = registered; state = t })) (sym same) well
