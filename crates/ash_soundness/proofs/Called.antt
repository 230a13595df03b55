-- A call leaves a well-formed state.
use Rattle.std.proofs.Common.{◌≡◌, ◌<◌, ℕ, Bool, true, false, not, List, map, find, slice_get, refl, sym, ap, ◌∙◌, subst, if◌then◌else◌, arith}
use Rattle.std.specs.Prelude.{Option, Some, None, Contains, IsSome, Result, Ok, option_map}
use Rattle.std.specs.Option.{option_and_then}
use Rattle.std.specs.Str.{bytes_eq}
use Rattle.std.proofs.lemmas.List.{length-map}
use Rattle.std.proofs.lemmas.Option.{same_Some}
use Rattle.ash_host.specs.declared.word.Word.{Word}
use Rattle.ash_host.specs.Objects.{handles}
use Rattle.ash_typed.specs.Modules.{Function, Module}
use Rattle.ash_typed.specs.Signatures.{HostSignatures, types_of_globals}
use Rattle.ash_meaning.specs.Activity.{World}
use Rattle.ash_meaning.specs.Ends.{Outcome, call_function}
use Rattle.ash_soundness.specs.WellFormed.{Context, IsContext, AreValues, IsWorld}
use Rattle.ash_soundness.specs.WellFormedLaws.{OffersNothing, IsBetweenRequests}
use Rattle.ash_soundness.proofs.Triples.{follows_itself}
use Rattle.ash_soundness.proofs.Calls.{contains_map}
use Rattle.ash_soundness.proofs.Entries.{found_in}
use Rattle.ash_soundness.proofs.Ends.{runs_keep, calls_come_to_an_end}
use Rattle.ash_soundness.proofs.Modules.{more_modules_keep}
use Rattle.ash_requests.specs.States.{LoadedModule, State, Hosts, Embedding, has_name, find_module, globals_of, without_module, update_globals, world_of, state_after}
use Rattle.ash_requests.specs.Steps.{hosts_left}
use Rattle.ash_requests.specs.Tasks.{is_module_name, max_seq, tree_in, tree_of}
use Rattle.ash_requests.specs.Premises.{ReadsSound}
use Rattle.ash_soundness.specs.WellFormedStates.{AreHosts, HasValidName, known_of, IsLoaded, IsWellFormedState}
use Rattle.ash_soundness.proofs.Named.{rec_of, rec_map, in_filter, from_filter, find_map, name_says, name_yes, in_globals, from_globals}
use Rattle.ash_soundness.proofs.Ascending.{found_by_name, ascend_map}
use Rattle.ash_soundness.proofs.Left.{root_cases, hosts_after, begun, state_well, keeps_loaded, known_some}

-- a module with other globals where it has the name
abbrev pub changed : List ℕ → List Word → LoadedModule → LoadedModule
changed name globals m = if has_name name m then record m { globals = globals } else m

module _ (name : List ℕ) (globals : List Word) where
  same_name_from : (m : LoadedModule) (b : Bool) → (if b then record m { globals = globals } else m).name ≡ m.name
  same_name_from m true = refl
  same_name_from m false = refl

  same_name : (m : LoadedModule) → (changed name globals m).name ≡ m.name
  same_name m = same_name_from m (has_name name m)

  same_source_from : (m : LoadedModule) (b : Bool) → (if b then record m { globals = globals } else m).source ≡ m.source
  same_source_from m true = refl
  same_source_from m false = refl

  same_source : (m : LoadedModule) → (changed name globals m).source ≡ m.source
  same_source m = same_source_from m (has_name name m)

  changed_where : (m : LoadedModule) → has_name name m ≡ true → changed name globals m ≡ record m { globals = globals }
  changed_where m e = ap (λ (b : Bool). if b then record m { globals = globals } else m) e

  unchanged_where : (m : LoadedModule) → has_name name m ≡ false → changed name globals m ≡ m
  unchanged_where m e = ap (λ (b : Bool). if b then record m { globals = globals } else m) e

  still_named : (key : List ℕ) (m : LoadedModule) → has_name key (changed name globals m) ≡ has_name key m
  still_named key m = ap (λ (n : List ℕ). bytes_eq n key) (same_name m)

  module _ {Fault : Type 0} (embedding : Embedding Fault) where
    tree_same : (o : Option LoadedModule) → option_and_then (tree_of embedding) (option_map (changed name globals) o) ≡ option_and_then (tree_of embedding) o
    tree_same None = refl
    tree_same (Some m) = ap (λ (s : List ℕ). tree_in (embedding.read s)) (same_source m)

    known_same : (ms : List LoadedModule) (key : List ℕ) → known_of embedding (map (changed name globals) ms) key ≡ known_of embedding ms key
    known_same ms key = ap (option_and_then (tree_of embedding)) (find_map (has_name key) (changed name globals) (still_named key) ms) ∙ tree_same (find (has_name key) ms)

not_false : (b : Bool) → b ≡ false → not b ≡ true
not_false true e = absurd (cc)
not_false false e = refl

false_of : (b : Bool) → not b ≡ true → b ≡ false
false_of true e = absurd (cc)
false_of false e = refl

module _ {Fault : Type 0} (embedding : Embedding Fault) (host : HostSignatures) (sound : ReadsSound host embedding) (s : State) (hosts : Hosts) (h : IsWellFormedState embedding host s) (hs : AreHosts hosts) (m : LoadedModule) (tree : Module) (found : find_module m.name s ≡ Some m) (is : embedding.read m.source ≡ Ok tree) where
  abbrev others : List LoadedModule
  others = without_module m.name s.modules

  abbrev before : World
  before = world_of m.globals others s hosts

  abbrev c : Context
  c = record { host = host; program = record { name = m.name; tree = tree }; modules = known_of embedding s.modules; began = before }

  context : IsContext c
  context = record { known = known_some embedding s.modules m tree found is; sound = sound m.source tree is }

  is_loaded : Contains s.modules m
  is_loaded = found_in (has_name m.name) s.modules m found

  own_values : AreValues c.program s.objects (types_of_globals tree.globals) m.globals
  own_values =
      let l = rec_of (IsLoaded embedding s.objects) s.modules h.loaded m is_loaded in
      let same : l.tree ≡ tree = same_tree l.tree tree (sym l.is ∙ is) in
      subst (λ (t : Module). AreValues (record { name = m.name; tree = t }) s.objects (types_of_globals t.globals) m.globals) same l.values
    where
      same_tree : (one other : Module) → ◌≡◌ {A = Result Module Fault} (Ok one) (Ok other) → one ≡ other
      same_tree one other e = cc

  pub world_before : IsWorld c before
  world_before = begun embedding c s hosts m.globals others h hs (λ x i. (from_filter (λ (y : LoadedModule). not (has_name m.name y)) s.modules x i).0) h.living own_values

  -- the only module of its name
  only : (x : LoadedModule) → Contains s.modules x → has_name m.name x ≡ true → x ≡ m
  only x i e =
      let named = found_by_name s.modules h.ascending x i in
      same_Some x m (sym named ∙ ap (λ (n : List ℕ). find (has_name n) s.modules) (name_says m.name x e) ∙ found)

  module _ (left : s.seq < max_seq) (w : World) (settled : IsBetweenRequests c w) where
    abbrev f : LoadedModule → LoadedModule
    f = changed m.name w.globals

    loaded_from : (x : LoadedModule) → Contains s.modules x → (b : Bool) → has_name m.name x ≡ b → IsLoaded embedding w.objects (f x)
    loaded_from x i true e =
        let one : x ≡ m = only x i e in
        subst (IsLoaded embedding w.objects) (sym (changed_where m.name w.globals x e)) (subst (λ (y : LoadedModule). IsLoaded embedding w.objects (record y { globals = w.globals })) (sym one) (record { tree = tree; is = is; values = (settled.world).globals }))
    loaded_from x i false e =
        subst (IsLoaded embedding w.objects) (sym (unchanged_where m.name w.globals x e))
        (keeps_loaded embedding c s before w others x h refl refl refl settled.since settled.world (in_filter (λ (y : LoadedModule). not (has_name m.name y)) s.modules x i (not_false (has_name m.name x) e)) (rec_of (IsLoaded embedding s.objects) s.modules h.loaded x i))

    from_outside : (n : ℕ) → Contains (handles (globals_of others)) n → Contains (handles (globals_of (map f s.modules))) n
    from_outside n i =
        let (x, at, inside) = from_globals others n i in
        let (there, kept) = from_filter (λ (y : LoadedModule). not (has_name m.name y)) s.modules x at in
        let same : f x ≡ x = unchanged_where m.name w.globals x (false_of (has_name m.name x) kept) in
        in_globals (map f s.modules) (f x) n (contains_map f s.modules x there) (subst (λ (y : LoadedModule). Contains (handles y.globals) n) (sym same) inside)

    from_own : (n : ℕ) → Contains (handles w.globals) n → Contains (handles (globals_of (map f s.modules))) n
    from_own n i =
        let same : f m ≡ record m { globals = w.globals } = changed_where m.name w.globals m (name_yes m.name m refl) in
        in_globals (map f s.modules) (f m) n (contains_map f s.modules m is_loaded) (subst (λ (y : LoadedModule). Contains (handles y.globals) n) (sym same) i)

    pub called_well : IsWellFormedState embedding host (state_after (update_globals m.name w.globals s.modules) w s)
    called_well = state_well embedding c s (map f s.modules) w settled
        (ascend_map f (same_name m.name w.globals) s.modules h.ascending)
        (rec_map HasValidName f s.modules (λ x i. ap is_module_name (same_name m.name w.globals x) ∙ rec_of HasValidName s.modules h.valid x i))
        (let few = h.few_modules in omega (arith, length-map s.modules f))
        (rec_map (IsLoaded embedding w.objects) f s.modules (λ x i. loaded_from x i (has_name m.name x) refl))
        (more_modules_keep (known_of embedding s.modules) (known_of embedding (map f s.modules)) w.objects (λ key t e. known_same m.name w.globals embedding s.modules key ∙ e) (settled.world).living)
        left
        (λ n i. root_cases w n (Contains (handles (globals_of (map f s.modules))) n) (λ one. from_outside n (subst (λ (ns : List ℕ). Contains ns n) (settled.since).outside one)) (from_own n) i)

  pub call_keeps : (place : ℕ) (g : Function) (args : List Word) (budget : ℕ) (o : Outcome) → s.seq < max_seq → slice_get tree.functions place ≡ Some g → AreValues c.program s.objects g.parameters args → call_function c.program place args budget before ≡ Some o → IsWellFormedState embedding host (state_after (update_globals m.name (o.world).globals s.modules) o.world s) × AreHosts (hosts_left o.world)
  call_keeps place g args budget o left at values e =
      let settled = (runs_keep context place g args budget before o at world_before (follows_itself before) values e).0 in
      (called_well left o.world settled, hosts_after settled)

  pub call_ends : (place : ℕ) (g : Function) (args : List Word) (budget : ℕ) → OffersNothing host → slice_get tree.functions place ≡ Some g → AreValues c.program s.objects g.parameters args → IsSome (call_function c.program place args budget before)
  call_ends place g args budget none at values = calls_come_to_an_end context place g args budget before none at world_before values
