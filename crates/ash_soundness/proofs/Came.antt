-- Modules that are loaded and discarded leave a well-formed state.
use Rattle.std.proofs.Common.{◌≡◌, ◌<◌, ℕ, Bool, true, false, not, List, [], ◌∷◌, length, map, find, refl, sym, ap, ◌∙◌, subst, arith}
use Rattle.std.specs.Prelude.{Some, None, Contains, IsSome, Ok}
use Rattle.std.specs.Option.{option_and_then}
use Rattle.std.specs.Str.{bytes_eq}
use Rattle.ash_host.specs.declared.word.Word.{Word}
use Rattle.ash_host.specs.Objects.{LiveObjects, handles}
use Rattle.ash_typed.specs.declared.types.VarType.{VarType}
use Rattle.ash_typed.specs.Modules.{Module}
use Rattle.ash_typed.specs.Signatures.{HostSignatures, types_of_globals}
use Rattle.ash_meaning.specs.Activity.{World}
use Rattle.ash_meaning.specs.Releases.{sweep}
use Rattle.ash_meaning.specs.OperatorMeaning.{zero_of}
use Rattle.ash_meaning.specs.Classes.{Program}
use Rattle.ash_meaning.specs.Ends.{Outcome, load_module, with_globals}
use Rattle.ash_soundness.specs.WellFormed.{Context, IsContext, AreValues, no_values, and_value, AreObjects, IsWorld}
use Rattle.ash_soundness.specs.WellFormedLaws.{OffersNothing, IsBetweenRequests, KnowsAll}
use Rattle.ash_soundness.proofs.Triples.{follows_itself}
use Rattle.ash_soundness.proofs.Integers.{zero_value}
use Rattle.ash_soundness.proofs.Entries.{found_passes, chained}
use Rattle.ash_soundness.proofs.Ends.{loads_keep, loads_come_to_an_end}
use Rattle.ash_soundness.proofs.Modules.{more_modules_keep}
use Rattle.ash_requests.specs.States.{LoadedModule, State, Hosts, Embedding, has_name, find_module, globals_of, with_module, without_module, world_of, state_after}
use Rattle.ash_requests.specs.Steps.{hosts_left, without_globals}
use Rattle.ash_requests.specs.Tasks.{is_module_name, max_modules, max_seq, tree_in, tree_of}
use Rattle.ash_requests.specs.Premises.{ReadsSound}
use Rattle.ash_soundness.specs.WellFormedStates.{AreHosts, HasValidName, known_of, IsLoaded, IsWellFormedState}
use Rattle.ash_soundness.proofs.Named.{rec_of, rec_from, rec_with, from_filter, find_filter, find_with_other, find_with_new, length-filter, length-with, in_with_new, in_with_old, name_says, name_yes, found_name, in_globals, from_globals}
use Rattle.ash_soundness.proofs.Ascending.{ascend_filter, ascend_with}
use Rattle.ash_soundness.proofs.Left.{root_cases, hosts_after, begun, state_well, keeps_loaded, removed}

-- a program that has nothing
abbrev nothing : Program
nothing = record { name = []; tree = record { interfaces = []; classes = []; functions = []; globals = [] } }

zero_values : {p : Program} {all : LiveObjects (List ℕ)} (types : List VarType) → AreValues p all types (map zero_of types)
zero_values [] = no_values
zero_values (t ∷ types) = and_value (zero_value t) (zero_values types)

module _ {Fault : Type 0} (embedding : Embedding Fault) (host : HostSignatures) (s : State) (hosts : Hosts) (h : IsWellFormedState embedding host s) (hs : AreHosts hosts) (left : s.seq < max_seq) where
  -- discarded

  module _ (name : List ℕ) where
    abbrev is_kept : LoadedModule → Bool
    is_kept m = not (has_name name m)

    abbrev others : List LoadedModule
    others = without_module name s.modules

    within : (m : LoadedModule) → Contains others m → Contains s.modules m
    within m i = (from_filter is_kept s.modules m i).0

    kept_with : (x y : LoadedModule) → is_kept x ≡ true → y.name ≡ x.name → is_kept y ≡ true
    kept_with x y kept same = ap (λ (n : List ℕ). not (bytes_eq n name)) same ∙ kept

    knows_others : KnowsAll (known_of embedding others) (known_of embedding s.modules)
    knows_others key tree e =
        let (m, found, is) = chained (tree_of embedding) (find (has_name key) others) tree e in
        let kept = (found_passes (λ (x : LoadedModule). is_kept x ≡ true) (has_name key) others m found (rec_from (λ (x : LoadedModule). is_kept x ≡ true) others (λ x i. (from_filter is_kept s.modules x i).1))).1 in
        let same : m.name ≡ key = found_name key others m found in
        ap (option_and_then (tree_of embedding)) (sym (find_filter (has_name key) is_kept (λ x e. kept_with m x kept (name_says key x e ∙ sym same)) s.modules)) ∙ e

    abbrev discarding : Context
    discarding = record { host = host; program = nothing; modules = known_of embedding s.modules; began = world_of [] others s hosts }

    pub discard_keeps : IsWellFormedState embedding host (state_after others (sweep [] (world_of [] others s hosts)) s) × AreHosts (hosts_left (sweep [] (world_of [] others s hosts)))
    discard_keeps = removed embedding discarding s others (world_of [] others s hosts) h (begun embedding discarding s hosts [] others h hs within h.living no_values) (follows_itself (world_of [] others s hosts)) refl refl refl refl within
        (ascend_filter is_kept s.modules h.ascending)
        (rec_from HasValidName others (λ m i. rec_of HasValidName s.modules h.valid m (within m i)))
        (let few = h.few_modules in omega (arith, length-filter is_kept s.modules))
        knows_others left

  -- loaded

  module _ (sound : ReadsSound host embedding) (name source : List ℕ) (tree : Module) (good : is_module_name name ≡ true) (is : embedding.read source ≡ Ok tree) (free : find_module name s ≡ None) (few : length s.modules < max_modules) where
    abbrev loaded_with : List Word → LoadedModule
    loaded_with globals = record { name = name; source = source; globals = globals }

    abbrev after_with : List Word → List LoadedModule
    after_with globals = with_module (loaded_with globals) s.modules

    abbrev before : World
    before = with_globals tree (world_of [] s.modules s hosts)

    abbrev c : Context
    c = record { host = host; program = record { name = name; tree = tree }; modules = known_of embedding (after_with []); began = before }

    -- what the initializers run in
    abbrev pub loading : Context
    loading = c

    found_new : (globals : List Word) → find (has_name name) (after_with globals) ≡ Some (loaded_with globals)
    found_new globals = find_with_new (has_name name) (loaded_with globals) s.modules (name_yes name (loaded_with globals) refl) free

    known_new : (globals : List Word) → known_of embedding (after_with globals) name ≡ Some tree
    known_new globals = ap (option_and_then (tree_of embedding)) (found_new globals) ∙ ap tree_in is

    -- another name is that of a module that was there
    other_name : (key : List ℕ) (globals : List Word) → has_name key (loaded_with globals) ≡ false → find (has_name key) (after_with globals) ≡ find (has_name key) s.modules
    other_name key globals e = find_with_other (has_name key) (loaded_with globals) s.modules e

    taken_name : (key : List ℕ) → bytes_eq name key ≡ true → find (has_name key) s.modules ≡ None
    taken_name key e = ap (λ (n : List ℕ). find (has_name n) s.modules) (sym (name_says key (loaded_with []) e)) ∙ free

    same_known_from : (key : List ℕ) (one other : List Word) (b : Bool) → bytes_eq name key ≡ b → known_of embedding (after_with one) key ≡ known_of embedding (after_with other) key
    same_known_from key one other true e =
        let level : name ≡ key = name_says key (loaded_with []) e in
        subst (λ (k : List ℕ). known_of embedding (after_with one) k ≡ known_of embedding (after_with other) k) level (known_new one ∙ sym (known_new other))
    same_known_from key one other false e = ap (option_and_then (tree_of embedding)) (other_name key one e ∙ sym (other_name key other e))

    knows_old_from : (key : List ℕ) (t : Module) (b : Bool) → bytes_eq name key ≡ b → known_of embedding s.modules key ≡ Some t → known_of embedding (after_with []) key ≡ Some t
    knows_old_from key t true e at = absurd (let none = ap (option_and_then (tree_of embedding)) (taken_name key e) in cc)
    knows_old_from key t false e at = ap (option_and_then (tree_of embedding)) (other_name key [] e) ∙ at

    knows_old : KnowsAll (known_of embedding s.modules) c.modules
    knows_old key t at = knows_old_from key t (bytes_eq name key) refl at

    context : IsContext c
    context = record { known = known_new []; sound = sound source tree is }

    living_before : AreObjects c.modules s.objects
    living_before = more_modules_keep (known_of embedding s.modules) c.modules s.objects knows_old h.living

    world_before : IsWorld c before
    world_before = begun embedding c s hosts (map zero_of (types_of_globals tree.globals)) s.modules h hs (λ m i. i) living_before (zero_values (types_of_globals tree.globals))

    pub load_settles : (budget : ℕ) (o : Outcome) → load_module c.program budget (world_of [] s.modules s hosts) ≡ Some o → IsBetweenRequests c o.world
    load_settles budget o e = loads_keep context budget (world_of [] s.modules s hosts) o world_before (follows_itself before) e

    pub load_ends : (budget : ℕ) → OffersNothing host → IsSome (load_module c.program budget (world_of [] s.modules s hosts))
    load_ends budget none = loads_come_to_an_end context budget (world_of [] s.modules s hosts) none world_before

    module _ (w : World) (settled : IsBetweenRequests c w) where
      -- one that did not come to its end goes
      unfinished : Context
      unfinished = record { host = host; program = nothing; modules = c.modules; began = before }

      pub unfinished_keeps : IsWellFormedState embedding host (state_after s.modules (without_globals w) s) × AreHosts (hosts_left (without_globals w))
      unfolding unfinished
      unfinished_keeps = removed embedding unfinished s s.modules (record w { globals = [] }) h (record {
        numbered = (settled.world).numbered;
        last = (settled.world).last;
        few = (settled.world).few;
        living = (settled.world).living;
        globals = no_values;
        outside = (settled.world).outside;
        offered = (settled.world).offered;
        states = record { services = ((settled.world).states).services; pool = ((settled.world).states).pool; answers = ((settled.world).states).answers };
      }) (record { last = (settled.since).last; shapes = (settled.since).shapes; outside = (settled.since).outside }) refl refl refl refl (λ m i. i) h.ascending h.valid h.few_modules knows_old left

      -- one that did stays
      pub finished_keeps : IsWellFormedState embedding host (state_after (after_with w.globals) w s) × AreHosts (hosts_left w)
      finished_keeps = (
        state_well embedding c s (after_with w.globals) w settled
            (ascend_with (loaded_with w.globals) s.modules h.ascending free)
            (rec_with HasValidName (loaded_with w.globals) s.modules good (rec_of HasValidName s.modules h.valid))
            (omega (arith, length-with (loaded_with w.globals) s.modules))
            (rec_with (IsLoaded embedding w.objects) (loaded_with w.globals) s.modules (record { tree = tree; is = is; values = (settled.world).globals }) (λ x i. keeps_loaded embedding c s before w s.modules x h refl refl refl settled.since settled.world i (rec_of (IsLoaded embedding s.objects) s.modules h.loaded x i)))
            (more_modules_keep c.modules (known_of embedding (after_with w.globals)) w.objects (λ key t e. same_known_from key w.globals [] (bytes_eq name key) refl ∙ e) (settled.world).living)
            left
            (λ n i. root_cases w n (Contains (handles (globals_of (after_with w.globals))) n)
            (λ one. let (x, at, inside) = from_globals s.modules n (subst (λ (ns : List ℕ). Contains ns n) (settled.since).outside one) in in_globals (after_with w.globals) x n (in_with_old (loaded_with w.globals) s.modules x at) inside)
            (λ other. in_globals (after_with w.globals) (loaded_with w.globals) n (in_with_new (loaded_with w.globals) s.modules) other) i),
        hosts_after settled,
      )
