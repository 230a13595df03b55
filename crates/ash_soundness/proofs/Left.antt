-- What a run leaves of a state.
use Rattle.std.proofs.Common.{◌≡◌, ◌<◌, ◌≤◌, ℕ, List, [], ◌++◌, length, find, refl, sym, ap, ◌∙◌, subst, inl, inr, arith}
use Rattle.std.specs.Prelude.{Option, Some, None, IsSome, Contains, Ok}
use Rattle.std.specs.List.{AllByRecursion}
use Rattle.std.specs.Option.{option_and_then}
use Rattle.std.proofs.lemmas.List.Elements.{Contains-append_cases}
use Rattle.ash_host.specs.Objects.{LiveObjects, handles}
use Rattle.ash_host.proofs.SweepLaws.{reachable_along}
use Rattle.ash_typed.specs.Modules.{Module}
use Rattle.ash_typed.specs.Signatures.{HostSignatures, types_of_globals}
use Rattle.ash_meaning.specs.Activity.{World}
use Rattle.ash_meaning.specs.Releases.{roots, sweep}
use Rattle.ash_meaning.specs.Classes.{Program}
use Rattle.ash_soundness.specs.WellFormed.{Context, Shape, shape_at, AreValues, AllLive, AreObjects, Follows, IsWorld}
use Rattle.ash_soundness.specs.WellFormedLaws.{IsBetweenRequests, KnowsAll, IsKnownShape}
use Rattle.ash_soundness.proofs.Values.{none_in, values_live}
use Rattle.ash_soundness.proofs.Ends.{settled}
use Rattle.ash_soundness.proofs.Modules.{fewer_modules_keep, values_are_of_their_module, values_keep_their_types}
use Rattle.ash_requests.specs.States.{LoadedModule, State, Hosts, Embedding, has_name, globals_of, world_of, state_after}
use Rattle.ash_requests.specs.Steps.{hosts_left}
use Rattle.ash_requests.specs.Tasks.{max_modules, max_seq, tree_in, tree_of}
use Rattle.ash_soundness.specs.WellFormedStates.{AreHosts, Ascend, HasValidName, known_of, IsLoaded, IsWellFormedState}
use Rattle.ash_soundness.proofs.Named.{rec_of, rec_from, in_globals, from_globals}
use Rattle.ash_soundness.proofs.Ascending.{found_by_name}

-- what a world of no frames reaches from
pub root_cases : (w : World) (n : ℕ) (P : Type 0) → (Contains w.outside n → P) → (Contains (handles w.globals) n → P) → Contains (roots [] w) n → P
root_cases w n P outside globals i =
    elim (Contains-append_cases (w.outside ++ handles w.globals) [] n i) [
      | inl both ↦ elim (Contains-append_cases w.outside (handles w.globals) n both) [ inl one ↦ outside one | inr other ↦ globals other ]
      | inr none ↦ absurd (none_in n none)
    ]

-- a release point leaves globals as they are
swept_none : (w : World) → w.globals ≡ [] → (sweep [] w).globals ≡ []
unfolding sweep
swept_none w none = none

hosts_kept : {c : Context} {w : World} → IsWorld c w → AreHosts (hosts_left w)
hosts_kept h = record { pool = (h.states).pool; answers = (h.states).answers }

pub hosts_after : {c : Context} {w : World} → IsBetweenRequests c w → AreHosts (hosts_left w)
hosts_after s = hosts_kept s.world

module _ {Fault : Type 0} (embedding : Embedding Fault) where
  -- what the globals of modules refer to lives
  pub globals_live : {host : HostSignatures} (s : State) → IsWellFormedState embedding host s → (ms : List LoadedModule) → ((m : LoadedModule) → Contains ms m → Contains s.modules m) → AllLive s.objects (handles (globals_of ms))
  globals_live s h ms within = record {
    each = λ n i.
        let (m, at, inside) = from_globals ms n i in
        values_live n (rec_of (IsLoaded embedding s.objects) s.modules h.loaded m (within m at)).values inside;
  }

  -- the world in which a run begins
  pub begun : (c : Context) (s : State) (hosts : Hosts) (globals : List _) (ms : List LoadedModule) → IsWellFormedState embedding c.host s → AreHosts hosts → ((m : LoadedModule) → Contains ms m → Contains s.modules m) → AreObjects c.modules s.objects → AreValues c.program s.objects (types_of_globals ((c.program).tree).globals) globals → IsWorld c (world_of globals ms s hosts)
  begun c s hosts globals ms h hs within living values = record {
    numbered = h.numbered;
    last = h.last;
    few = h.few;
    living = living;
    globals = values;
    outside = globals_live s h ms within;
    offered = h.offered;
    states = record { services = h.services; pool = hs.pool; answers = hs.answers };
  }

  -- the state that a run leaves
  pub state_well : (c : Context) (s : State) (ms : List LoadedModule) (w : World) → IsBetweenRequests c w → Ascend ms → AllByRecursion HasValidName ms → length ms ≤ max_modules → AllByRecursion (IsLoaded embedding w.objects) ms → AreObjects (known_of embedding ms) w.objects → s.seq < max_seq → ((n : ℕ) → Contains (roots [] w) n → Contains (handles (globals_of ms)) n) → IsWellFormedState embedding c.host (state_after ms w s)
  state_well c s ms w settled ascending valid few loaded living left roots_in = record {
    ascending = ascending;
    valid = valid;
    few_modules = few;
    loaded = loaded;
    numbered = (settled.world).numbered;
    last = (settled.world).last;
    few = (settled.world).few;
    living = living;
    offered = (settled.world).offered;
    services = ((settled.world).states).services;
    seq = omega arith;
    reached = λ n lives. reachable_along roots_in (λ m k r. r) n (settled.reached n lives);
  }

  -- a module that does not run is as it was
  pub keeps_loaded : (c : Context) (s : State) (before w : World) (ms : List LoadedModule) (m : LoadedModule) → IsWellFormedState embedding c.host s → before.objects ≡ s.objects → before.last ≡ s.last → before.outside ≡ handles (globals_of ms) → Follows before w → IsWorld c w → Contains ms m → IsLoaded embedding s.objects m → IsLoaded embedding w.objects m
  keeps_loaded c s before w ms m h objects last outside follows world at l = record {
    tree = l.tree;
    is = l.is;
    values = values_keep_their_types p (record before { objects = s.objects; last = s.last }) w (types_of_globals (l.tree).globals) m.globals h.numbered from_state live l.values;
  }
    where
      p : Program
      p = record { name = m.name; tree = l.tree }

      from_state : Follows (record before { objects = s.objects; last = s.last }) w
      from_state = record {
        last = let le : before.last ≤ w.last = follows.last in omega (arith, last);
        shapes = λ n shape le e. subst (λ (all : LiveObjects (List ℕ)). shape_at n all ≡ Some shape) objects (follows.shapes n shape (omega (arith, last)) e);
        outside = follows.outside;
      }

      live : AllLive w.objects (handles m.globals)
      live = record { each = λ n i. (world.outside).each n (subst (λ (ns : List ℕ). Contains ns n) (sym (follows.outside ∙ outside)) (in_globals ms m n at i)) }

  -- a module is known where it is loaded
  pub known_some : (ms : List LoadedModule) (m : LoadedModule) (tree : Module) → find (has_name m.name) ms ≡ Some m → embedding.read m.source ≡ Ok tree → known_of embedding ms m.name ≡ Some tree
  known_some ms m tree found is = ap (option_and_then (tree_of embedding)) found ∙ ap tree_in is

  some_is : {A : Type 0} (o : Option A) (x : A) → o ≡ Some x → IsSome o
  some_is None x e = absurd (cc)
  some_is (Some y) x e = refl

  -- Without a module: the objects that the others lead to are well-formed without it.
  pub removed : (c : Context) (s : State) (ms : List LoadedModule) (w : World) → IsWellFormedState embedding c.host s → IsWorld c w → Follows c.began w → (c.began).objects ≡ s.objects → (c.began).last ≡ s.last → (c.began).outside ≡ handles (globals_of ms) → w.globals ≡ [] → ((m : LoadedModule) → Contains ms m → Contains s.modules m) → Ascend ms → AllByRecursion HasValidName ms → length ms ≤ max_modules → KnowsAll (known_of embedding ms) c.modules → s.seq < max_seq → IsWellFormedState embedding c.host (state_after ms (sweep [] w) s) × AreHosts (hosts_left (sweep [] w))
  removed c s ms w h world since objects last outside none within ascending valid few knows left =
      (state_well c s ms (sweep [] w) after ascending valid few loaded living left roots_in, hosts_after after)
    where
      after : IsBetweenRequests c (sweep [] w)
      after = settled w world since

      roots_in : (n : ℕ) → Contains (roots [] (sweep [] w)) n → Contains (handles (globals_of ms)) n
      roots_in n i = root_cases (sweep [] w) n (Contains (handles (globals_of ms)) n)
          (λ one. subst (λ (ns : List ℕ). Contains ns n) ((after.since).outside ∙ outside) one)
          (λ other. absurd (none_in n (subst (λ (ws : List _). Contains (handles ws) n) (swept_none w none) other))) i

      loaded_at : (m : LoadedModule) → Contains ms m → IsLoaded embedding (sweep [] w).objects m
      loaded_at m at = keeps_loaded c s c.began (sweep [] w) ms m h objects last outside after.since after.world at (rec_of (IsLoaded embedding s.objects) s.modules h.loaded m (within m at))

      loaded : AllByRecursion (IsLoaded embedding (sweep [] w).objects) ms
      loaded = rec_from (IsLoaded embedding (sweep [] w).objects) ms loaded_at

      roots_known : (n : ℕ) (shape : Shape) → Contains (roots [] (sweep [] w)) n → shape_at n (sweep [] w).objects ≡ Some shape → IsKnownShape (known_of embedding ms) shape
      roots_known n shape i at =
          let (m, there, inside) = from_globals ms n (roots_in n i) in
          let l = loaded_at m there in
          values_are_of_their_module (record { name = m.name; tree = l.tree }) (known_of embedding ms) (sweep [] w).objects (types_of_globals (l.tree).globals) m.globals n shape
          (some_is (known_of embedding ms m.name) l.tree (known_some ms m l.tree (found_by_name ms ascending m there) l.is)) l.values inside at

      living : AreObjects (known_of embedding ms) (sweep [] w).objects
      living = fewer_modules_keep c.modules (known_of embedding ms) (roots [] (sweep [] w)) (sweep [] w).objects knows roots_known after.reached (after.world).living
