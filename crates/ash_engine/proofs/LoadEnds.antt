-- What a load leaves, as a live state shows it.
use Rattle.std.proofs.Common.{◌≡◌, ◌<◌, ◌+◌, ℕ, Bool, true, false, List, [], ◌∷◌, ◌++◌, length, map, refl, sym, ap, ◌∙◌}
use Rattle.std.proofs.Common.{subst, nat_eq, if◌then◌else◌}
use Rattle.std.specs.Prelude.{Option, Some, None, Ok, Contains, IsSome, is_some}
use Rattle.std.specs.Option.{option_and_then}
use Rattle.std.proofs.lemmas.List.{append-nil}
use Rattle.ash_host.specs.declared.event.Event.{Event}
use Rattle.ash_host.specs.declared.host_object.HostObject.{Ghosts}
use Rattle.ash_host.specs.declared.word.Word.{Word}
use Rattle.ash_host.specs.Objects.{LiveObjects, handles, IsInOrder}
use Rattle.ash_host.specs.Records.{HostRecord}
use Rattle.ash_typed.specs.Modules.{Module}
use Rattle.ash_typed.specs.Signatures.{HostSignatures}
use Rattle.ash_meaning.specs.Activity.{FreeBox, World}
use Rattle.ash_meaning.specs.Ends.{End, Finished}
use Rattle.ash_meaning.specs.Releases.{roots, sweep}
use Rattle.ash_objects.specs.Table.{Table}
use Rattle.ash_object_ranks.specs.ShownTables.{SlotNames, objects_shown}
use Rattle.ash_run_steps.specs.declared.beginning.Parts.{Parts}
use Rattle.ash_run_steps.specs.RunStates.{Names, HoldsRoots}
use Rattle.ash_code.specs.declared.code.CodeParts.{CodeParts}
use Rattle.ash_code.specs.CompiledCode.{IsCodeOf}
use Rattle.ash_requests.specs.States.{LoadedModule, State, Embedding, find_module, globals_of, with_module}
use Rattle.ash_requests.specs.Requests as replies
use Rattle.ash_requests.specs.Steps.{Step, perform, after_load_with, answered}
use Rattle.ash_requests.specs.Tasks.{Initialize, is_module_name, max_modules, max_seq, tree_of}
use Rattle.ash_requests.specs.Premises.{ReadsSound}
use Rattle.ash_soundness.specs.WellFormed.{Context, IsContext, AreObjects}
use Rattle.ash_soundness.specs.WellFormedStates.{AreHosts, IsWellFormedState, known_of}
use Rattle.ash_soundness.proofs.Came.{unfinished_keeps}
use Rattle.ash_context.specs.declared.outcome.Outcome as run_outcome
use Rattle.ash_context.specs.declared.outcome.Outcome.TheVariants as outcomes
use Rattle.ash_context.specs.Outcomes.{end_said, world_in}
use Rattle.ash_table_states.specs.TableStates.{names_in, state_shown}
use Rattle.ash_engine.specs.RankedSources.{ReadsRanked}
use Rattle.ash_engine.specs.TableRuns.{Released}
use Rattle.ash_engine.proofs.GivenAnswers.{answers_fit}
use Rattle.ash_engine.proofs.KnownRanks.{class_ranks, known_sound, known_ranked}
use Rattle.ash_engine.proofs.RunSettings.{names_for}
use Rattle.ash_engine.proofs.ShownAlike.{shown_alike}
use Rattle.ash_engine.proofs.TableCalls.{free_box, hosts_of, PoolFits}
use Rattle.ash_engine.proofs.TableLoads.{LoadSteps}
use Rattle.ash_engine.proofs.TableReleases.{ReleasesAs, releases_as}

-- a release point changes objects and events alone

swept_services : (w : World) → (sweep [] w).services ≡ w.services
unfolding sweep
swept_services w = refl

swept_pool : (w : World) → (sweep [] w).pool ≡ w.pool
unfolding sweep
swept_pool w = refl

swept_last : (w : World) → (sweep [] w).last ≡ w.last
unfolding sweep
swept_last w = refl

swept_answers : (w : World) → (sweep [] w).answers ≡ w.answers
unfolding sweep
swept_answers w = refl

-- the step of a request that is answered so, if these modules are loaded afterwards
abbrev pub answered_with : {Fault B : Type 0} → Ghosts B → ℕ → End → List Event → List LoadedModule → List ℕ → Table B
    → Step Fault
answered_with G seq end events ms slots table = record {
  reply = replies.Answered end (seq + 1) events;
  state = state_shown G ms slots (seq + 1) table;
  hosts = hosts_of G table [];
}

module _ {Fault : Type 0} (embedding : Embedding Fault) (host : HostSignatures) (sound : ReadsSound host embedding)
    (ranked : ReadsRanked host embedding) {B : Type 0} (G : Ghosts B)
    (ms : List LoadedModule) (slots : List ℕ) (seq : ℕ) (table : Table B) where
  abbrev state : State
  state = state_shown G ms slots seq table

  module _ (h : IsWellFormedState embedding host state) (fit : PoolFits G table) (name source : List ℕ) (tree : Module)
      (code : CodeParts)
      (good : is_module_name name ≡ true) (is : embedding.read source ≡ Ok tree) (free : find_module name state ≡ None)
      (fresh : Contains slots code.module → ⊥) (compiled : (c : Context) → IsContext c → (c.program).tree ≡ tree
      → IsCodeOf code c) where
    abbrev Steps : ℕ → run_outcome.Outcome → Parts B → Type 0
    Steps budget o left = LoadSteps embedding host sound ranked G ms slots seq table h fit name source tree code good is
        free fresh compiled budget o left

    abbrev loaded_with : List Word → LoadedModule
    loaded_with globals = record { name = name; source = source; globals = globals }

    abbrev after : List LoadedModule
    after = with_module (loaded_with []) ms

    abbrev modules : SlotNames
    modules = names_in (loaded_with [] ∷ ms) (code.module ∷ slots)

    abbrev names : Names
    names = names_for modules tree

    abbrev Performs : ℕ → List HostRecord → Step Fault → Type 0
    Performs budget records one = perform {Fault = Fault} budget (Initialize name source tree) state
        (hosts_of G table records) ≡ Some one

    -- A module whose initializers came to their end is loaded.
    pub kept_so : (budget : ℕ) (value : Option Word) (left : Parts B) (now : List ℕ)
        (steps : Steps budget (outcomes.Finished value) left)
        → ((at : ℕ) → names_in (with_module (loaded_with left.globals.items) ms) now at ≡ modules at)
        → Performs budget steps.records (answered_with G seq (Finished value) left.events.items
        (with_module (loaded_with left.globals.items) ms) now left.table)
    kept_so budget value left now steps same =
        let named : modules ≡ names_in (with_module (loaded_with left.globals.items) ms) now = λ i at. sym
        (same at) i in
        steps.stepped
        ∙ (λ i. Some (record {
          reply = replies.Answered (Finished value) (seq + 1) left.events.items;
          state = record {
            modules = with_module (loaded_with left.globals.items) ms;
            objects = objects_shown G (named i) left.table.objects;
            services = map G.state left.table.services;
            last = left.table.last;
            seq = seq + 1;
          };
          hosts = hosts_of G left.table [];
        }))

    -- names agree on the modules that are loaded
    agree : (slot : ℕ) → IsSome (known_of embedding ms (modules slot)) → names_in ms slots slot ≡ modules slot
    agree slot known = go (nat_eq slot code.module) known
      where
        go : (b : Bool) → IsSome (known_of embedding ms (if b then name else names_in ms slots slot))
            → names_in ms slots slot ≡ (if b then name else names_in ms slots slot)
        go true known = let none = ap (λ (o : Option LoadedModule). is_some (option_and_then (tree_of embedding) o))
            free in absurd (cc)
        go false known = refl

    module _ (few : length ms < max_modules) (numbered : seq < max_seq) (budget : ℕ) (o : run_outcome.Outcome)
        (left : Parts B) (steps : Steps budget o left)
        (held : HoldsRoots left.table (left.outside.items ++ handles left.globals.items)) (swept : Table B)
        (events : List Event)
        (order : IsInOrder swept.objects) (released : Released left.globals.items left.table swept left.events.items
        events) where
      -- the world that the run left, without the globals of the module
      abbrev w : World
      w = record (world_in G names [] left) { globals = [] }

      roots_left : roots [] w ≡ left.outside.items
      roots_left = append-nil (left.outside.items ++ []) ∙ append-nil left.outside.items

      releases : ReleasesAs G modules w left.table swept events
      releases = releases_as G modules host (known_of embedding after) (class_ranks embedding host ranked after) w
          left.globals.items left.table swept events
          (known_sound embedding host sound after) (known_ranked embedding host ranked after)
          ((steps.settled).world).living (((steps.settled).world).numbered).in_order order refl
          (subst (λ (l : List ℕ). HoldsRoots left.table (l ++ handles left.globals.items)) (sym roots_left) held)
          released

      well : IsWellFormedState embedding host
          (record {
            modules = ms;
            objects = (sweep [] w).objects;
            services = (sweep [] w).services;
            last = (sweep [] w).last;
            seq = seq + 1;
          })
      well = (unfinished_keeps embedding host state (hosts_of G table steps.records) h
          (record {
            pool = fit;
            answers = answers_fit G steps.records table left.table [] left.events.items steps.gave;
          })
          numbered sound name source tree good is free few (world_in G names [] left) steps.settled).0

      shown_as : objects_shown G (names_in ms slots) swept.objects ≡ (sweep [] w).objects
      shown_as = shown_alike G (known_of embedding ms) modules (names_in ms slots) agree swept.objects
          (subst (λ (l : LiveObjects (List ℕ)). IsInOrder l) (sym releases.shown) (well.numbered).in_order)
          (subst (λ (l : LiveObjects (List ℕ)). AreObjects (known_of embedding ms) l) (sym releases.shown) well.living)
          ∙ releases.shown

      -- what is held is what the others hold
      pub left_held : HoldsRoots swept (handles (globals_of ms))
      left_held = subst (HoldsRoots swept) (roots_left ∙ steps.outside) releases.held

      pub left_services : swept.services ≡ left.table.services
      left_services = releases.services

      unfinished : (o : run_outcome.Outcome) → ((value : Option Word) → o ≡ outcomes.Finished value → ⊥)
          → after_load_with {Fault = Fault} name source state (end_said names o) (world_in G names [] left) ≡ answered
          (end_said names o) ms (sweep [] w) state
      unfinished (outcomes.Finished value) not = absurd (not value refl)
      unfinished (outcomes.Exception x function line) not = refl
      unfinished (outcomes.Aborted function line) not = refl

      -- One whose initializers did not come to their end is not.
      pub abandoned_so : ((value : Option Word) → o ≡ outcomes.Finished value → ⊥)
          → Performs budget steps.records (answered_with G seq (end_said names o) events ms slots swept)
      abandoned_so not =
          let services : (sweep [] w).services ≡ map G.state swept.services = swept_services w
          ∙ ap (map G.state) (sym releases.services) in
          let last : (sweep [] w).last ≡ swept.last = swept_last w ∙ sym releases.last in
          let pool : (sweep [] w).pool ≡ map (free_box G) swept.pool = swept_pool w
          ∙ ap (map (free_box G)) (sym releases.pool) in
          steps.stepped ∙ ap (λ (one : Step Fault). Some one) (unfinished o not)
          ∙ (λ i. Some (record {
            reply = replies.Answered (end_said names o) (seq + 1) (sym releases.events i);
            state = record {
              modules = ms;
              objects = sym shown_as i;
              services = services i;
              last = last i;
              seq = seq + 1;
            };
            hosts = record { pool = pool i; answers = swept_answers w i };
          }))
