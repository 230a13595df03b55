-- A load that the machine ran over the table is that of the step.
use Rattle.std.proofs.Common.{◌≡◌, ◌<◌, ℕ, Bool, true, false, List, [], ◌∷◌, length, map, find, refl, sym, ap, ◌∙◌}
use Rattle.std.proofs.Common.{subst, nat_eq, if◌then◌else◌, arith}
use Rattle.std.specs.Prelude.{Option, Some, None, Result, Ok, Err, Contains, IsSome, option_map}
use Rattle.std.specs.Option.{option_and_then}
use Rattle.std.specs.Str.{bytes_eq}
use Rattle.std.proofs.lemmas.Bool.{eqb-true}
use Rattle.std.proofs.lemmas.Bool.Decides.{nat_tests}
use Rattle.ash_host.specs.declared.event.Event.{Event}
use Rattle.ash_host.specs.declared.host_object.HostObject.{Ghosts}
use Rattle.ash_host.specs.declared.word.Word.{Word}
use Rattle.ash_host.specs.Objects.{LiveObjects, handles}
use Rattle.ash_host.specs.Records.{HostRecord}
use Rattle.ash_typed.specs.declared.types.VarType.{VarType}
use Rattle.ash_typed.specs.Modules.{Module}
use Rattle.ash_typed.specs.Signatures.{HostSignatures, types_of_globals}
use Rattle.ash_meaning.specs.Activity.{World}
use Rattle.ash_meaning.specs.Classes.{Program}
use Rattle.ash_meaning.specs.Ends.{Outcome, load_module, with_globals}
use Rattle.ash_meaning.specs.OperatorMeaning.{zero_of}
use Rattle.ash_objects.specs.Table.{Table}
use Rattle.ash_object_ranks.specs.ShownTables.{SlotNames, objects_shown}
use Rattle.ash_run_steps.specs.declared.beginning.Parts.{Parts}
use Rattle.ash_run_steps.specs.Becoming.{Gave}
use Rattle.ash_run_steps.specs.RunStates.{Names}
use Rattle.ash_run_steps.specs.Worlds as worlds
use Rattle.ash_code.specs.declared.code.CodeParts.{CodeParts}
use Rattle.ash_code.specs.CompiledCode.{IsCodeOf, IsSetFor, env_of, first_of_load}
use Rattle.ash_code.specs.Performing.{Setting}
use Rattle.ash_requests.specs.States.{LoadedModule, State, Hosts, Embedding, has_name, find_module, globals_of}
use Rattle.ash_requests.specs.States.{with_module, world_of}
use Rattle.ash_requests.specs.Steps.{after_load, perform}
use Rattle.ash_requests.specs.Tasks.{Initialize, is_module_name, tree_in, tree_of}
use Rattle.ash_requests.specs.Premises.{ReadsSound}
use Rattle.ash_soundness.specs.WellFormed.{Context, IsContext, AreValues, no_values, and_value, AreAnswers, IsWorld}
use Rattle.ash_soundness.specs.WellFormed.{IsWellFormed, no_this, no_frames}
use Rattle.ash_soundness.specs.WellFormedLaws.{IsBetweenRequests, KnowsAll}
use Rattle.ash_soundness.specs.WellFormedStates.{AreHosts, IsWellFormedState, known_of}
use Rattle.ash_soundness.proofs.Ascending.{found_by_name}
use Rattle.ash_soundness.proofs.Ends.{loads_keep}
use Rattle.ash_soundness.proofs.Integers.{zero_value}
use Rattle.ash_soundness.proofs.Left.{begun}
use Rattle.ash_soundness.proofs.Modules.{more_modules_keep}
use Rattle.ash_soundness.proofs.Named.{find_with_other, find_with_new, name_says, name_yes}
use Rattle.ash_soundness.proofs.Triples.{follows_itself}
use Rattle.ash_soundness.proofs.Values.{none_in}
use Rattle.ash_context.specs.declared.context.Left.{Left}
use Rattle.ash_context.specs.declared.outcome.Outcome as run_outcome
use Rattle.ash_context.specs.declared.outcome.RunFault.{RunFault}
use Rattle.ash_context.specs.Outcomes.{Leads, Says, end_said, world_in}
use Rattle.ash_engine.specs.TableRuns.{SaysOfLoad, uncounted}
use Rattle.ash_engine.specs.RankedSources.{ReadsRanked}
use Rattle.ash_table_states.specs.TableStates.{names_in, state_shown}
use Rattle.ash_engine.proofs.GivenAnswers.{answers_fit}
use Rattle.ash_engine.proofs.KnownRanks.{class_ranks, known_sound, known_ranked}
use Rattle.ash_engine.proofs.NamedSlots.{slot_of_name, slot_known, contains_at, not_empty}
use Rattle.ash_engine.proofs.RunSettings.{names_for, setting, is_set}
use Rattle.ash_engine.proofs.ShownAlike.{shown_alike}
use Rattle.ash_engine.proofs.TableCalls.{hosts_of, PoolFits, Takes}
use Rattle.std.proofs.Common.{◌++◌}
use Rattle.std.proofs.lemmas.List.{append-nil}
use Rattle.ash_host.specs.Reach.{ReachableIn}
use Rattle.ash_typed.specs.Modules.{Variables}
use Rattle.ash_meaning.specs.Ends.{Finished, outcome_of, init_frame}
use Rattle.ash_meaning.specs.Ends as meant
use Rattle.ash_meaning.specs.Functions.{initialize_module, calls_within}
use Rattle.ash_meaning.specs.Releases.{roots, sweep}
use Rattle.ash_meaning.specs.Runs.{give, ◌>>◌}
use Rattle.ash_run_steps.proofs.Bare.{follows_bare}
use Rattle.ash_run_steps.proofs.Composed.{gave_nothing}
use Rattle.ash_context.specs.declared.outcome.Outcome.TheVariants as outcomes
use Rattle.ash_engine.proofs.AllReached.{nothing_goes}

zero_values : {p : Program} {all : LiveObjects (List ℕ)} (types : List VarType)
    → AreValues p all types (map zero_of types)
zero_values [] = no_values
zero_values (t ∷ types) = and_value (zero_value t) (zero_values types)

module _ {Fault : Type 0} (embedding : Embedding Fault) (host : HostSignatures) (sound : ReadsSound host embedding)
    (ranked : ReadsRanked host embedding) {B : Type 0} (G : Ghosts B)
    (ms : List LoadedModule) (slots : List ℕ) (seq : ℕ) (table : Table B) where
  abbrev state : State
  state = state_shown G ms slots seq table

  module _ (h : IsWellFormedState embedding host state) (fit : PoolFits G table) (name source : List ℕ) (tree : Module)
      (code : CodeParts)
      (good : is_module_name name ≡ true) (is : embedding.read source ≡ Ok tree) (free : find_module name state ≡ None)
      (fresh : Contains slots code.module → ⊥) (compiled : (c : Context) → IsContext c → (c.program).tree ≡ tree
      → IsCodeOf code c) where
    abbrev new : LoadedModule
    new = record { name = name; source = source; globals = [] }

    -- the names of modules while it runs
    abbrev pub modules : SlotNames
    modules = names_in (new ∷ ms) (code.module ∷ slots)

    abbrev names : Names
    names = names_for modules tree

    abbrev after : List LoadedModule
    after = with_module new ms

    agree : (slot : ℕ) → IsSome (known_of embedding ms (names_in ms slots slot)) → modules slot ≡ names_in ms slots slot
    agree slot known = go (nat_eq slot code.module) refl
      where
        go : (b : Bool) → nat_eq slot code.module ≡ b
            → (if b then name else names_in ms slots slot) ≡ names_in ms slots slot
        go true same =
            let there = slot_known embedding ms slots slot h.valid known in
            absurd (fresh (subst (λ (n : ℕ). Contains slots n) (eqb-true slot code.module same)
            (contains_at slots there.place slot there.in_slot)))
        go false other = refl

    shown_same : objects_shown G modules table.objects ≡ state.objects
    shown_same = shown_alike G (known_of embedding ms) (names_in ms slots) modules agree table.objects
        (h.numbered).in_order h.living

    found_new : find (has_name name) after ≡ Some new
    found_new = find_with_new (has_name name) new ms (name_yes name new refl) free

    knows_old : KnowsAll (known_of embedding ms) (known_of embedding after)
    knows_old key t at = go (bytes_eq name key) refl
      where
        go : (b : Bool) → bytes_eq name key ≡ b → known_of embedding after key ≡ Some t
        go true same =
            let level : name ≡ key = name_says key new same in
            let none = ap (option_and_then (tree_of embedding))
            (subst (λ (k : List ℕ). find (has_name k) ms ≡ None) level free) in
            absurd (cc)
        go false other = ap (option_and_then (tree_of embedding)) (find_with_other (has_name key) new ms other) ∙ at

    abbrev before : List HostRecord → World
    before records = with_globals tree (world_of [] ms state (hosts_of G table records))

    abbrev pub context : List HostRecord → Context
    context records = record {
      host = host;
      program = record { name = name; tree = tree };
      modules = known_of embedding after;
      began = before records;
    }

    is_context : (records : List HostRecord) → IsContext (context records)
    is_context records = record {
      known = ap (option_and_then (tree_of embedding)) found_new
          ∙ ap tree_in is;
      sound = sound source tree is;
    }

    begins_in : (records : List HostRecord) → AreAnswers records → IsWorld (context records) (before records)
    begins_in records answers = begun embedding (context records) state (hosts_of G table records)
        (map zero_of (types_of_globals tree.globals)) ms h
        (record { pool = fit; answers = answers }) (λ m i. i)
        (more_modules_keep (known_of embedding ms) (known_of embedding after) state.objects knows_old h.living)
        (zero_values (types_of_globals tree.globals))

    owner : modules code.module ≡ name
    owner =
        let own : nat_eq code.module code.module ≡ true = grind (arith, nat_tests) in
        ap (λ (b : Bool). if b then name else names_in ms slots code.module) own

    alone : (slot : ℕ) → modules slot ≡ modules code.module → slot ≡ code.module
    alone slot same = go (nat_eq slot code.module) refl (same ∙ owner)
      where
        go : (b : Bool) → nat_eq slot code.module ≡ b
            → (if nat_eq slot code.module then name else names_in ms slots slot) ≡ name → slot ≡ code.module
        go true level named = eqb-true slot code.module level
        go false other named =
            let named_so : names_in ms slots slot ≡ name = sym
            (ap (λ (b : Bool). if b then name else names_in ms slots slot) other) ∙ named in
            let there = slot_of_name ms slots slot (λ none. not_empty name good (sym named_so ∙ none)) in
            let found = found_by_name ms h.ascending there.module_there
            (contains_at ms there.place there.module_there there.at) in
            let taken : find (has_name name) ms ≡ Some there.module_there = subst
            (λ (n : List ℕ). find (has_name n) ms ≡ Some there.module_there) (sym there.named ∙ named_so) found in
            absurd (cc)

    abbrev the_setting : Setting
    the_setting = setting code modules tree (known_of embedding after) (class_ranks embedding host ranked after) alone

    set_for : (records : List HostRecord) → IsSetFor code (context records) the_setting
    set_for records = is_set code modules (context records) (class_ranks embedding host ranked after) alone owner
        (compiled (context records) (is_context records) refl) (known_sound embedding host sound after)
        (known_ranked embedding host ranked after)

    -- The step of a load, by answers that boxes gave: what the machine left is what it leaves.
    pub record LoadSteps (budget : ℕ) (outcome : run_outcome.Outcome) (left : Parts B) : Type 0 where
      pub records : List HostRecord
      pub gave : Gave G records table [] left.table left.events.items
      pub stepped : perform {Fault = Fault} budget (Initialize name source tree) state (hosts_of G table records)
          ≡ Some (after_load name source state
          (record { end = end_said names outcome; world = world_in G names [] left }))
      pub outside : left.outside.items ≡ handles (globals_of ms)
      pub settled : IsBetweenRequests (context records) (world_in G names [] left)

    module _ (budget : ℕ) (parts : Parts B)
        (takes : Takes table (map zero_of (types_of_globals tree.globals)) (handles (globals_of ms)) parts) where
      world_is : (records : List HostRecord) → world_in G names records parts ≡ before records
      world_is records =
          (λ i. worlds.world_of G names records (takes.same_table i) (takes.same_globals i) (takes.same_outside i)
          (takes.no_events i))
          ∙ (λ i. record (before records) { objects = shown_same i })

      abbrev run : World → Option Outcome
      run world = load_module (context []).program budget world

      -- A module without globals has nothing to run.
      pub steps_at_once : tree.globals ≡ [] → LoadSteps budget (outcomes.Finished None) parts
      steps_at_once none =
          let w = world_of [] ms state (hosts_of G table []) in
          let end : Outcome = record { end = Finished None; world = world_in G names [] parts } in
          let zeros : map zero_of (types_of_globals tree.globals) ≡ [] =
          ap (λ (ds : List Variables). map zero_of (types_of_globals ds)) none in
          let rooted : roots [] (before []) ≡ handles (globals_of ms) =
          ap (λ (ws : List Word). handles (globals_of ms) ++ handles ws ++ []) zeros
          ∙ append-nil (handles (globals_of ms) ++ []) ∙ append-nil (handles (globals_of ms)) in
          let still : sweep [] (before []) ≡ before [] = nothing_goes (before []) (h.numbered).in_order
          (λ n lives. subst (λ (ns : List ℕ). ReachableIn (Contains ns) state.objects n) (sym rooted)
          (h.reached n lives)) in
          let ended : World → Outcome = λ world. record { end = Finished None; world = world } in
          let ran : run w ≡ Some end =
          ap (λ (ds : List Variables). outcome_of ((initialize_module
          (calls_within (context []).program budget) 0 ds >> give None) (meant.begun (before []) budget init_frame))) none
          ∙ ap (λ (world : World). Some (ended world)) (still ∙ sym (world_is [])) in
          record {
            records = [];
            gave = subst (λ (t : Table B). Gave G [] table [] t parts.events.items) (sym takes.same_table)
                (gave_nothing G table [] table parts.events.items (follows_bare G table table refl) takes.no_events);
            stepped = ap (option_map (after_load name source state)) ran;
            outside = takes.same_outside;
            settled = loads_keep (is_context []) budget w end (begins_in [] tt) (follows_itself (before [])) ran;
          }

      module _ (left : Left B) (says : SaysOfLoad G code parts budget left) where
        said : Says G names run uncounted parts left.outcome left.parts
        said = says (context []) the_setting (is_context []) (compiled (context []) (is_context []) refl)
            (set_for []) takes.same_globals
            (subst (λ (w : World). IsWellFormed (context []) (env_of (context []) []) [] (first_of_load tree budget w))
            (sym (world_is [])) (record {
              world = begins_in [] tt;
              since = follows_itself (before []);
              frame = record { this = no_this; locals = no_values; held = record { each = λ n i. absurd (none_in n i) } };
              callers = no_frames;
              few = omega arith;
            }))

        pub load_steps : (o : run_outcome.Outcome) → left.outcome ≡ Ok o → LoadSteps budget o left.parts
        load_steps o e =
            let l : Leads G names run uncounted parts (end_said names o) left.parts = subst
            (λ (r : Result run_outcome.Outcome RunFault). Says G names run uncounted parts r left.parts) e said in
            let end : Outcome = record { end = end_said names o; world = world_in G names [] left.parts } in
            let gave : Gave G l.records table [] left.parts.table left.parts.events.items =
            subst (λ (t : Table B). Gave G l.records t [] left.parts.table left.parts.events.items) takes.same_table
            (subst (λ (es : List Event). Gave G l.records parts.table es left.parts.table left.parts.events.items)
            takes.no_events l.gave) in
            let ran : run (world_of [] ms state (hosts_of G table l.records)) ≡ Some end = ap run
            (sym (world_is l.records)) ∙ l.same in
            let fits = answers_fit G l.records table left.parts.table [] left.parts.events.items gave in
            let kept = loads_keep (is_context l.records) budget (world_of [] ms state (hosts_of G table l.records)) end
            (begins_in l.records fits) (follows_itself (before l.records)) ran in
            record {
              records = l.records;
              gave = gave;
              stepped = ap (option_map (after_load name source state)) ran;
              outside = (kept.since).outside;
              settled = kept;
            }
