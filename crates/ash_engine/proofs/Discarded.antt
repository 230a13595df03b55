-- A module that the code discarded is gone by a step of the live state.
use Rattle.std.proofs.Common.{◌≡◌, ◌<◌, ◌≤◌, ◌+◌, ℕ, List, [], ◌++◌, length, map, refl, sym, ap, ◌∙◌, subst, slice_get, nat_eq, inl, inr, false, arith}
use Rattle.std.specs.Prelude.{Option, Some, None, Ok, IsSome, IfSome, is_some, option_map}
use Rattle.std.specs.List.{AllZip, IsDistinct, remove}
use Rattle.std.proofs.lemmas.List.{append-nil}
use Rattle.std.proofs.lemmas.Option.{slice_get-map, slice_get_within}
use Rattle.ash_host.specs.declared.event.Event.{Event}
use Rattle.ash_host.specs.declared.host_object.HostObject.{Ghosts}
use Rattle.ash_host.specs.Objects.{LiveObjects, object_at, handles, IsInOrder}
use Rattle.ash_registry.specs.AcceptedRegistrations.{Registration}
use Rattle.ash_meaning.specs.Activity.{World}
use Rattle.ash_meaning.specs.Ends.{Finished}
use Rattle.ash_meaning.specs.Releases.{roots, sweep}
use Rattle.ash_objects.specs.Sweeping.{gone_from}
use Rattle.ash_objects.specs.Table.{Living, Table, holds_of}
use Rattle.ash_object_ranks.specs.ObjectRanks.{ClassRanks}
use Rattle.ash_object_ranks.specs.ShownTables.{objects_shown}
use Rattle.ash_run_steps.specs.Becoming.{Gave}
use Rattle.ash_run_steps.specs.Ranks.{rank_test}
use Rattle.ash_run_steps.specs.RunStates.{Names, HoldsRoots, times}
use Rattle.ash_run_steps.proofs.Bare.{marked_bare}
use Rattle.ash_run_steps.proofs.Roots.{times_append}
use Rattle.ash_run_steps.proofs.Swept.{marked_swept}
use Rattle.ash_change_laws.proofs.MarkedObjects.{none_marked}
use Rattle.ash_requests.specs.RequestViews.{reply_seen}
use Rattle.ash_requests.specs.States.{LoadedModule, Hosts, Embedding, globals_of, without_module, world_of}
use Rattle.ash_requests.specs.Requests.{Request, Refused, NoMemory}
use Rattle.ash_requests.specs.Requests as replies
use Rattle.ash_requests.specs.Steps.{Step, after_discard, performed, unless_refused}
use Rattle.ash_requests.specs.Steps as steps
use Rattle.ash_requests.specs.Tasks.{Task, TaskResult, Remove, max_seq}
use Rattle.ash_soundness.specs.WellFormed.{AreObjects}
use Rattle.ash_soundness.specs.WellFormedStates.{AreHosts, IsWellFormedState, known_of}
use Rattle.ash_soundness.proofs.Asked.{IsTask, removes, task_is}
use Rattle.ash_soundness.proofs.Entries.{mapped}
use Rattle.ash_sources.specs.SourceFaults.{SourceFault, fault_of}
use Rattle.ash_sources.proofs.SourceLaws.{read_sound}
use Rattle.ash_plain_steps.specs.declared.state.LoadedModule as code_module
use Rattle.ash_plain_steps.specs.declared.state.PlainState.{PlainState}
use Rattle.ash_plain_steps.specs.declared.task.Task.TheVariants as tasks
use Rattle.ash_plain_steps.specs.StateViews.{loaded_seen, modules_seen}
use Rattle.ash_plain_steps.specs.Consistency.{AreConsistent}
use Rattle.ash_plain_steps.proofs.Changed.{globals_set, removed_there, consistent_remove}
use Rattle.ash_plain_steps.proofs.Places.{map-remove}
use Rattle.ash_states.specs.HostStates.{HostState, IsAdmitted, embedding_for, offered_to}
use Rattle.ash_states.specs.StateSteps.{task_of}
use Rattle.ash_table_states.specs.TableStates.{names_in}
use Rattle.ash_change_laws.specs.MarkedObjects.{KeepNames}
use Rattle.ash_engine.specs.declared.changes.ModuleChange.TheVariants as changed
use Rattle.ash_engine.specs.declared.live.Compiled.{Compiled}
use Rattle.ash_engine.specs.declared.live.Live.{Live}
use Rattle.ash_engine.specs.declared.steps.LiveStep.{LiveStep}
use Rattle.ash_engine.specs.LiveSteps.{TakesStep}
use Rattle.ash_engine.specs.TableRuns.{IsAnswered, IsRemoved}
use Rattle.ash_engine.specs.TableSteps.{IsStepOf}
use Rattle.ash_engine.specs.TableStates.{slots_of, names_of, IsCompiledFrom, durable_seen, live_seen, IsLive}
use Rattle.ash_engine.specs.TableTasks.{IsAsked}
use Rattle.ash_engine.proofs.Admitted.{step_admitted}
use Rattle.ash_engine.proofs.AnsweredSteps.{IsShown, HasNames, taken, still_admitted, still_fit, still_kinds, still_held, still_settled, still_listable}
use Rattle.ash_states.proofs.Names.{one_name}
use Rattle.ash_soundness.proofs.Hosts.{rec_at}
use Rattle.ash_soundness.specs.WellFormedStates.{HasValidName}
use Rattle.ash_engine.proofs.CallEnds.{numbered_from}
use Rattle.ash_engine.proofs.ChangedModules.{held_before}
use Rattle.ash_engine.proofs.KnownRanks.{class_ranks, known_sound, known_ranked}
use Rattle.ash_engine.proofs.LoadEnds.{answered_with}
use Rattle.ash_engine.proofs.NamedSlots.{contains_at}
use Rattle.ash_engine.proofs.ReadRanks.{read_ranked}
use Rattle.ash_engine.proofs.ReleasedGlobals.{released_gave}
use Rattle.ash_engine.proofs.RemovedModules.{zip_at, zip_remove, distinct_remove, set_own, names_kept}
use Rattle.ash_engine.proofs.ShownAlike.{shown_alike}
use Rattle.ash_engine.proofs.TableCalls.{free_box, hosts_of}
use Rattle.ash_engine.proofs.TableReleases.{ReleasesAs, releases_as}
use Rattle.std.specs.Prelude.{filter}
use Rattle.std.specs.Map.{keys_of}
use Rattle.std.proofs.lemmas.List.{length-map}
use Rattle.std.proofs.lemmas.List.Elements.{All-from_recursion}
use Rattle.std.proofs.lemmas.List.Sums.{count_by-le-length}
use Rattle.ash_host.specs.declared.word.Word.{Word}
use Rattle.ash_slots.specs.Bodies.{is_boxed}
use Rattle.ash_run_steps.proofs.Stacking.{handles_few}
use Rattle.ash_change_laws.specs.UncalledServices.{IsCalled}
use Rattle.ash_engine.specs.TableRuns.{Released}
use Rattle.ash_engine.specs.TableStates.{roots_of}
use Rattle.ash_engine.proofs.HeldGlobals.{all_few, globals_seen}
use Rattle.ash_engine.proofs.Looked.{ran_out}
use Rattle.ash_engine.proofs.RestoredLives.{still_unmarked}
use Rattle.ash_engine.proofs.AtRest.{drops_call_none}
use Rattle.ash_engine.proofs.StartedGlobals.{all_short}

-- a release point changes objects and events alone
swept_rest : (w : World) → sweep [] w ≡ record w { objects = (sweep [] w).objects; events = (sweep [] w).events }
unfolding sweep
swept_rest w = refl

module _ {B : Type 0} (G : Ghosts B) (registered : List Registration) (live : Live B) (is_live : IsLive G registered live) (place : ℕ) (m : code_module.LoadedModule)
    (at : slice_get live.loaded.modules.items place ≡ Some m) where
  abbrev ms : List code_module.LoadedModule
  ms = live.loaded.modules.items

  abbrev seen : List LoadedModule
  seen = modules_seen ms

  abbrev cs : List Compiled
  cs = live.compiled.items

  abbrev slots : List ℕ
  slots = slots_of cs

  abbrev durable : HostState
  durable = durable_seen G registered live

  abbrev embedding : Embedding SourceFault
  embedding = embedding_for registered

  abbrev name : List ℕ
  name = (loaded_seen m).name

  -- the modules without the one that goes, and their slots
  abbrev others : List LoadedModule
  others = without_module name seen

  abbrev other_slots : List ℕ
  other_slots = remove slots place

  abbrev outside : List ℕ
  outside = handles (globals_of others)

  formed : IsWellFormedState embedding (offered_to registered) durable.state
  formed = (is_live.admitted).formed

  seen_at : slice_get seen place ≡ Some (loaded_seen m)
  seen_at = slice_get-map loaded_seen ms place ∙ ap (option_map loaded_seen) at

  code_at : (c : Compiled) × (slice_get cs place ≡ Some c)
  code_at = zip_at IsCompiledFrom ms cs place m (is_live.compiled).each at

  abbrev slot : ℕ
  slot = (code_at.0).code.module

  slot_at : slice_get slots place ≡ Some slot
  slot_at = slice_get-map (λ (c : Compiled). c.code.module) cs place ∙ ap (option_map (λ (c : Compiled). c.code.module)) code_at.1

  pub within : place < length ms
  within = slice_get_within ms place m at

  pub within_codes : place < length cs
  within_codes = slice_get_within cs place code_at.0 code_at.1

  -- each object is held as often as the others hold it, and as the globals of the module do
  held_apart : HoldsRoots live.table (outside ++ handles m.globals.items)
  held_apart = held_before live.table outside seen place (loaded_seen m) formed.ascending seen_at refl
      (sym (globals_set seen place (loaded_seen m) m.globals.items (is_live.consistent).ascending seen_at) ∙ set_own seen place (loaded_seen m) seen_at)
      is_live.held

  pub holds_enough : (number : ℕ) → times number (handles m.globals.items) ≤ holds_of number live.table
  holds_enough number = omega (arith, held_apart number, times_append number outside (handles m.globals.items))

  -- and few times
  pub holds_few : (number : ℕ) → holds_of number live.table + length m.globals.items ≤ 8192
  holds_few number =
      let counts = is_live.held number in
      let some = count_by-le-length (nat_eq number) (roots_of live) in
      let fewer = handles_few (globals_of seen) in
      let all = ap (λ (ws : List Word). length ws) (globals_seen ms) in
      let short = All-from_recursion (λ (x : code_module.LoadedModule). length x.globals.items ≤ 256) ms
      (all_short embedding (offered_to registered) (read_sound registered) (durable.state).objects ms formed.loaded) in
      let each = all_few 256 ms short in
      let one = rec_at (λ (x : code_module.LoadedModule). length x.globals.items ≤ 256) ms place m
      (all_short embedding (offered_to registered) (read_sound registered) (durable.state).objects ms formed.loaded) at in
      omega (arith, counts, some, fewer, all, each, one, formed.few_modules, length-map ms loaded_seen)

  -- What is left is not marked, and drops alone happened.
  module _ (before : Live B) (events : List Event) (gone : IsRemoved live place m before events) where
    pub left_unmarked : (number : ℕ) → IfSome (object_at number before.table.objects) (λ object. object.touched ≡ false)
    left_unmarked number = go (object_at number before.table.objects) refl
      where
        r : Released m.globals.items live.table before.table [] events
        r = gone.released

        was : IfSome (object_at number (r.unheld).objects) (λ object. object.touched ≡ false)
        was = still_unmarked live.table r.unheld (r.less).same number ((is_live.settled).unmarked number)

        go : (o : Option (Living B)) → object_at number before.table.objects ≡ o → IfSome o (λ object. object.touched ≡ false)
        go None is = tt
        go (Some x) is = subst (λ (o : Option (Living B)). IfSome o (λ object. object.touched ≡ false))
            (sym (((r.swept).collected).unchanged number (ap is_some is)) ∙ is) was

    pub left_uncalled : (service : ℕ) → IsCalled service events → ⊥
    left_uncalled service called =
        drops_call_none (keys_of (filter (λ (e : ℕ × Living B). is_boxed (e.1).body) (gone_from ((gone.released).unheld).objects before.table.objects)))
        service (subst (IsCalled service) (gone.released).dropped called)

  module _ (request : Request) (asked : task_of request durable ≡ Ok (Remove name)) where
    -- Memory was refused, and nothing changed.
    pub kept_as_it_is : (budget : ℕ) (one : LiveStep B) → reply_seen fault_of one.reply ≡ Refused NoMemory → one.live ≡ live
        → IsStepOf G registered budget request live (Ok one)
    kept_as_it_is budget one refused same = (
      inr (ran_out G registered live request (Remove name) (reply_seen fault_of one.reply) one.live asked tt refused (ap (live_seen G registered) same)),
      subst (IsLive G registered) (sym same) is_live,
    )

    numbered_by : IsTask embedding durable.state (Remove name) → live.loaded.seq < max_seq
    numbered_by (removes numbered) = numbered

    pub numbered : live.loaded.seq < max_seq
    numbered = numbered_by (task_is embedding durable.state request (Remove name) asked)

    module _ (budget : ℕ) (before : Live B) (events : List Event) (gone : IsRemoved live place m before events) (order : IsInOrder before.table.objects) where
      pub still_numbered : before.loaded.seq < max_seq
      still_numbered = subst (λ (n : ℕ). n < max_seq) (sym (ap (λ (s : PlainState). s.seq) gone.loaded)) numbered

      abbrev hosts : Hosts
      hosts = hosts_of G live.table []

      abbrev world : World
      world = world_of [] others durable.state hosts

      roots_are : roots [] world ≡ outside
      roots_are = append-nil (outside ++ []) ∙ append-nil outside

      abbrev ranks : ClassRanks
      ranks = class_ranks embedding (offered_to registered) (read_ranked registered) seen

      releases : ReleasesAs G (names_of live) world live.table before.table events
      releases = releases_as G (names_of live) (offered_to registered) (known_of embedding seen) ranks world m.globals.items live.table before.table events
          (known_sound embedding (offered_to registered) (read_sound registered) seen) (known_ranked embedding (offered_to registered) (read_ranked registered) seen)
          formed.living (formed.numbered).in_order order refl
          (subst (λ (l : List ℕ). HoldsRoots live.table (l ++ handles m.globals.items)) (sym roots_are) held_apart) gone.released

      step_done : steps.step embedding budget request durable.state hosts ≡ Some (after_discard name durable.state hosts)
      step_done = ap (λ (d : TaskResult SourceFault). unless_refused budget d durable.state hosts) asked

      kept : IsAdmitted (record { registered = registered; state = (after_discard {Fault = SourceFault} name durable.state hosts).state })
          × AreHosts (after_discard {Fault = SourceFault} name durable.state hosts).hosts
      kept = step_admitted budget request durable hosts (after_discard name durable.state hosts) is_live.admitted (record { pool = is_live.fit; answers = tt }) (performed step_done)

      others_are : modules_seen (remove ms place) ≡ others
      others_are = removed_there ms place m (is_live.consistent).ascending at

      agree : (other : ℕ) → IsSome (known_of embedding others (names_of live other)) → names_in others other_slots other ≡ names_of live other
      agree other known =
          ap (λ (l : List LoadedModule). names_in l other_slots other) (sym others_are ∙ map-remove loaded_seen ms place)
          ∙ names_kept embedding seen slots place slot (loaded_seen m) (is_live.compiled).apart seen_at slot_at other known

      shown_as : objects_shown G (names_in others other_slots) before.table.objects ≡ (sweep [] world).objects
      shown_as = shown_alike G (known_of embedding others) (names_of live) (names_in others other_slots) agree before.table.objects
          (subst (λ (l : LiveObjects (List ℕ)). IsInOrder l) (sym releases.shown) (((kept.0).formed).numbered).in_order)
          (subst (λ (l : LiveObjects (List ℕ)). AreObjects (known_of embedding others) l) (sym releases.shown) ((kept.0).formed).living)
          ∙ releases.shown

      step_is : steps.step embedding budget request durable.state hosts ≡ Some (answered_with G live.loaded.seq (Finished None) events others other_slots before.table)
      step_is =
          let services : (sweep [] world).services ≡ map G.state before.table.services = ap (λ (w : World). w.services) (swept_rest world) ∙ ap (map G.state) (sym releases.services) in
          let last : (sweep [] world).last ≡ before.table.last = ap (λ (w : World). w.last) (swept_rest world) ∙ sym releases.last in
          let pool : (sweep [] world).pool ≡ map (free_box G) before.table.pool = ap (λ (w : World). w.pool) (swept_rest world) ∙ ap (map (free_box G)) (sym releases.pool) in
          step_done
          ∙ (λ i. Some (record {
            reply = replies.Answered (Finished None) (live.loaded.seq + 1) (sym releases.events i);
            state = record { modules = others; objects = sym shown_as i; services = services i; last = last i; seq = live.loaded.seq + 1 };
            hosts = record { pool = pool i; answers = (swept_rest world i).answers };
          }))

      names : Names
      names = record { modules = names_of live; functions = λ index. [] }

      gave : Gave G [] live.table [] before.table events
      gave = released_gave G names (rank_test (known_of embedding seen) ranks) outside m.globals.items live.table before.table [] events
          (numbered_from G (names_of live) live.table formed.numbered) order held_apart gone.released

      -- the objects that are left are of the same modules
      same_names : KeepNames G (names_of live) (names_in others other_slots) before.table
      same_names number = ap (object_at number) (shown_as ∙ sym releases.shown)

      module _ (one : LiveStep B) (answered : IsAnswered before (Finished None) events (changed.Discarded m.name) one) where
        items_are : one.live.loaded.modules.items ≡ remove ms place
        items_are = ap (λ (l : Live B). l.loaded.modules.items) answered.live ∙ gone.modules

        codes_are : one.live.compiled.items ≡ remove cs place
        codes_are = ap (λ (l : Live B). l.compiled.items) answered.live ∙ gone.compiled

        shown : IsShown one.live others other_slots (live.loaded.seq + 1) before.table
        shown = record {
          modules_are = ap modules_seen items_are ∙ others_are;
          slots_are = ap slots_of codes_are ∙ map-remove (λ (c : Compiled). c.code.module) cs place;
          seq_is = ap (λ (l : Live B). l.loaded.seq) answered.live ∙ ap (λ (s : PlainState). s.seq + 1) gone.loaded;
          table_is = ap (λ (l : Live B). l.table) answered.live;
        }

        has : HasNames G live one.live events others other_slots before.table
        has = record {
          change = changed.Discarded m.name;
          taken_so = answered.taken;
          change_is = record {
            was = loaded_seen m;
            named = refl;
            there = contains_at seen place (loaded_seen m) seen_at;
            left = refl {A = List LoadedModule};
          };
          listable = one_name (loaded_seen m).name ∙ rec_at HasValidName seen place (loaded_seen m) ((is_live.admitted).formed).valid seen_at;
          discards = λ name is number marked. none_marked live.table is_live.settled number
              (marked_bare live.table (gone.released).unheld (gone.released).less.same number
              (marked_swept (gone.released).unheld before.table ((gone.released).swept).collected number marked));
          names = names_of live;
          shown_before = refl;
          same_names = same_names;
        }

        discard_taken : TakesStep G budget request (live_seen G registered live) (reply_seen fault_of one.reply) (live_seen G registered one.live)
        discard_taken =
            subst (λ (r : replies.Reply SourceFault). TakesStep G budget request (live_seen G registered live) r (live_seen G registered one.live))
            (sym (answered.reply ∙ ap (λ (s : PlainState). replies.Answered (Finished None) (s.seq + 1) events) gone.loaded))
            (taken G registered request budget live is_live (Finished None) events others other_slots before.table [] gave step_is one.live shown has)

        discard_live : IsLive G registered one.live
        discard_live = record {
          admitted = still_admitted G registered request budget live is_live (Finished None) events others other_slots before.table [] gave step_is one.live shown has;
          consistent = subst (λ (l : List code_module.LoadedModule). AreConsistent embedding l) (sym items_are) (consistent_remove embedding ms place m is_live.consistent at);
          compiled = record {
            each = subst (λ (l : List code_module.LoadedModule). AllZip IsCompiledFrom l one.live.compiled.items) (sym items_are)
                (subst (λ (l : List Compiled). AllZip IsCompiledFrom (remove ms place) l) (sym codes_are) (zip_remove IsCompiledFrom ms cs place (is_live.compiled).each));
            apart = subst (IsDistinct nat_eq) (sym shown.slots_are) (distinct_remove slots place (is_live.compiled).apart);
          };
          held = still_held G registered request budget live is_live (Finished None) events others other_slots before.table [] gave step_is one.live shown has
              (subst (λ (l : List ℕ). HoldsRoots before.table l) roots_are releases.held);
          kinds = still_kinds G registered request budget live is_live (Finished None) events others other_slots before.table [] gave step_is one.live shown has;
          settled = still_settled G registered request budget live is_live (Finished None) events others other_slots before.table [] gave step_is one.live shown has;
          listable = still_listable G registered request budget live is_live (Finished None) events others other_slots before.table [] gave step_is one.live shown has;
          fit = still_fit G registered request budget live is_live (Finished None) events others other_slots before.table [] gave step_is one.live shown has;
        }

        step_of : IsStepOf G registered budget request live (Ok one)
        step_of = (inl discard_taken, discard_live)

      -- What the code gives for the removal is a step.
      pub discarded : (one : LiveStep B) → IsAnswered before (Finished None) events (changed.Discarded m.name) one
          → IsStepOf G registered budget request live (Ok one)
      discarded one answered = step_of one answered

-- what is asked for is a module that is there
module _ {B : Type 0} (G : Ghosts B) (live : Live B) (place : ℕ) (asked : IsAsked G live (tasks.Remove place)) where
  pub record IsThere : Type 0 where
    pub module_there : code_module.LoadedModule
    pub at : slice_get live.loaded.modules.items place ≡ Some module_there
    pub task : task_of asked.request (durable_seen G asked.registered live) ≡ Ok (Remove (loaded_seen module_there).name)

  pub there : IsThere
  there =
      let found = mapped (λ (m : code_module.LoadedModule). Remove (loaded_seen m).name) (slice_get live.loaded.modules.items place) asked.one asked.seen in
      record { module_there = found.0; at = found.1; task = asked.is ∙ ap (λ (t : Task). Ok t) (sym found.2) }
