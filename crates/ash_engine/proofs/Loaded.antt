-- A load that the code ran is a step of the live state.
use Rattle.std.proofs.Common.{◌≡◌, ◌<◌, ◌+◌, ℕ, Bool, true, false, List, [], ◌∷◌, ◌++◌, length, map, find, refl, sym, ap, ◌∙◌, subst}
use Rattle.std.proofs.Common.{nat_eq, inl, inr, slice_get, if◌then◌else◌, arith}
use Rattle.std.specs.Prelude.{Option, Some, None, Result, Ok, Err, Contains, IfOk, IfErr, IsSome, option_map, string_bytes}
use Rattle.std.specs.Option.{option_map_or}
use Rattle.std.specs.List.{AllZip, IsDistinct, insert}
use Rattle.std.proofs.lemmas.Bool.{eqb-true}
use Rattle.std.proofs.lemmas.List.{length-map}
use Rattle.std.proofs.lemmas.Option.{slice_get-map}
use Rattle.std.proofs.lemmas.Slice.Zip.{AllZip-long}
use Rattle.ash_host.specs.declared.event.Event.{Event}
use Rattle.ash_host.specs.declared.host_object.HostObject.{Ghosts}
use Rattle.ash_host.specs.declared.word.Word.{Word}
use Rattle.ash_host.specs.Objects.{handles, IsInOrder}
use Rattle.ash_registry.specs.AcceptedRegistrations.{Registration}
use Rattle.ash_typed.specs.Modules.{Module, module_of}
use Rattle.ash_typed.specs.Signatures.{types_of_globals}
use Rattle.ash_meaning.specs.Ends.{End, Finished}
use Rattle.ash_meaning.specs.OperatorMeaning.{zero_of}
use Rattle.ash_objects.specs.Table.{Table}
use Rattle.ash_objects.specs.Marking.{without_marks}
use Rattle.ash_object_ranks.specs.ShownTables.{SlotNames, objects_shown}
use Rattle.ash_run_steps.specs.declared.beginning.Parts.{Parts}
use Rattle.ash_run_steps.specs.Becoming.{Gave}
use Rattle.ash_run_steps.specs.Ranks.{rank_test}
use Rattle.ash_run_steps.specs.RunStates.{HoldsRoots, times}
use Rattle.ash_context.specs.declared.context.Left.{Left}
use Rattle.ash_context.specs.declared.outcome.Outcome as run_outcome
use Rattle.ash_context.specs.declared.outcome.Outcome.TheVariants as outcomes
use Rattle.ash_context.specs.declared.outcome.RunFault.{RunFault}
use Rattle.ash_context.specs.declared.outcome.RunFault.TheVariants as faults
use Rattle.ash_context.specs.Outcomes.{end_said}
use Rattle.ash_requests.specs.declared.step_error.StepError.{StepError}
use Rattle.ash_requests.specs.declared.step_error.StepError.TheVariants as errors
use Rattle.ash_requests.specs.RequestViews.{reply_seen}
use Rattle.ash_requests.specs.States.{LoadedModule, State, Embedding, find_module, globals_of, with_module}
use Rattle.ash_requests.specs.Requests.{Request, NoMemory as NoMemoryRefusal, Refused}
use Rattle.ash_requests.specs.Requests as replies
use Rattle.ash_requests.specs.Steps.{unless_refused}
use Rattle.ash_requests.specs.Steps as steps
use Rattle.ash_requests.specs.Tasks.{Task, TaskResult, Initialize, is_module_name, max_modules, max_seq}
use Rattle.ash_soundness.specs.WellFormedStates.{known_of}
use Rattle.ash_soundness.proofs.Asked.{IsTask, initializes, task_is}
use Rattle.ash_sources.specs.SourceFaults.{SourceFault, fault_of}
use Rattle.ash_sources.proofs.SourceLaws.{read_sound}
use Rattle.ash_plain_steps.specs.declared.state.LoadedModule as code_module
use Rattle.ash_plain_steps.specs.declared.state.PlainState.{PlainState}
use Rattle.ash_plain_steps.specs.StateViews.{loaded_seen, modules_seen}
use Rattle.ash_plain_steps.specs.Consistency.{AreConsistent}
use Rattle.ash_plain_steps.proofs.Changed.{consistent_insert}
use Rattle.ash_states.specs.HostStates.{HostState, embedding_for, offered_to}
use Rattle.ash_states.specs.StateSteps.{task_of, FailsInChange, TaskRunsCode}
use Rattle.ash_table_states.specs.TableStates.{names_in}
use Rattle.ash_engine.specs.declared.changes.ModuleChange.TheVariants as changed
use Rattle.ash_engine.specs.declared.live.Compiled.{Compiled}
use Rattle.ash_engine.specs.declared.live.Live.{Live}
use Rattle.ash_engine.specs.declared.live.Rest.{Rest}
use Rattle.ash_engine.specs.declared.steps.LiveStep.{LiveStep}
use Rattle.ash_engine.specs.LiveSteps.{LiveSteps, TakesStep}
use Rattle.ash_engine.specs.NamedChanges.{name_at, AreTaken}
use Rattle.ash_engine.specs.RankedSources.{ReadsRanked}
use Rattle.ash_engine.specs.TableRuns.{end_named, SaysOfLoad, IsAnswered, IsKept, IsAbandoned}
use Rattle.ash_engine.specs.TableRuns.{IsKeptAtOnce, IsUnkept}
use Rattle.ash_change_laws.specs.MarkedObjects.{IsSettled}
use Rattle.ash_change_records.specs.ListedChanges.{AreListable}
use Rattle.ash_engine.specs.LiveStates.{plain_box}
use Rattle.ash_engine.specs.NamedChanges.{changes_seen}
use Rattle.ash_engine.specs.TableStates.{roots_of, BoxesFit}
use Rattle.ash_run_steps.specs.Answered.{boxes_of}
use Rattle.ash_states.specs.HostStates.{IsAdmitted}
use Rattle.ash_table_states.specs.TableStates.{state_shown}
use Rattle.ash_engine.specs.TableSteps.{IsStepOf}
use Rattle.ash_engine.specs.TableStates.{slots_of, IsCompiledFrom, AreCompiled, durable_seen, live_seen}
use Rattle.ash_engine.specs.TableStates.{IsLive}
use Rattle.ash_engine.specs.TableTasks.{entry_name}
use Rattle.ash_engine.proofs.AnsweredSteps.{IsShown, HasNames, taken, still_admitted, still_fit, still_kinds, still_held, still_settled, still_listable}
use Rattle.ash_engine.proofs.CallEnds.{numbered_from}
use Rattle.ash_engine.proofs.InsertedModules.{map_insert, zip_insert, distinct_insert, roots_with}
use Rattle.ash_engine.proofs.InsertedSlots.{inserted_at}
use Rattle.ash_engine.proofs.KnownRanks.{class_ranks}
use Rattle.ash_engine.proofs.LoadEnds.{answered_with, kept_so, abandoned_so, left_held, left_services}
use Rattle.ash_engine.proofs.Looked.{ran_out}
use Rattle.ash_engine.proofs.NamedSlots.{IsSlotOf, slot_known, contains_at}
use Rattle.ash_engine.proofs.ReleasedGlobals.{run_released}
use Rattle.ash_engine.proofs.RunSettings.{names_for}
use Rattle.ash_engine.proofs.ShownAlike.{shown_alike}
use Rattle.ash_engine.proofs.TableCalls.{Takes, hosts_of}
use Rattle.ash_engine.proofs.TableLoads.{LoadSteps, load_steps, steps_at_once}

-- an end with the names of functions, whatever the names of modules
ends_same : (tree : Module) (o : run_outcome.Outcome) (names : ℕ → List ℕ)
    → end_said (names_for names tree) o ≡ end_named (entry_name tree) o
ends_same tree (outcomes.Finished value) names = refl
ends_same tree (outcomes.Exception x function line) names = refl
ends_same tree (outcomes.Aborted function line) names = refl

-- what a run does not take
abbrev pub rest_of : {B : Type 0} → Live B → Rest
rest_of live = record { loaded = live.loaded; compiled = live.compiled; changes = live.changes }

-- what is left of a load
pub record IsLeft {B : Type 0} (live : Live B) (m : code_module.LoadedModule) (c : Compiled) (left : Left B)
    (result : Result (LiveStep B) StepError) : Type 0 where
  pub kept : (value : Option Word) → left.outcome ≡ Ok (outcomes.Finished value)
      → IfOk result (λ one. (before : Live B) × IsKept (rest_of live) m c left.parts before
      × (place : ℕ) × (slice_get before.loaded.modules.items place ≡ Some (record m { globals = left.parts.globals }))
      × IsAnswered before (Finished value) left.parts.events.items (changed.Loaded place) one)
  pub abandoned : (o : run_outcome.Outcome) → left.outcome ≡ Ok o
      → ((value : Option Word) → o ≡ outcomes.Finished value → ⊥)
      → IfOk result (λ one. (before : Live B) × (events : List Event) × IsAbandoned (rest_of live) left.parts before events
      × IsAnswered before (end_named (entry_name (module_of m.tree)) o) events changed.Unchanged one)
  pub refused : left.outcome ≡ Err faults.NotBegun
      → IfOk result (λ one. (reply_seen fault_of one.reply ≡ Refused NoMemoryRefusal)
      × (one.live ≡ record {
        loaded = live.loaded;
        compiled = live.compiled;
        table = left.parts.table;
        changes = live.changes;
      }))
  pub lost : left.outcome ≡ Err faults.NoMemory → IfOk result (λ one. ⊥)
  pub never : left.outcome ≡ Err faults.Unsound → IfOk result (λ one. ⊥)
  pub memory : IfErr result (λ error. error ≡ errors.NoMemory)

module _ {B : Type 0} (G : Ghosts B) (registered : List Registration) (request : Request) (budget : ℕ) (live : Live B)
    (is_live : IsLive G registered live)
    (ranked : ReadsRanked (offered_to registered) (embedding_for registered)) (m : code_module.LoadedModule) where
  abbrev ms : List code_module.LoadedModule
  ms = live.loaded.modules.items

  abbrev seen : List LoadedModule
  seen = modules_seen ms

  abbrev cs : List Compiled
  cs = live.compiled.items

  abbrev slots : List ℕ
  slots = slots_of cs

  abbrev durable : HostState
  durable = durable_seen G registered live

  abbrev embedding : Embedding SourceFault
  embedding = embedding_for registered

  abbrev name : List ℕ
  name = string_bytes m.name

  abbrev tree : Module
  tree = module_of m.tree

  abbrev task : Task
  task = Initialize name m.source.items tree

  long : length slots ≡ length seen
  long =
      let many = AllZip-long IsCompiledFrom ms cs (is_live.compiled).each in
      omega (arith, many, length-map ms loaded_seen, length-map cs (λ (c : Compiled). c.code.module))

  -- what a run does not take
  abbrev rest : Rest
  rest = rest_of live

  module _ (asked : task_of request durable ≡ Ok task) (c : Compiled) (fresh : Contains slots c.code.module
      → ⊥) (compiled : IsCompiledFrom m c) (left : Left B)
      (held : HoldsRoots left.parts.table (left.parts.outside.items ++ handles left.parts.globals.items)) where
    -- the module while it runs, and the names of modules
    abbrev new_names : SlotNames
    new_names = names_in (record { name = name; source = m.source.items; globals = [] } ∷ seen) (c.code.module ∷ slots)

    module _ (good : is_module_name name ≡ true) (is : embedding.read m.source.items ≡ Ok tree)
        (free : find_module name durable.state ≡ None) (few : length seen < max_modules)
        (numbered : live.loaded.seq < max_seq) where
      abbrev Loads : run_outcome.Outcome → Type 0
      Loads o = LoadSteps embedding (offered_to registered) (read_sound registered) ranked G seen slots live.loaded.seq
          live.table ((is_live.admitted).formed) is_live.fit
          name m.source.items tree c.code good is free fresh compiled budget o left.parts

      step_by : (one : steps.Step SourceFault) (o : run_outcome.Outcome) (run : Loads o)
          → steps.perform {Fault = SourceFault} budget task durable.state (hosts_of G live.table run.records) ≡ Some one
          → steps.step embedding budget request durable.state (hosts_of G live.table run.records) ≡ Some one
      step_by one o run performs = ap (λ (d : TaskResult SourceFault). unless_refused budget d durable.state
          (hosts_of G live.table run.records)) asked ∙ performs

      -- a module that is kept

      module _ (value : Option Word) (run : Loads (outcomes.Finished value)) (before : Live B)
          (kept : IsKept rest m c left.parts before)
          (place : ℕ) (in_place : slice_get before.loaded.modules.items place
          ≡ Some (record m { globals = left.parts.globals })) (one : LiveStep B)
          (answered : IsAnswered before (Finished value) left.parts.events.items (changed.Loaded place) one) where
        abbrev kept_module : code_module.LoadedModule
        kept_module = record m { globals = left.parts.globals }

        abbrev kept_modules : List LoadedModule
        kept_modules = with_module (loaded_seen kept_module) seen

        abbrev kept_slots : List ℕ
        kept_slots = insert slots kept.place c.code.module

        kept_items : one.live.loaded.modules.items ≡ insert ms kept.place kept_module
        kept_items = ap (λ (l : Live B). l.loaded.modules.items) answered.live ∙ kept.modules

        kept_codes : one.live.compiled.items ≡ insert cs kept.place c
        kept_codes = ap (λ (l : Live B). l.compiled.items) answered.live ∙ kept.compiled

        kept_shown : IsShown one.live kept_modules kept_slots (live.loaded.seq + 1) left.parts.table
        kept_shown = record {
          modules_are = ap (λ (l : Live B). modules_seen l.loaded.modules.items) answered.live ∙ kept.by_name;
          slots_are = ap slots_of kept_codes ∙ map_insert (λ (x : Compiled). x.code.module) cs kept.place c;
          seq_is = ap (λ (l : Live B). l.loaded.seq) answered.live ∙ ap (λ (s : PlainState). s.seq + 1) kept.loaded;
          table_is = ap (λ (l : Live B). l.table) answered.live ∙ ap (λ (t : Table B). without_marks t) kept.table;
        }

        kept_named : (at : ℕ) → names_in kept_modules kept_slots at ≡ new_names at
        kept_named at =
            ap (λ (l : List LoadedModule). names_in l kept_slots at) (sym kept.by_name ∙ ap modules_seen kept.modules
            ∙ map_insert loaded_seen ms kept.place kept_module)
            ∙ inserted_at (loaded_seen kept_module) c.code.module seen slots kept.place at long fresh

        -- no object that was there is in the slot of the module
        kept_agree : (slot : ℕ) → IsSome (known_of embedding seen (names_in seen slots slot))
            → names_in kept_modules kept_slots slot ≡ names_in seen slots slot
        kept_agree slot known = kept_named slot ∙ go (nat_eq slot c.code.module) refl
          where
            there : IsSlotOf seen slots slot
            there = slot_known embedding seen slots slot ((is_live.admitted).formed).valid known

            go : (b : Bool) → nat_eq slot c.code.module ≡ b
                → (if b then name else names_in seen slots slot) ≡ names_in seen slots slot
            go true same =
                let level : slot ≡ c.code.module = eqb-true slot c.code.module same in
                absurd (fresh (subst (λ (n : ℕ). Contains slots n) level (contains_at slots there.place slot there.in_slot)))
            go false same = refl

        kept_before : objects_shown G (names_in kept_modules kept_slots) live.table.objects
            ≡ objects_shown G (names_in seen slots) live.table.objects
        kept_before = shown_alike G (known_of embedding seen) (names_in seen slots) (names_in kept_modules kept_slots)
            kept_agree live.table.objects (((is_live.admitted).formed).numbered).in_order
            ((is_live.admitted).formed).living

        kept_at : name_at kept_modules place ≡ name
        kept_at = ap (λ (l : List LoadedModule). name_at l place) (sym kept.by_name)
            ∙ ap (λ (x : Option LoadedModule). option_map_or (λ (y : LoadedModule). y.name) x [])
            (slice_get-map loaded_seen before.loaded.modules.items place ∙ ap (option_map loaded_seen) in_place)

        kept_has : HasNames G live one.live left.parts.events.items kept_modules kept_slots left.parts.table
        kept_has = record {
          change = changed.Loaded place;
          listable = tt;
          discards = λ name is number marked. cc;
          taken_so = subst (λ (t : Table B). AreTaken left.parts.events.items (changed.Loaded place) t one.live.changes)
              kept.table answered.taken;
          change_is = (loaded_seen kept_module, sym kept_at, refl {A = List LoadedModule});
          names = names_in kept_modules kept_slots;
          shown_before = sym kept_before;
          same_names = λ number. refl;
        }

        kept_step : steps.step embedding budget request durable.state (hosts_of G live.table run.records)
            ≡ Some (answered_with G live.loaded.seq (Finished value) left.parts.events.items kept_modules kept_slots
            left.parts.table)
        kept_step = step_by _ (outcomes.Finished value) run
            (kept_so embedding (offered_to registered) (read_sound registered) ranked G seen slots live.loaded.seq
            live.table ((is_live.admitted).formed) is_live.fit
            name m.source.items tree c.code good is free fresh compiled budget value left.parts kept_slots run
            kept_named)

        kept_held : HoldsRoots left.parts.table (handles (globals_of kept_modules))
        kept_held n = held n ∙ ap (λ (l : List ℕ). times n (l ++ handles left.parts.globals.items)) run.outside
            ∙ sym (roots_with (loaded_seen kept_module) seen n)

        kept_taken : TakesStep G budget request (live_seen G registered live) (reply_seen fault_of one.reply)
            (live_seen G registered one.live)
        kept_taken =
            subst (λ (r : replies.Reply SourceFault). TakesStep G budget request (live_seen G registered live) r
            (live_seen G registered one.live))
            (sym (answered.reply
            ∙ ap (λ (s : PlainState). replies.Answered (Finished value) (s.seq + 1) left.parts.events.items)
            kept.loaded))
            (taken G registered request budget live is_live (Finished value) left.parts.events.items kept_modules
            kept_slots left.parts.table run.records run.gave kept_step one.live kept_shown kept_has)

        kept_live : IsLive G registered one.live
        kept_live = record {
          admitted = still_admitted G registered request budget live is_live (Finished value) left.parts.events.items
              kept_modules kept_slots left.parts.table run.records run.gave kept_step one.live kept_shown kept_has;
          consistent = consistent_insert embedding kept_module ms one.live.loaded.modules.items is_live.consistent is
              free kept_shown.modules_are (kept.place, kept_items);
          compiled = record {
            each = subst (λ (l : List code_module.LoadedModule). AllZip IsCompiledFrom l one.live.compiled.items)
                (sym kept_items)
                (subst (λ (l : List Compiled). AllZip IsCompiledFrom (insert ms kept.place kept_module) l)
                (sym kept_codes)
                (zip_insert IsCompiledFrom ms cs kept.place kept_module c (is_live.compiled).each compiled));
            apart = subst (IsDistinct nat_eq) (sym kept_shown.slots_are)
                (distinct_insert c.code.module slots kept.place fresh (is_live.compiled).apart);
          };
          held = still_held G registered request budget live is_live (Finished value) left.parts.events.items
              kept_modules kept_slots left.parts.table run.records run.gave kept_step one.live kept_shown kept_has
              kept_held;
          settled = still_settled G registered request budget live is_live (Finished value) left.parts.events.items
              kept_modules kept_slots left.parts.table run.records run.gave kept_step one.live kept_shown kept_has;
          listable = still_listable G registered request budget live is_live (Finished value) left.parts.events.items
              kept_modules kept_slots left.parts.table run.records run.gave kept_step one.live kept_shown kept_has;
          kinds = still_kinds G registered request budget live is_live (Finished value) left.parts.events.items
              kept_modules kept_slots left.parts.table run.records run.gave kept_step one.live kept_shown kept_has;
          fit = still_fit G registered request budget live is_live (Finished value) left.parts.events.items kept_modules
              kept_slots left.parts.table run.records run.gave kept_step one.live kept_shown kept_has;
        }

      -- a module that is given up

      module _ (o : run_outcome.Outcome) (run : Loads o) (other : (value : Option Word) → o ≡ outcomes.Finished value
          → ⊥) (before : Live B) (events : List Event)
          (gone : IsAbandoned rest left.parts before events) (one : LiveStep B)
          (answered : IsAnswered before (end_named (entry_name tree) o) events changed.Unchanged one) where
        abbrev end : End
        end = end_named (entry_name tree) o

        gone_items : one.live.loaded.modules.items ≡ ms
        gone_items = ap (λ (l : Live B). l.loaded.modules.items) answered.live
            ∙ ap (λ (s : PlainState). s.modules.items) gone.loaded

        gone_codes : one.live.compiled.items ≡ cs
        gone_codes = ap (λ (l : Live B). l.compiled.items) answered.live ∙ ap (λ (v : _). v.items) gone.compiled

        gone_shown : IsShown one.live seen slots (live.loaded.seq + 1) before.table
        gone_shown = record {
          modules_are = ap modules_seen gone_items;
          slots_are = ap slots_of gone_codes;
          seq_is = ap (λ (l : Live B). l.loaded.seq) answered.live ∙ ap (λ (s : PlainState). s.seq + 1) gone.loaded;
          table_is = ap (λ (l : Live B). l.table) answered.live;
        }

        gone_has : HasNames G live one.live events seen slots before.table
        gone_has = record {
          change = changed.Unchanged;
          taken_so = answered.taken;
          change_is = refl {A = List LoadedModule};
          listable = tt;
          discards = λ name is number marked. cc;
          names = names_in seen slots;
          shown_before = refl;
          same_names = λ number. refl;
        }

        gone_gave : Gave G run.records live.table [] before.table events
        gone_gave = run_released G (names_for new_names tree)
            (rank_test (known_of embedding seen) (class_ranks embedding (offered_to registered) ranked seen))
            run.records live.table []
            left.parts.outside.items left.parts.globals.items left.parts.table before.table left.parts.events.items
            events run.gave
            (numbered_from G new_names left.parts.table ((run.settled).world).numbered) gone.in_order held gone.released

        gone_step : steps.step embedding budget request durable.state (hosts_of G live.table run.records)
            ≡ Some (answered_with G live.loaded.seq end events seen slots before.table)
        gone_step = step_by _ o run
            (abandoned_so embedding (offered_to registered) (read_sound registered) ranked G seen slots live.loaded.seq
            live.table ((is_live.admitted).formed) is_live.fit
            name m.source.items tree c.code good is free fresh compiled few numbered budget o left.parts run held
            before.table events gone.in_order gone.released other
            ∙ ap (λ (e : End). Some (answered_with {Fault = SourceFault} G live.loaded.seq e events seen slots
            before.table)) (ends_same tree o new_names))

        gone_held : HoldsRoots before.table (handles (globals_of seen))
        gone_held = left_held embedding (offered_to registered) (read_sound registered) ranked G seen slots
            live.loaded.seq live.table ((is_live.admitted).formed) is_live.fit
            name m.source.items tree c.code good is free fresh compiled few numbered budget o left.parts run held
            before.table events gone.in_order gone.released

        gone_taken : TakesStep G budget request (live_seen G registered live) (reply_seen fault_of one.reply)
            (live_seen G registered one.live)
        gone_taken =
            subst (λ (r : replies.Reply SourceFault). TakesStep G budget request (live_seen G registered live) r
            (live_seen G registered one.live))
            (sym (answered.reply ∙ ap (λ (s : PlainState). replies.Answered end (s.seq + 1) events) gone.loaded))
            (taken G registered request budget live is_live end events seen slots before.table run.records gone_gave
            gone_step one.live gone_shown gone_has)

        gone_live : IsLive G registered one.live
        gone_live = record {
          admitted = still_admitted G registered request budget live is_live end events seen slots before.table
              run.records gone_gave gone_step one.live gone_shown gone_has;
          consistent = subst (AreConsistent embedding) (sym gone_items) is_live.consistent;
          compiled = record {
            each = subst (λ (l : List code_module.LoadedModule). AllZip IsCompiledFrom l one.live.compiled.items)
                (sym gone_items)
                (subst (λ (l : List Compiled). AllZip IsCompiledFrom ms l) (sym gone_codes) (is_live.compiled).each);
            apart = subst (IsDistinct nat_eq) (sym gone_shown.slots_are) (is_live.compiled).apart;
          };
          held = still_held G registered request budget live is_live end events seen slots before.table run.records
              gone_gave gone_step one.live gone_shown gone_has gone_held;
          settled = still_settled G registered request budget live is_live end events seen slots before.table
              run.records gone_gave gone_step one.live gone_shown gone_has;
          listable = still_listable G registered request budget live is_live end events seen slots before.table
              run.records gone_gave gone_step one.live gone_shown gone_has;
          kinds = still_kinds G registered request budget live is_live end events seen slots before.table run.records
              gone_gave gone_step one.live gone_shown gone_has;
          fit = still_fit G registered request budget live is_live end events seen slots before.table run.records
              gone_gave gone_step one.live gone_shown gone_has;
        }

    -- Memory was refused before the run began.
    refused_step : (one : LiveStep B) → reply_seen fault_of one.reply ≡ Refused NoMemoryRefusal → one.live ≡ live
        → IsStepOf G registered budget request live (Ok one)
    refused_step one refused same = (
      inr (ran_out G registered live request task (reply_seen fault_of one.reply) one.live asked tt refused
          (ap (live_seen G registered) same)),
      subst (IsLive G registered) (sym same) is_live,
    )

    module _ (parts : Parts B)
        (takes : Takes live.table (map zero_of (types_of_globals tree.globals)) (handles (globals_of seen)) parts) where
      -- what the run leaves is that of the step
      loads : SaysOfLoad G c.code parts budget left → (good : is_module_name name ≡ true)
          (is : embedding.read m.source.items ≡ Ok tree)
          (free : find_module name durable.state ≡ None) (few : length seen < max_modules)
          (numbered : live.loaded.seq < max_seq) (o : run_outcome.Outcome) → left.outcome ≡ Ok o
          → Loads good is free few numbered o
      loads says good is free few numbered o came = load_steps embedding (offered_to registered) (read_sound registered)
          ranked G seen slots live.loaded.seq live.table ((is_live.admitted).formed) is_live.fit
          name m.source.items tree c.code good is free fresh compiled budget parts takes left says o came

      -- Nothing changed that can be seen.
      module _ (new : Live B) (same : IsUnkept rest parts new) where
        items_same : new.loaded.modules.items ≡ ms
        items_same = same.modules

        codes_same : new.compiled.items ≡ cs
        codes_same = same.compiled

        seq_same : new.loaded.seq ≡ live.loaded.seq
        seq_same = ap (λ (s : PlainState). s.seq) same.loaded

        table_same : new.table ≡ live.table
        table_same = same.table ∙ takes.same_table

        durable_same : durable_seen G registered new ≡ durable
        durable_same = (λ i. record {
          registered = registered;
          state = state_shown G (modules_seen (items_same i)) (slots_of (codes_same i)) (seq_same i) (table_same i);
        })

        live_same : live_seen G registered new ≡ live_seen G registered live
        live_same = (λ i. record {
          durable = durable_same i;
          pool = map (plain_box G) (table_same i).pool;
          boxes = boxes_of (table_same i);
          changes = changes_seen (modules_seen (items_same i)) (same.changes i);
        })

        still_live : IsLive G registered new
        still_live = record {
          admitted = subst IsAdmitted (sym durable_same) is_live.admitted;
          consistent = subst (AreConsistent embedding) (sym items_same) is_live.consistent;
          compiled = subst (λ (l : List code_module.LoadedModule). AreCompiled l new.compiled.items) (sym items_same)
              (subst (λ (l : List Compiled). AreCompiled ms l) (sym codes_same) is_live.compiled);
          held = subst (λ (t : Table B). HoldsRoots t (roots_of new)) (sym table_same)
              (subst (λ (l : List code_module.LoadedModule). HoldsRoots live.table
              (handles (globals_of (modules_seen l)))) (sym items_same) is_live.held);
          kinds = ap (λ (t : Table B). map G.kind_of t.services) table_same ∙ is_live.kinds;
          fit = subst (λ (t : Table B). BoxesFit (map (plain_box G) t.pool)) (sym table_same) is_live.fit;
          settled = subst (λ (t : Table B). IsSettled t) (sym table_same) is_live.settled;
          listable = subst AreListable (sym (λ i. changes_seen (modules_seen (items_same i)) (same.changes i)))
              is_live.listable;
        }

        unkept_step : (one : LiveStep B) → one.live ≡ new → reply_seen fault_of one.reply ≡ Refused NoMemoryRefusal
            → IsStepOf G registered budget request live (Ok one)
        unkept_step one is refused = (
          inr (ran_out G registered live request task (reply_seen fault_of one.reply) one.live asked tt refused
              (ap (live_seen G registered) is ∙ live_same)),
          subst (IsLive G registered) (sym is) still_live,
        )

      -- A module without globals is kept at once.
      module _ (ended : left ≡ record { parts = parts; outcome = Ok (outcomes.Finished None) })
          (none : tree.globals ≡ []) where
        parts_are : left.parts ≡ parts
        parts_are = ap (λ (l : Left B). l.parts) ended

        kept_step_at_once : IsTask embedding durable.state task → (one : LiveStep B)
            → IsKeptAtOnce rest m c left.parts one → IsStepOf G registered budget request live (Ok one)
        kept_step_at_once (initializes good is free few numbered) one (inl refused) =
            unkept_step one.live (subst (λ (p : Parts B). IsUnkept rest p one.live) parts_are refused.1) one refl refused.0
        kept_step_at_once (initializes good is free few numbered) one (inr l) =
            let (before, kept, place, in_place, answered) = l in
            let run : Loads good is free few numbered (outcomes.Finished None) =
            subst (λ (p : Parts B). LoadSteps embedding (offered_to registered) (read_sound registered) ranked G seen
            slots live.loaded.seq live.table ((is_live.admitted).formed) is_live.fit
            name m.source.items tree c.code good is free fresh compiled budget (outcomes.Finished None) p)
            (sym parts_are)
            (steps_at_once embedding (offered_to registered) (read_sound registered) ranked G seen slots
            live.loaded.seq live.table ((is_live.admitted).formed) is_live.fit
            name m.source.items tree c.code good is free fresh compiled budget parts takes none) in (
              inl (kept_taken good is free few numbered None run before kept place in_place one answered),
              kept_live good is free few numbered None run before kept place in_place one answered,
            )

        pub at_once : (one : LiveStep B) → IsKeptAtOnce rest m c left.parts one
            → IsStepOf G registered budget request live (Ok one)
        at_once one l = kept_step_at_once (task_is embedding durable.state request task asked) one l

      module _ (says : SaysOfLoad G c.code parts budget left) (runs : TaskRunsCode (task_of request durable)) where
        load_is_step : IsTask embedding durable.state task
            → (left.outcome ≡ Err faults.NotBegun → left.parts.table ≡ live.table)
            → (result : Result (LiveStep B) StepError) → IsLeft live m c left result
            → IsStepOf G registered budget request live result
        load_is_step is_task unchanged (Err error) l = subst (λ (e : StepError). FailsInChange request durable e)
            (sym l.memory) runs
        load_is_step (initializes good is free few numbered) unchanged (Ok one) l = by left.outcome refl
          where
            ended : (o : run_outcome.Outcome) → left.outcome ≡ Ok o → IsStepOf G registered budget request live (Ok one)
            ended (outcomes.Finished value) came =
                let (before, kept, place, in_place, answered) = l.kept value came in
                let run = loads says good is free few numbered (outcomes.Finished value) came in (
                  inl (kept_taken good is free few numbered value run before kept place in_place one answered),
                  kept_live good is free few numbered value run before kept place in_place one answered,
                )
            ended (outcomes.Exception x function line) came =
                let other : (value : Option Word) → outcomes.Exception x function line ≡ outcomes.Finished value
                → ⊥ = λ value e. cc in
                let (before, events, gone, answered) = l.abandoned (outcomes.Exception x function line) came other in
                let run = loads says good is free few numbered (outcomes.Exception x function line) came in (
                  inl (gone_taken good is free few numbered (outcomes.Exception x function line) run other before events
                      gone one answered),
                  gone_live good is free few numbered (outcomes.Exception x function line) run other before events gone one
                      answered,
                )
            ended (outcomes.Aborted function line) came =
                let other : (value : Option Word) → outcomes.Aborted function line ≡ outcomes.Finished value
                → ⊥ = λ value e. cc in
                let (before, events, gone, answered) = l.abandoned (outcomes.Aborted function line) came other in
                let run = loads says good is free few numbered (outcomes.Aborted function line) came in (
                  inl (gone_taken good is free few numbered (outcomes.Aborted function line) run other before events gone
                      one answered),
                  gone_live good is free few numbered (outcomes.Aborted function line) run other before events gone one
                      answered,
                )

            by : (r : Result run_outcome.Outcome RunFault) → left.outcome ≡ r
                → IsStepOf G registered budget request live (Ok one)
            by (Ok o) came = ended o came
            by (Err faults.NotBegun) came =
                let both = l.refused came in
                refused_step one both.0 (both.1 ∙ ap
                (λ (t : Table B). let same : Live B = record {
                  loaded = live.loaded;
                  compiled = live.compiled;
                  table = t;
                  changes = live.changes;
                } in same) (unchanged came))
            by (Err faults.NoMemory) came = absurd (l.lost came)
            by (Err faults.Unsound) came = absurd (l.never came)

        -- The load that the code ran is a step.
        pub loaded : (left.outcome ≡ Err faults.NotBegun → left.parts.table ≡ live.table)
            → (result : Result (LiveStep B) StepError) → IsLeft live m c left result
            → IsStepOf G registered budget request live result
        loaded unchanged result l = load_is_step (task_is embedding durable.state request task asked) unchanged result l
