-- What a call takes of a live state, and what it gives back.
use Rattle.std.proofs.Common.{◌≡◌, ◌<◌, ◌≤◌, ◌+◌, ◌++◌, ℕ, zero, suc, List, [], ◌∷◌, length, map, set, refl, sym, ap, ◌∙◌}
use Rattle.std.proofs.Common.{subst, slice_get, nat_eq, inl, inr, arith}
use Rattle.std.specs.Prelude.{Some, Result, Ok, Err, All, IsTrue, IfOk, IfErr, option_map}
use Rattle.std.specs.List.{AllZip, IsDistinct, remove}
use Rattle.std.proofs.lemmas.List.{length-set}
use Rattle.std.proofs.lemmas.Option.{same_Some, slice_get_within, slice_get-map}
use Rattle.ash_host.specs.declared.host_object.HostObject.{Ghosts}
use Rattle.ash_host.specs.declared.word.Word.{Word}
use Rattle.ash_host.specs.Objects.{handles}
use Rattle.ash_registry.specs.AcceptedRegistrations.{Registration}
use Rattle.ash_typed.specs.Modules.{module_of}
use Rattle.ash_typed.specs.Signatures.{types_of_globals}
use Rattle.ash_objects.specs.Table.{Table}
use Rattle.ash_objects.specs.Marking.{without_marks}
use Rattle.ash_change_laws.specs.MarkedObjects.{IsSettled}
use Rattle.ash_run_steps.specs.declared.beginning.Parts.{Parts}
use Rattle.ash_run_steps.specs.Answered.{boxes_of}
use Rattle.ash_run_steps.specs.RunStates.{HoldsRoots, Names, is_alive_in}
use Rattle.ash_context.specs.declared.context.Left.{Left}
use Rattle.ash_context.specs.declared.outcome.Outcome as run_outcome
use Rattle.ash_context.specs.declared.outcome.Outcome.TheVariants as outcomes
use Rattle.ash_context.specs.declared.outcome.RunFault.{RunFault}
use Rattle.ash_context.specs.declared.outcome.RunFault.TheVariants as faults
use Rattle.ash_context.specs.Outcomes.{end_said}
use Rattle.ash_requests.specs.declared.step_error.StepError.{StepError}
use Rattle.ash_requests.specs.declared.step_error.StepError.TheVariants as errors
use Rattle.ash_requests.specs.Requests.{Reply, Answered, Refused, NoMemory}
use Rattle.ash_requests.specs.RequestViews.{reply_seen}
use Rattle.ash_requests.specs.States.{LoadedModule, Embedding, globals_of, without_module, update_globals}
use Rattle.ash_requests.specs.Tasks.{Task, TaskResult, Invoke, max_seq}
use Rattle.ash_soundness.specs.WellFormedStates.{IsLoaded}
use Rattle.ash_soundness.proofs.Asked.{IsTask, calls, task_is}
use Rattle.ash_soundness.proofs.Lists.{values_length}
use Rattle.ash_soundness.proofs.Named.{rec_of}
use Rattle.ash_sources.proofs.SourceLaws.{read_sound}
use Rattle.ash_sources.specs.SourceFaults.{SourceFault, fault_of}
use Rattle.ash_plain_steps.specs.declared.state.LoadedModule as code_module
use Rattle.ash_plain_steps.specs.declared.state.PlainState.{PlainState}
use Rattle.ash_plain_steps.specs.declared.task.Invocation.{Invocation}
use Rattle.ash_plain_steps.specs.declared.task.Task.TheVariants as tasks
use Rattle.ash_plain_steps.specs.StateViews.{loaded_seen, modules_seen}
use Rattle.ash_plain_steps.specs.Consistency.{AreConsistent}
use Rattle.ash_plain_steps.proofs.Changed.{removed_there, seen_set, consistent_set, set_again, got_set}
use Rattle.ash_states.specs.HostStates.{HostState, IsAdmitted, embedding_for}
use Rattle.ash_states.specs.StateSteps.{task_of, FailsInChange, TaskRunsCode}
use Rattle.ash_table_states.specs.TableStates.{state_shown}
use Rattle.ash_engine.specs.declared.live.Compiled.{Compiled}
use Rattle.ash_engine.specs.declared.live.Live.{Live}
use Rattle.ash_engine.specs.declared.live.Rest.{Rest}
use Rattle.ash_engine.specs.declared.steps.LiveStep.{LiveStep}
use Rattle.ash_engine.specs.declared.changes.ModuleChange.{ModuleChange}
use Rattle.ash_engine.specs.LiveStates.{plain_box}
use Rattle.ash_change_records.specs.ListedChanges.{AreListable}
use Rattle.ash_engine.specs.NamedChanges.{IsChangeOf, AreTaken, changes_seen}
use Rattle.ash_engine.specs.LiveSteps.{LiveSteps, TakesStep}
use Rattle.ash_engine.specs.TableRuns.{SaysOfCall, IsLent, IsGivenBack, IsAnswered, end_named}
use Rattle.ash_engine.specs.TableStates.{slots_of, names_of, roots_of, IsCompiledFrom, BoxesFit, durable_seen}
use Rattle.ash_engine.specs.TableStates.{live_seen, IsLive}
use Rattle.ash_engine.specs.TableSteps.{IsStepOf}
use Rattle.ash_engine.specs.TableTasks.{codes_of, entry_name, IsAsked}
use Rattle.ash_engine.proofs.ArgumentsAlive.{arguments_alive}
use Rattle.ash_engine.proofs.ChangedModules.{held_before}
use Rattle.ash_engine.proofs.Invoked.{slots_from, still_compiled, set_compiled, seen_at, call_answered}
use Rattle.ash_engine.proofs.Looked.{ran_out}
use Rattle.ash_engine.proofs.NamedSlots.{contains_at}
use Rattle.ash_engine.proofs.ReadRanks.{read_ranked}
use Rattle.ash_engine.proofs.RunSettings.{names_for}
use Rattle.ash_engine.proofs.TableCalls.{Takes}

-- a list with an item in its own place
same_set : {A : Type 0} (xs : List A) (place : ℕ) (x : A) → slice_get xs place ≡ Some x → set xs place x ≡ xs
same_set [] place x at = absurd (cc)
same_set {A} (y ∷ ys) zero x at = ap (λ (z : A). z ∷ ys) (sym (same_Some y x at))
same_set {A} (y ∷ ys) (suc place) x at = ap (λ (l : List A). y ∷ l) (same_set ys place x at)

-- what is in the same place of the other list
zipped_at : {A C : Type 0} (R : A → C → Type 0) (xs : List A) (ys : List C) (place : ℕ) (x : A) → AllZip R xs ys
    → slice_get xs place ≡ Some x
    → (y : C) × (slice_get ys place ≡ Some y) × R x y
zipped_at R [] ys place x each at = absurd (cc)
zipped_at R (z ∷ xs) [] place x each at = absurd each
zipped_at {A} R (z ∷ xs) (y ∷ ys) zero x each at = (y, refl, subst (λ (w : A). R w y) (same_Some z x at) each.0)
zipped_at R (z ∷ xs) (y ∷ ys) (suc place) x each at = zipped_at R xs ys place x each.1 at

-- an end, by the names of functions
end_same : (names : Names) (outcome : run_outcome.Outcome) → end_named names.functions outcome ≡ end_said names outcome
end_same names (outcomes.Finished value) = refl
end_same names (outcomes.Exception code function line) = refl
end_same names (outcomes.Aborted function line) = refl

module _ {B : Type 0} (G : Ghosts B) (live : Live B) (call : Invocation)
    (asked : IsAsked G live (tasks.Invoke call)) where
  abbrev ms : List code_module.LoadedModule
  ms = live.loaded.modules.items

  abbrev registered : List Registration
  registered = asked.registered

  abbrev durable : HostState
  durable = durable_seen G registered live

  abbrev embedding : Embedding SourceFault
  embedding = embedding_for registered

  module _ (m : code_module.LoadedModule) (at : slice_get ms call.module ≡ Some m)
      (one : Invoke (loaded_seen m) (module_of m.tree) call.function call.args.items ≡ asked.one) where
    abbrev the_task : Task
    the_task = Invoke (loaded_seen m) (module_of m.tree) call.function call.args.items

    is_task : IsTask embedding durable.state the_task
    is_task = subst (IsTask embedding durable.state) (sym one)
        (task_is embedding durable.state asked.request asked.one asked.is)

    task_found : task_of asked.request durable ≡ Ok the_task
    task_found = asked.is ∙ ap (λ (t : Task). Ok t) (sym one)

    runs : TaskRunsCode (task_of asked.request durable)
    runs = subst (λ (d : TaskResult SourceFault). TaskRunsCode d) (sym task_found) tt

    -- what the code needs before the run

    pub within : call.module < length ms
    within = slice_get_within ms call.module m at

    pub has_code : (c : Compiled) × (slice_get live.compiled.items call.module ≡ Some c) × IsCompiledFrom m c
    has_code = zipped_at IsCompiledFrom ms live.compiled.items call.module m asked.live.compiled.each at

    pub within_codes : call.module < length live.compiled.items
    within_codes = slice_get_within live.compiled.items call.module has_code.0 has_code.1

    -- there are few globals
    pub few_globals : length m.globals.items ≤ 256
    few_globals =
        let known = rec_of (IsLoaded embedding (durable.state).objects) (modules_seen ms)
        asked.live.admitted.formed.loaded (loaded_seen m)
        (contains_at (modules_seen ms) call.module (loaded_seen m) (seen_at ms call.module m at)) in
        let few = (read_sound registered m.source.items known.tree known.is).few_globals in
        let many : length m.globals.items ≡ length (types_of_globals (known.tree).globals) = values_length known.values in
        omega (arith, many, few)

    pub numbered : live.loaded.seq < max_seq
    numbered = from is_task
      where
        from : IsTask embedding durable.state the_task → live.loaded.seq < max_seq
        from (calls given found is there words left) = left

    pub alive : (table : Table B) → All (λ word. IsTrue (is_alive_in word table)) call.args.items
    alive table = from is_task
      where
        from : IsTask embedding durable.state the_task → All (λ word. IsTrue (is_alive_in word table)) call.args.items
        from (calls {f = f} given found is there words left) =
            arguments_alive table f.parameters given call.args.items words

    -- the module has its globals again
    unchanged_globals : update_globals (loaded_seen m).name m.globals.items (modules_seen ms) ≡ modules_seen ms
    unchanged_globals = sym (seen_set ms call.module m m asked.live.consistent.ascending at refl)
        ∙ ap modules_seen (same_set ms call.module m at)

    -- the state is as it was
    pub record IsAsBefore (new : Live B) : Type 0 where
      pub changed : code_module.LoadedModule
      pub same : changed ≡ record m { globals = changed.globals }
      pub globals : changed.globals.items ≡ m.globals.items
      pub modules : new.loaded.modules.items ≡ set ms call.module changed
      pub seq : new.loaded.seq ≡ live.loaded.seq
      pub codes : codes_of new.compiled.items ≡ codes_of live.compiled.items
      pub table : new.table ≡ live.table
      pub changes : new.changes ≡ live.changes

    module _ (new : Live B) (as_before : IsAsBefore new) where
      modules_before : modules_seen new.loaded.modules.items ≡ modules_seen ms
      modules_before = ap modules_seen as_before.modules
          ∙ seen_set ms call.module m as_before.changed asked.live.consistent.ascending at as_before.same
          ∙ ap (λ (ws : List Word). update_globals (loaded_seen m).name ws (modules_seen ms)) as_before.globals
          ∙ unchanged_globals

      slots_before : slots_of new.compiled.items ≡ slots_of live.compiled.items
      slots_before = slots_from new.compiled.items live.compiled.items as_before.codes

      durable_before : durable_seen G registered new ≡ durable
      durable_before = (λ i. record {
        registered = registered;
        state = state_shown G (modules_before i) (slots_before i) (as_before.seq i) (as_before.table i);
      })

      live_before : live_seen G registered new ≡ live_seen G registered live
      live_before = (λ i. record {
        durable = durable_before i;
        pool = map (plain_box G) (as_before.table i).pool;
        boxes = boxes_of (as_before.table i);
        changes = changes_seen (modules_before i) (as_before.changes i);
      })

      still_live : IsLive G registered new
      still_live = record {
        admitted = subst IsAdmitted (sym durable_before) asked.live.admitted;
        consistent = subst (AreConsistent embedding) (sym as_before.modules)
            (consistent_set embedding ms call.module m as_before.changed asked.live.consistent at as_before.same);
        compiled = record {
          each = subst (λ (l : List code_module.LoadedModule). AllZip IsCompiledFrom l new.compiled.items)
              (sym as_before.modules)
              (still_compiled (set ms call.module as_before.changed) live.compiled.items new.compiled.items
              (set_compiled ms live.compiled.items call.module m as_before.changed asked.live.compiled.each at
              (ap (λ (x : code_module.LoadedModule). x.tree) as_before.same)) as_before.codes);
          apart = subst (IsDistinct nat_eq) (sym slots_before) asked.live.compiled.apart;
        };
        held = subst (λ (t : Table B). HoldsRoots t (roots_of new)) (sym as_before.table)
            (subst (λ (l : List LoadedModule). HoldsRoots live.table (handles (globals_of l)))
            (sym modules_before) asked.live.held);
        kinds = ap (λ (t : Table B). map G.kind_of t.services) as_before.table ∙ asked.live.kinds;
        fit = subst (λ (t : Table B). BoxesFit (map (plain_box G) t.pool)) (sym as_before.table) asked.live.fit;
        settled = subst (λ (t : Table B). IsSettled t) (sym as_before.table) asked.live.settled;
        listable = subst AreListable (sym (λ i. changes_seen (modules_before i) (as_before.changes i))) asked.live.listable;
      }

      refused_step : (budget : ℕ) (reply : Reply SourceFault) → reply ≡ Refused NoMemory
          → LiveSteps G budget asked.request (live_seen G registered live) reply (live_seen G registered new)
          × IsLive G registered new
      refused_step budget reply refused = (
        inr (ran_out G registered live asked.request the_task reply new task_found tt refused live_before),
        still_live,
      )

    -- memory was refused before the run began to take anything
    pub without_run : (budget : ℕ) (one : LiveStep B) → reply_seen fault_of one.reply ≡ Refused NoMemory
        → one.live ≡ live → IsStepOf G registered budget asked.request live (Ok one)
    without_run budget one refused same = (
      inr (ran_out G registered live asked.request the_task
          (reply_seen fault_of one.reply) one.live task_found tt refused (ap (live_seen G registered) same)),
      subst (IsLive G registered) (sym same) asked.live,
    )

    module _ (outside : List ℕ) (beside : outside ≡ handles (globals_of (modules_seen (remove ms call.module))))
        (rest : Rest) (parts : Parts B) (lent : IsLent live call.module m outside rest parts) where
      abbrev pub lending : code_module.LoadedModule
      lending = lent.lending

      outside_is : parts.outside.items ≡ handles (globals_of (without_module (loaded_seen m).name (modules_seen ms)))
      outside_is = lent.outside ∙ beside ∙ ap (λ (l : List LoadedModule). handles (globals_of l))
          (removed_there ms call.module m asked.live.consistent.ascending at)

      takes : Takes live.table m.globals.items (handles (globals_of
          (without_module (loaded_seen m).name (modules_seen ms)))) parts
      takes = record {
        same_table = lent.table;
        same_globals = lent.globals;
        same_outside = outside_is;
        no_events = lent.events;
      }

      pub roots_held : HoldsRoots parts.table (parts.outside.items ++ handles parts.globals.items)
      roots_held =
          subst (λ (t : Table B). HoldsRoots t (parts.outside.items ++ handles parts.globals.items)) (sym lent.table)
          (subst (λ (ws : List Word). HoldsRoots live.table (parts.outside.items ++ handles ws)) (sym lent.globals)
          (held_before live.table parts.outside.items (modules_seen ms) call.module
          (loaded_seen m) asked.live.admitted.formed.ascending (seen_at ms call.module m at)
          outside_is unchanged_globals asked.live.held))

      pub there : slice_get rest.loaded.modules.items call.module ≡ Some lending
      there = ap (λ (l : List code_module.LoadedModule). slice_get l call.module) lent.modules
          ∙ got_set ms call.module m lending at

      pub within_rest : call.module < length rest.loaded.modules.items
      within_rest = omega (
        arith,
        within,
        ap (length {A = code_module.LoadedModule}) lent.modules,
        length-set ms
            call.module lending,
      )

      pub within_rest_codes : call.module < length rest.compiled.items
      within_rest_codes = subst (λ (v : _). call.module < length v.items) (sym lent.compiled) within_codes

      pub rest_numbered : rest.loaded.seq < max_seq
      rest_numbered = subst (λ (n : ℕ). n < max_seq) (sym (ap (λ (s : PlainState). s.seq) lent.loaded)) numbered

      module _ (budget : ℕ) (left : Left B) (after : Rest) (same_loaded : after.loaded ≡ rest.loaded)
          (same_codes : codes_of after.compiled.items ≡ codes_of rest.compiled.items)
          (same_changes : after.changes ≡ rest.changes)
          (words : List Word) (words_are : words ≡ m.globals.items)
          (says : (c : Compiled) → slice_get rest.compiled.items call.module ≡ Some c
          → SaysOfCall G c.code parts call.function call.args.items budget left)
          (unchanged : left.outcome ≡ Err faults.NotBegun → left.parts ≡ parts)
          (held : HoldsRoots left.parts.table (left.parts.outside.items ++ handles left.parts.globals.items)) where
        code_there : slice_get rest.compiled.items call.module ≡ Some has_code.0
        code_there = ap (λ (v : _). slice_get v.items call.module) lent.compiled ∙ has_code.1

        in_slot : slice_get (slots_of live.compiled.items) call.module ≡ Some has_code.0.code.module
        in_slot = slice_get-map (λ (c : Compiled). c.code.module) live.compiled.items call.module
            ∙ ap (option_map (λ (c : Compiled). c.code.module)) has_code.1

        abbrev changed : code_module.LoadedModule
        changed = record lending { globals = left.parts.globals }

        changed_is : changed ≡ record m { globals = changed.globals }
        changed_is = ap (λ (x : code_module.LoadedModule).
            let y : code_module.LoadedModule = record x { globals = left.parts.globals } in y) lent.same

        module _ (back : Live B) (given : IsGivenBack after call.module lending left.parts back) where
          modules_back : back.loaded.modules.items ≡ set ms call.module changed
          modules_back = given.modules
              ∙ ap (λ (s : PlainState). set s.modules.items call.module changed) same_loaded
              ∙ ap (λ (l : List code_module.LoadedModule). set l call.module changed) lent.modules
              ∙ set_again ms call.module lending changed

          seq_back : back.loaded.seq ≡ live.loaded.seq
          seq_back = ap (λ (s : PlainState). s.seq) given.loaded ∙ ap (λ (s : PlainState). s.seq) same_loaded
              ∙ ap (λ (s : PlainState). s.seq) lent.loaded

          codes_back : codes_of back.compiled.items ≡ codes_of live.compiled.items
          codes_back = ap (λ (v : _). codes_of v.items) given.compiled ∙ same_codes
              ∙ ap (λ (v : _). codes_of v.items) lent.compiled

          -- the run had an outcome
          answers : (o : run_outcome.Outcome) (step : LiveStep B) (change : ModuleChange) → left.outcome ≡ Ok o
              → IsChangeOf call.module words left.parts.globals.items change
              → IsAnswered back (end_named (entry_name (module_of lending.tree)) o) left.parts.events.items change step
              → IsStepOf G registered budget asked.request live (Ok step)
          answers o step change e is_change answered =
              let tree : module_of lending.tree ≡ module_of m.tree =
              ap (λ (x : code_module.LoadedModule). module_of x.tree) lent.same in
              let end : end_named (entry_name (module_of lending.tree)) o
              ≡ end_said (names_for (names_of live) (module_of m.tree)) o =
              (λ i. end_named (entry_name (tree i)) o) ∙ end_same (names_for (names_of live) (module_of m.tree)) o in
              let reply : reply_seen fault_of step.reply ≡ Answered
              (end_said (names_for (names_of live) (module_of m.tree)) o)
              (live.loaded.seq + 1) left.parts.events.items =
              answered.reply ∙ (λ i. Answered (end i) (seq_back i + 1) left.parts.events.items) in
              let came = call_answered G live call asked (read_ranked registered) budget m at one parts left
              has_code.0.code in_slot has_code.2 takes says_there o step.live e
              (record {
                changed = changed;
                same = changed_is;
                globals = refl;
                modules = ap (λ (l : Live B). l.loaded.modules.items) answered.live ∙ modules_back;
                seq = ap (λ (l : Live B). l.loaded.seq) answered.live ∙ ap (λ (n : ℕ). n + 1) seq_back;
                codes = ap (λ (l : Live B). codes_of l.compiled.items) answered.live ∙ codes_back;
                table = ap (λ (l : Live B). l.table) answered.live ∙ ap (λ (t : Table B). without_marks t) given.table;
                change = change;
                is_change = subst (λ (ws : List Word). IsChangeOf call.module ws left.parts.globals.items change)
                    words_are is_change;
                taken_so = subst (λ (t : Table B). AreTaken left.parts.events.items change t step.live.changes)
                    given.table answered.taken;
              }) held in (
                inl (subst (λ (r : Reply SourceFault). TakesStep G budget asked.request (live_seen G registered live) r
                    (live_seen G registered step.live)) (sym reply) came.0),
                came.1,
              )
            where
              says_there : SaysOfCall G has_code.0.code parts call.function call.args.items budget left
              says_there = says has_code.0 code_there

          -- the run was not begun
          refuses : (reply : Reply SourceFault) → left.outcome ≡ Err faults.NotBegun → reply ≡ Refused NoMemory
              → LiveSteps G budget asked.request (live_seen G registered live) reply (live_seen G registered back)
              × IsLive G registered back
          refuses reply e refused = refused_step back (record {
            changed = changed;
            same = changed_is;
            globals = ap (λ (p : Parts B). p.globals.items) (unchanged e) ∙ lent.globals;
            modules = modules_back;
            seq = seq_back;
            codes = codes_back;
            table = given.table ∙ ap (λ (p : Parts B). p.table) (unchanged e) ∙ lent.table;
            changes = given.changes ∙ same_changes ∙ lent.changes;
          }) budget reply refused

        -- what the code gives for what the run left
        pub call_stepped : (result : Result (LiveStep B) StepError) (o : Result run_outcome.Outcome RunFault)
            → left.outcome ≡ o
            → ((outcome : run_outcome.Outcome) → left.outcome ≡ Ok outcome
            → IfOk result (λ step. (back : Live B) × (change : ModuleChange)
            × IsGivenBack after call.module lending left.parts back
            × IsChangeOf call.module words left.parts.globals.items change
            × IsAnswered back (end_named (entry_name (module_of lending.tree)) outcome) left.parts.events.items
            change step))
            → (left.outcome ≡ Err faults.NotBegun
            → IfOk result (λ step. (reply_seen fault_of step.reply ≡ Refused NoMemory)
            × IsGivenBack after call.module lending left.parts step.live))
            → (left.outcome ≡ Err faults.NoMemory → IfOk result (λ step. ⊥))
            → (left.outcome ≡ Err faults.Unsound → IfOk result (λ step. ⊥))
            → IfErr result (λ error. error ≡ errors.NoMemory)
            → IsStepOf G registered budget asked.request live result
        call_stepped (Err error) o is answered refused lost never memory =
            subst (FailsInChange asked.request durable) (sym memory) runs
        call_stepped (Ok step) (Ok outcome) is answered refused lost never memory =
            let found = answered outcome is in
            answers found.0 found.2 outcome step found.1 is found.3 found.4
        call_stepped (Ok step) (Err faults.NotBegun) is answered refused lost never memory =
            let found = refused is in
            refuses step.live found.1 (reply_seen fault_of step.reply) is found.0
        call_stepped (Ok step) (Err faults.NoMemory) is answered refused lost never memory = absurd (lost is)
        call_stepped (Ok step) (Err faults.Unsound) is answered refused lost never memory = absurd (never is)
