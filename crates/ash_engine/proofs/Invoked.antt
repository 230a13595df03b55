-- A call that the code ran is a step of the live state.
use Rattle.std.proofs.Common.{◌≡◌, ◌+◌, ℕ, zero, suc, List, [], ◌∷◌, ◌++◌, length, map, set, refl, sym, ap, ◌∙◌, subst}
use Rattle.std.proofs.Common.{slice_get, nat_eq, arith, ⊎_elim}
use Rattle.std.specs.Prelude.{◌≢◌, ◌↔◌, Option, Some, Result, Ok, Contains, option_map}
use Rattle.std.specs.Option.{option_map_or}
use Rattle.std.specs.List.{AllZip, IsDistinct}
use Rattle.std.proofs.lemmas.Bool.{cases_lt}
use Rattle.std.proofs.lemmas.Option.{slice_get-map, slice_get_past}
use Rattle.ash_host.specs.declared.host_object.HostObject.{Ghosts}
use Rattle.ash_host.specs.declared.word.Word.{Word}
use Rattle.ash_host.specs.Objects.{object_at, handles}
use Rattle.ash_registry.specs.AcceptedRegistrations.{Registration}
use Rattle.ash_typed.specs.Modules.{Module, module_of}
use Rattle.ash_typed.specs.Signatures.{types_of_globals}
use Rattle.ash_meaning.specs.Ends.{End}
use Rattle.ash_objects.specs.Marking.{without_marks}
use Rattle.ash_object_ranks.specs.ShownTables.{SlotNames, objects_shown}
use Rattle.ash_run_steps.specs.declared.beginning.Parts.{Parts}
use Rattle.ash_change_laws.specs.ChangedStates as named
use Rattle.ash_change_laws.specs.ChangedStates.{HoldOthers, IsModuleChange}
use Rattle.ash_change_records.specs.ListedChanges.{IsListableChange}
use Rattle.ash_run_steps.specs.RunStates.{HoldsRoots}
use Rattle.ash_code.specs.CompiledCode.{IsCodeOf}
use Rattle.ash_code.specs.declared.code.CodeParts.{CodeParts}
use Rattle.ash_context.specs.declared.context.Left.{Left}
use Rattle.ash_context.specs.declared.outcome.Outcome as run_outcome
use Rattle.ash_context.specs.Outcomes.{end_said}
use Rattle.ash_requests.specs.States.{LoadedModule, Embedding, globals_of, without_module, update_globals}
use Rattle.ash_requests.specs.Requests as replies
use Rattle.ash_requests.specs.Steps.{performed, unless_refused}
use Rattle.ash_requests.specs.Steps as steps
use Rattle.ash_requests.specs.Tasks.{Task, TaskResult, Invoke}
use Rattle.ash_soundness.specs.WellFormed.{Context, IsContext}
use Rattle.ash_soundness.specs.WellFormedStates.{AreHosts, IsLoaded}
use Rattle.ash_soundness.proofs.Asked.{IsTask, calls, task_is}
use Rattle.ash_soundness.proofs.Entries.{mapped}
use Rattle.ash_soundness.proofs.Lists.{values_length}
use Rattle.ash_soundness.proofs.Named.{rec_of}
use Rattle.ash_sources.specs.SourceFaults.{SourceFault}
use Rattle.ash_sources.proofs.SourceLaws.{read_sound}
use Rattle.ash_plain_steps.specs.declared.state.LoadedModule as code_module
use Rattle.ash_plain_steps.specs.declared.task.Invocation.{Invocation}
use Rattle.ash_plain_steps.specs.declared.task.Task.TheVariants as tasks
use Rattle.ash_plain_steps.specs.StateViews.{loaded_seen, modules_seen}
use Rattle.ash_plain_steps.specs.Consistency.{AreConsistent}
use Rattle.ash_plain_steps.proofs.Changed.{globals_set, seen_set, consistent_set, got_set}
use Rattle.ash_states.specs.HostStates.{HostState, IsAdmitted, embedding_for, offered_to}
use Rattle.ash_table_states.specs.TableStates.{names_in, state_shown}
use Rattle.ash_engine.specs.declared.live.Compiled.{Compiled}
use Rattle.ash_engine.specs.declared.live.Live.{Live}
use Rattle.ash_engine.specs.declared.changes.ChangedGlobals.{ChangedGlobals}
use Rattle.ash_engine.specs.declared.changes.ModuleChange.{ModuleChange}
use Rattle.ash_engine.specs.declared.changes.ModuleChange.TheVariants as changes
use Rattle.ash_engine.specs.NamedChanges.{name_at, module_change_seen, AreOthers, AreChanged, IsChangeOf, AreTaken}
use Rattle.ash_engine.specs.LiveSteps.{TakesStep}
use Rattle.ash_engine.specs.RankedSources.{ReadsRanked}
use Rattle.ash_engine.specs.TableRuns.{SaysOfCall}
use Rattle.ash_engine.specs.TableStates.{slots_of, names_of, IsCompiledFrom, durable_seen}
use Rattle.ash_engine.specs.TableStates.{live_seen, IsLive}
use Rattle.ash_engine.specs.TableTasks.{codes_of, IsAsked}
use Rattle.ash_engine.proofs.Admitted.{step_admitted}
use Rattle.ash_engine.proofs.AnsweredSteps.{IsShown, HasNames, taken, still_admitted, still_fit, still_kinds, still_held, still_settled, still_listable}
use Rattle.ash_engine.proofs.CallEnds.{called_so}
use Rattle.ash_engine.proofs.ChangedModules.{held_after, updated_names}
use Rattle.ash_engine.proofs.GivenAnswers.{answers_fit}
use Rattle.ash_engine.proofs.LoadEnds.{answered_with}
use Rattle.ash_engine.proofs.NamedSlots.{names_same, contains_at}
use Rattle.ash_engine.proofs.Others.{none_other}
use Rattle.ash_engine.proofs.RemovedModules.{set_own}
use Rattle.ash_engine.proofs.RunSettings.{names_for}
use Rattle.ash_engine.proofs.TableCalls.{CallSteps, Takes, call_steps, hosts_of}

-- modules with their code, in their places

pub slots_from : (cs ds : List Compiled) → codes_of cs ≡ codes_of ds → slots_of cs ≡ slots_of ds
slots_from cs ds same = mapped_codes cs ∙ ap (map (λ (c : CodeParts). c.module)) same ∙ sym (mapped_codes ds)
  where
    mapped_codes : (cs : List Compiled) → slots_of cs ≡ map (λ (c : CodeParts). c.module) (codes_of cs)
    mapped_codes [] = refl
    mapped_codes (c ∷ cs) = ap (λ (l : List ℕ). c.code.module ∷ l) (mapped_codes cs)

pub still_compiled : (ms : List code_module.LoadedModule) (cs ds : List Compiled) → AllZip IsCompiledFrom ms cs
    → codes_of ds ≡ codes_of cs → AllZip IsCompiledFrom ms ds
still_compiled [] [] [] each same = tt
still_compiled [] [] (d ∷ ds) each same = absurd (cc)
still_compiled [] (c ∷ cs) ds each same = absurd each
still_compiled (m ∷ ms) [] ds each same = absurd each
still_compiled (m ∷ ms) (c ∷ cs) [] each same = absurd (cc)
still_compiled (m ∷ ms) (c ∷ cs) (d ∷ ds) each same =
    let one : d.code ≡ c.code = cc in
    let rest : codes_of ds ≡ codes_of cs = cc in
    (λ x context tree. rw one (each.0 x context tree), still_compiled ms cs ds each.1 rest)

pub set_compiled : (ms : List code_module.LoadedModule) (cs : List Compiled) (place : ℕ)
    (m new : code_module.LoadedModule) → AllZip IsCompiledFrom ms cs
    → slice_get ms place ≡ Some m → new.tree ≡ m.tree → AllZip IsCompiledFrom (set ms place new) cs
set_compiled [] cs place m new each at tree = absurd (cc)
set_compiled (x ∷ ms) [] place m new each at tree = absurd each
set_compiled (x ∷ ms) (c ∷ cs) zero m new each at tree =
    let one : x ≡ m = cc in (
      λ context known is. each.0 context known (is ∙ ap module_of
          (tree ∙ ap (λ (y : code_module.LoadedModule). y.tree) (sym one))),
      each.1,
    )
set_compiled (x ∷ ms) (c ∷ cs) (suc place) m new each at tree = (each.0, set_compiled ms cs place m new each.1 at tree)

-- a source that is read is read as one tree
same_Ok : {A F : Type 0} (x y : A) → ◌≡◌ {A = Result A F} (Ok x) (Ok y) → x ≡ y
same_Ok x y e = cc

-- past the words there are none, so none that differ
only_within : (before after : List Word) (places : List ℕ) → length after ≡ length before
    → AreOthers before after places → (place : ℕ)
    → Contains places place ↔ (slice_get after place ≢ slice_get before place)
only_within before after places many others place = (
  λ is. ((others place).0 is).1,
  λ differ. ⊎_elim (λ within. (others place).1 (within, differ))
      (λ past. absurd (differ (slice_get_past after place (omega (arith, many, past))
      ∙ sym (slice_get_past before place past)))) (cases_lt place (length before)),
)

-- a module as the definitions have it, in its place
pub seen_at : (ms : List code_module.LoadedModule) (place : ℕ) (m : code_module.LoadedModule)
    → slice_get ms place ≡ Some m → slice_get (modules_seen ms) place ≡ Some (loaded_seen m)
seen_at ms place m at = slice_get-map loaded_seen ms place ∙ ap (option_map loaded_seen) at

module _ {B : Type 0} (G : Ghosts B) (live : Live B) (call : Invocation) (asked : IsAsked G live (tasks.Invoke call))
    (ranked : ReadsRanked (offered_to asked.registered) (embedding_for asked.registered)) where
  abbrev ms : List code_module.LoadedModule
  ms = live.loaded.modules.items

  abbrev registered : List Registration
  registered = asked.registered

  abbrev durable : HostState
  durable = durable_seen G registered live

  abbrev slots : List ℕ
  slots = slots_of live.compiled.items

  abbrev embedding : Embedding SourceFault
  embedding = embedding_for registered

  -- the module that is called, and the task
  pub asked_module : (m : code_module.LoadedModule) × (slice_get ms call.module ≡ Some m)
      × (Invoke (loaded_seen m) (module_of m.tree) call.function call.args.items ≡ asked.one)
  asked_module = mapped (λ (m : code_module.LoadedModule). Invoke (loaded_seen m)
      (module_of m.tree) call.function call.args.items) (slice_get ms call.module) asked.one asked.seen

  module _ (budget : ℕ) (m : code_module.LoadedModule) (at : slice_get ms call.module ≡ Some m)
      (one : Invoke (loaded_seen m) (module_of m.tree) call.function call.args.items ≡ asked.one)
      (parts : Parts B) (left : Left B) (code : CodeParts) (in_slot : slice_get slots call.module ≡ Some code.module)
      (compiled : (c : Context) → IsContext c → (c.program).tree ≡ module_of m.tree → IsCodeOf code c)
      (takes : Takes live.table m.globals.items (handles
      (globals_of (without_module (loaded_seen m).name (modules_seen ms)))) parts)
      (says : SaysOfCall G code parts call.function call.args.items budget left) where
    is_task : IsTask embedding durable.state (Invoke (loaded_seen m) (module_of m.tree) call.function call.args.items)
    is_task = subst (IsTask embedding durable.state) (sym one)
        (task_is embedding durable.state asked.request asked.one asked.is)

    -- what the run left is in the live state, which has the names of what it changed
    pub record IsAfterCall (new : Live B) : Type 0 where
      pub changed : code_module.LoadedModule
      pub same : changed ≡ record m { globals = changed.globals }
      pub globals : changed.globals.items ≡ left.parts.globals.items
      pub modules : new.loaded.modules.items ≡ set ms call.module changed
      pub seq : new.loaded.seq ≡ live.loaded.seq + 1
      pub codes : codes_of new.compiled.items ≡ codes_of live.compiled.items
      pub table : new.table ≡ without_marks left.parts.table
      pub change : ModuleChange
      pub is_change : IsChangeOf call.module m.globals.items left.parts.globals.items change
      pub taken_so : AreTaken left.parts.events.items change left.parts.table new.changes

    module _ (o : run_outcome.Outcome) (new : Live B)
        (after : IsAfterCall new)
        (held : HoldsRoots left.parts.table (left.parts.outside.items ++ handles left.parts.globals.items)) where
      abbrev end : End
      end = end_said (names_for (names_of live) (module_of m.tree)) o

      abbrev changed_modules : List LoadedModule
      changed_modules = update_globals (loaded_seen m).name left.parts.globals.items (modules_seen ms)

      abbrev reached : HostState
      reached = record {
        registered = registered;
        state = state_shown G changed_modules slots
            (live.loaded.seq + 1) left.parts.table;
      }

      modules_set : modules_seen (set ms call.module after.changed) ≡ changed_modules
      modules_set = seen_set ms call.module m after.changed ((asked.live).consistent).ascending at after.same
          ∙ ap (λ (ws : List Word). update_globals (loaded_seen m).name ws (modules_seen ms)) after.globals

      shown : IsShown new changed_modules slots (live.loaded.seq + 1) left.parts.table
      shown = record {
        modules_are = ap modules_seen after.modules ∙ modules_set;
        slots_are = slots_from new.compiled.items live.compiled.items after.codes;
        seq_is = after.seq;
        table_is = after.table;
      }

      -- the module is in its place
      was_there : slice_get (modules_seen ms) call.module ≡ Some (loaded_seen m)
      was_there = seen_at ms call.module m at

      now_there : slice_get changed_modules call.module ≡ Some (loaded_seen after.changed)
      now_there = ap (λ (l : List LoadedModule). slice_get l call.module) (sym modules_set)
          ∙ seen_at (set ms call.module after.changed) call.module after.changed
          (got_set ms call.module m after.changed at)

      name_is : (at : ℕ) → at ≡ call.module → name_at changed_modules at ≡ (loaded_seen m).name
      name_is at of_module = ap (name_at changed_modules) of_module
          ∙ ap (λ (x : Option LoadedModule). option_map_or (λ (y : LoadedModule). y.name) x []) now_there
          ∙ ap (λ (x : code_module.LoadedModule). (loaded_seen x).name) after.same

      module _ (ran : CallSteps embedding (offered_to registered) (read_sound registered) ranked G
          (modules_seen ms) slots live.loaded.seq live.table
          budget (loaded_seen m) (module_of m.tree) call.function call.args.items o left.parts) where
        hosts_fit : AreHosts (hosts_of G live.table ran.records)
        hosts_fit = record {
          pool = (asked.live).fit;
          answers = answers_fit G ran.records live.table left.parts.table []
              left.parts.events.items ran.gave;
        }

        step_is : steps.step embedding budget asked.request durable.state (hosts_of G live.table ran.records)
            ≡ Some (answered_with G live.loaded.seq end left.parts.events.items changed_modules slots left.parts.table)
        step_is = ap (λ (d : TaskResult SourceFault). unless_refused budget d durable.state
            (hosts_of G live.table ran.records))
            (asked.is ∙ ap (λ (t : Task). Ok t) (sym one))
            ∙ called_so embedding (offered_to registered) (read_sound registered) ranked G
            (modules_seen ms) slots live.loaded.seq live.table budget (loaded_seen m)
            (module_of m.tree) call.function call.args.items o left.parts ran

        kept : IsAdmitted reached × AreHosts (hosts_of G left.parts.table [])
        kept = step_admitted budget asked.request durable (hosts_of G live.table ran.records) _
            (asked.live).admitted hosts_fit (performed step_is)

        -- the module has as many globals as before
        as_many : length left.parts.globals.items ≡ length m.globals.items
        as_many =
            let was = rec_of (IsLoaded embedding (durable.state).objects) (modules_seen ms)
            (((asked.live).admitted).formed).loaded (loaded_seen m)
            (contains_at (modules_seen ms) call.module (loaded_seen m) was_there) in
            let now = rec_of (IsLoaded embedding (reached.state).objects) changed_modules ((kept.0).formed).loaded
            (loaded_seen after.changed)
            (contains_at changed_modules call.module (loaded_seen after.changed) now_there) in
            let source : (loaded_seen after.changed).source ≡ (loaded_seen m).source =
            ap (λ (x : code_module.LoadedModule). (loaded_seen x).source) after.same in
            let read : embedding.read (loaded_seen m).source ≡ Ok now.tree = ap embedding.read (sym source) ∙ now.is in
            let same : now.tree ≡ was.tree = same_Ok now.tree was.tree (sym read ∙ was.is) in
            ap (length {A = Word}) (sym after.globals)
            ∙ values_length now.values
            ∙ ap (λ (t : Module). length (types_of_globals t.globals)) same
            ∙ sym (values_length was.values)

        -- the module is what it was, if no global holds another word
        none_changed : AreOthers m.globals.items left.parts.globals.items [] → changed_modules ≡ modules_seen ms
        none_changed none =
            ap (λ (ws : List Word). update_globals (loaded_seen m).name ws (modules_seen ms))
            (none_other m.globals.items left.parts.globals.items as_many none)
            ∙ sym (globals_set (modules_seen ms) call.module (loaded_seen m) m.globals.items
            ((asked.live).consistent).ascending was_there)
            ∙ set_own (modules_seen ms) call.module (loaded_seen m) was_there

        globals_are : (globals : ChangedGlobals) → AreChanged call.module m.globals.items left.parts.globals.items globals
            → HoldOthers (loaded_seen m).name globals.places.items (modules_seen ms) changed_modules
        globals_are globals are = record {
          was = loaded_seen m;
          words = left.parts.globals.items;
          named = refl;
          many = as_many;
          some = are.some;
          others = only_within m.globals.items left.parts.globals.items globals.places.items as_many are.others;
          there = contains_at (modules_seen ms) call.module (loaded_seen m) was_there;
          changed = refl {A = List LoadedModule};
        }

        abbrev change_seen : ModuleChange → named.ModuleChange
        change_seen change = module_change_seen changed_modules change

        modules_change : (change : ModuleChange) → IsChangeOf call.module m.globals.items left.parts.globals.items change
            → IsModuleChange (change_seen change) (modules_seen ms) changed_modules × IsListableChange (change_seen change)
        modules_change changes.Unchanged none = (none_changed none, tt)
        modules_change (changes.Globals globals) are = (
          subst (λ (n : List ℕ). HoldOthers n globals.places.items (modules_seen ms) changed_modules)
              (sym (name_is globals.module are.of_module)) (globals_are globals are),
          are.rise,
        )
        modules_change (changes.Loaded place) never = absurd never
        modules_change (changes.Discarded name) never = absurd never

        none_discarded : (change : ModuleChange) → IsChangeOf call.module m.globals.items left.parts.globals.items change
            → (name : List ℕ) → change_seen change ≡ named.Discarded name → ⊥
        none_discarded changes.Unchanged none name is = cc
        none_discarded (changes.Globals globals) are name is = cc
        none_discarded (changes.Loaded place) never name is = never
        none_discarded (changes.Discarded other) never name is = never

        has : HasNames G live new left.parts.events.items changed_modules slots left.parts.table
        has = record {
          change = after.change;
          taken_so = after.taken_so;
          change_is = (modules_change after.change after.is_change).0;
          listable = (modules_change after.change after.is_change).1;
          discards = λ name is number marked. none_discarded after.change after.is_change name is;
          names = names_of live;
          shown_before = refl;
          same_names = λ number. ap (λ (names : SlotNames). object_at number (objects_shown G names left.parts.table.objects))
              (names_same changed_modules (modules_seen ms) slots
              (updated_names (loaded_seen m).name left.parts.globals.items (modules_seen ms)));
        }

        pub call_taken : TakesStep G budget asked.request (live_seen G registered live)
            (replies.Answered end (live.loaded.seq + 1) left.parts.events.items) (live_seen G registered new)
        call_taken = taken G registered asked.request budget live asked.live end left.parts.events.items changed_modules
            slots left.parts.table ran.records ran.gave step_is new shown has

        pub call_live : IsLive G registered new
        call_live = record {
          admitted = still_admitted G registered asked.request budget live asked.live end left.parts.events.items
              changed_modules slots left.parts.table ran.records ran.gave step_is new shown has;
          consistent = subst (AreConsistent embedding) (sym after.modules)
              (consistent_set embedding ms call.module m after.changed (asked.live).consistent at after.same);
          compiled = record {
            each = subst (λ (l : List code_module.LoadedModule). AllZip IsCompiledFrom l new.compiled.items)
                (sym after.modules)
                (still_compiled (set ms call.module after.changed) live.compiled.items new.compiled.items
                (set_compiled ms live.compiled.items call.module m after.changed ((asked.live).compiled).each at
                (ap (λ (x : code_module.LoadedModule). x.tree) after.same)) after.codes);
            apart = subst (IsDistinct nat_eq) (sym shown.slots_are) ((asked.live).compiled).apart;
          };
          held = still_held G registered asked.request budget live asked.live end left.parts.events.items
              changed_modules slots left.parts.table ran.records ran.gave step_is new shown has
              (held_after left.parts.table left.parts.outside.items left.parts.globals.items
              (modules_seen ms) call.module (loaded_seen m)
              ((((asked.live).admitted).formed).ascending) was_there ran.outside held);
          kinds = still_kinds G registered asked.request budget live asked.live end left.parts.events.items
              changed_modules slots left.parts.table ran.records ran.gave step_is new shown has;
          fit = still_fit G registered asked.request budget live asked.live end left.parts.events.items
              changed_modules slots left.parts.table ran.records ran.gave step_is new shown has;
          settled = still_settled G registered asked.request budget live asked.live end left.parts.events.items
              changed_modules slots left.parts.table ran.records ran.gave step_is new shown has;
          listable = still_listable G registered asked.request budget live asked.live end left.parts.events.items
              changed_modules slots left.parts.table ran.records ran.gave step_is new shown has;
        }

    -- the answer of a call, once the machine has said how the run ended
    pub call_answered : (o : run_outcome.Outcome) (new : Live B) → left.outcome ≡ Ok o
        → IsAfterCall new
        → HoldsRoots left.parts.table (left.parts.outside.items ++ handles left.parts.globals.items)
        → TakesStep G budget asked.request (live_seen G registered live)
        (replies.Answered (end_said (names_for (names_of live) (module_of m.tree)) o)
        (live.loaded.seq + 1) left.parts.events.items) (live_seen G registered new)
        × IsLive G registered new
    call_answered o new e after held = from is_task
      where
        from : IsTask embedding durable.state (Invoke (loaded_seen m) (module_of m.tree) call.function call.args.items)
            → TakesStep G budget asked.request (live_seen G registered live)
            (replies.Answered (end_said (names_for (names_of live) (module_of m.tree)) o)
            (live.loaded.seq + 1) left.parts.events.items) (live_seen G registered new)
            × IsLive G registered new
        from (calls {f = f} given_args found is there given numbered) =
            let ran = call_steps embedding (offered_to registered) (read_sound registered) ranked G
            (modules_seen ms) slots live.loaded.seq live.table
            ((asked.live).admitted).formed (asked.live).fit ((asked.live).compiled).apart call.module (loaded_seen m)
            (module_of m.tree) code (seen_at ms call.module m at) in_slot
            compiled found is budget call.function f given_args call.args.items there given parts left takes says o e in
            (call_taken o new after held ran, call_live o new after held ran)
