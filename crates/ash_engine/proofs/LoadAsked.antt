-- A load that is asked for: what its run begins with, and what it comes to.
use Rattle.std.proofs.Common.{◌≡◌, ◌<◌, ◌≤◌, ℕ, List, [], ◌∷◌, ◌++◌, length, map, refl, sym, ap, ◌∙◌, subst, inr, arith}
use Rattle.std.specs.Prelude.{Option, None, Result, Ok, Err, Contains, string_bytes}
use Rattle.std.specs.List.{cons_option}
use Rattle.std.proofs.lemmas.List.{append-nil}
use Rattle.std.proofs.lemmas.Option.{same_Some}
use Rattle.std.proofs.lemmas.Slice.Zip.{AllZip-long}
use Rattle.ash_host.specs.declared.host_object.HostObject.{Ghosts}
use Rattle.ash_host.specs.declared.word.Word.{Word}
use Rattle.ash_host.specs.Objects.{handle, handles}
use Rattle.ash_integers.specs.declared.int_type.IntType.TheVariants as ints
use Rattle.ash_typed.specs.declared.types.VarType.{VarType}
use Rattle.ash_typed.specs.declared.types.VarType.TheVariants as vars
use Rattle.ash_typed.specs.declared.tree.items.Module as code_tree
use Rattle.ash_typed.specs.Modules.{module_of}
use Rattle.ash_typed.specs.Signatures.{types_of_globals}
use Rattle.ash_meaning.specs.OperatorMeaning.{zero_of}
use Rattle.ash_objects.specs.Table.{Table, holds_of}
use Rattle.ash_run_steps.specs.declared.beginning.Parts.{Parts}
use Rattle.ash_run_steps.specs.RunStates.{HoldsRoots, times}
use Rattle.ash_run_steps.proofs.Roots.{times_append}
use Rattle.ash_code.specs.declared.code.CodeParts.{CodeParts}
use Rattle.ash_code.specs.CompiledCode.{IsCodeOf}
use Rattle.ash_context.specs.declared.context.Left.{Left}
use Rattle.ash_context.specs.declared.outcome.Outcome.TheVariants as outcomes
use Rattle.ash_context.specs.declared.outcome.RunFault.TheVariants as faults
use Rattle.ash_requests.specs.declared.step_error.StepError.{StepError}
use Rattle.ash_requests.specs.RequestViews.{reply_seen}
use Rattle.ash_requests.specs.Requests.{NoMemory as NoMemoryRefusal, Refused}
use Rattle.ash_requests.specs.States.{globals_of}
use Rattle.ash_requests.specs.Tasks.{Task, TaskResult, Initialize, max_seq}
use Rattle.ash_soundness.proofs.Asked.{IsTask, initializes, task_is}
use Rattle.ash_sources.specs.SourceFaults.{SourceFault, fault_of}
use Rattle.ash_plain_steps.specs.declared.state.LoadedModule as code_module
use Rattle.ash_plain_steps.specs.declared.task.NewModule.{NewModule}
use Rattle.ash_plain_steps.specs.declared.task.Task.TheVariants as tasks
use Rattle.ash_plain_steps.specs.StateViews.{modules_seen}
use Rattle.ash_states.specs.HostStates.{embedding_for}
use Rattle.ash_states.specs.StateSteps.{task_of, TaskRunsCode}
use Rattle.ash_engine.specs.declared.live.Compiled.{Compiled}
use Rattle.ash_engine.specs.declared.live.Live.{Live}
use Rattle.ash_engine.specs.declared.loading.Prepared.{Prepared}
use Rattle.ash_engine.specs.declared.steps.LiveStep.{LiveStep}
use Rattle.ash_engine.specs.TableRuns.{SaysOfLoad, IsKeptAtOnce, IsPrepared}
use Rattle.ash_engine.specs.TableSteps.{IsStepOf}
use Rattle.ash_engine.specs.TableStates.{slots_of, roots_of, IsCompiledFrom, durable_seen, live_seen, IsLive}
use Rattle.ash_engine.specs.TableTasks.{IsAsked}
use Rattle.ash_engine.proofs.Loaded.{IsLeft, at_once, loaded, rest_of}
use Rattle.ash_engine.proofs.Looked.{ran_out}
use Rattle.ash_engine.proofs.ReadRanks.{read_ranked}
use Rattle.ash_engine.proofs.TableCalls.{Takes}

-- globals that are not yet initialized hold nothing

zero_is_no_handle : (of : VarType) → handle (zero_of of) ≡ None
zero_is_no_handle vars.Bool = refl
zero_is_no_handle (vars.Integer ints.Int) = refl
zero_is_no_handle (vars.Integer ints.Uint) = refl
zero_is_no_handle (vars.Integer ints.Int64) = refl
zero_is_no_handle (vars.Integer ints.Uint64) = refl
zero_is_no_handle (vars.Object of) = refl
zero_is_no_handle (vars.Handle of) = refl

pub zeros_hold_nothing : (types : List VarType) → handles (map zero_of types) ≡ []
zeros_hold_nothing [] = refl
zeros_hold_nothing (of ∷ types) = (λ i. cons_option (zero_is_no_handle of i) (zeros_hold_nothing types i))

-- what globals hold is held in the table
pub held_by_globals : {B : Type 0} (table : Table B) (outside : List ℕ) (globals : List Word)
    → HoldsRoots table (outside ++ handles globals)
    → (number : ℕ) → times number (handles globals) ≤ holds_of number table
held_by_globals table outside globals held number = omega
    (arith, held number, times_append number outside (handles globals))

module _ {B : Type 0} (G : Ghosts B) (live : Live B) (new : NewModule) (asked : IsAsked G live (tasks.Initialize new))
  where
    abbrev new_task : Task
    new_task = Initialize new.name.now new.source.now (module_of new.tree)

    one_is : new_task ≡ asked.one
    one_is = same_Some new_task asked.one asked.seen

    task_found : task_of asked.request (durable_seen G asked.registered live) ≡ Ok new_task
    task_found = asked.is ∙ ap (λ (t : Task). let found : TaskResult SourceFault = Ok t in found) (sym one_is)

    -- a sequence number is left
    pub number_left : live.loaded.seq < max_seq
    number_left = from (task_is (embedding_for asked.registered) (durable_seen G asked.registered live).state
        asked.request new_task task_found)
      where
        from : IsTask (embedding_for asked.registered) (durable_seen G asked.registered live).state new_task
            → live.loaded.seq < max_seq
        from (initializes good is free few numbered) = numbered

    -- each module has code
    pub as_many : length live.compiled.items ≡ length live.loaded.modules.items
    as_many = AllZip-long IsCompiledFrom live.loaded.modules.items live.compiled.items ((asked.live).compiled).each

    -- Memory was refused before the run began.
    pub load_refused : (budget : ℕ) (one : LiveStep B) → reply_seen fault_of one.reply ≡ Refused NoMemoryRefusal
        → one.live ≡ live
        → IsStepOf G asked.registered budget asked.request live (Ok one)
    load_refused budget one refused same = (
      inr (ran_out G asked.registered live asked.request new_task (reply_seen fault_of one.reply) one.live task_found tt
          refused (ap (live_seen G asked.registered) same)),
      subst (IsLive G asked.registered) (sym same) asked.live,
    )

    module _ (prepared : Prepared) (ready : IsPrepared new live prepared) where
      -- each object is held as often as the run begins with
      pub held_first : (words : List Word) → words ≡ prepared.new_module.globals.items
          → HoldsRoots live.table (prepared.outside.items ++ handles words)
      held_first words same number =
          let none : handles words ≡ [] = ap handles (same ∙ ready.zeros)
          ∙ zeros_hold_nothing (types_of_globals (module_of new.tree).globals) in
          (asked.live).held number
          ∙ ap (times number) (sym ready.outside ∙ sym (append-nil prepared.outside.items)
          ∙ ap (λ (l : List ℕ). prepared.outside.items ++ l) (sym none))

      module _ (m : code_module.LoadedModule) (name : m.name ≡ prepared.new_module.name)
          (source : m.source ≡ prepared.new_module.source) (tree : m.tree ≡ prepared.new_module.tree)
          (c : Compiled) (code : c.code ≡ prepared.compiled.code) (parts : Parts B) (table : parts.table ≡ live.table)
          (globals : parts.globals.items ≡ prepared.new_module.globals.items)
          (outside : parts.outside.items ≡ prepared.outside.items) (events : parts.events.items ≡ []) where
        tree_is : m.tree ≡ new.tree
        tree_is = tree ∙ ready.tree

        asked_as : task_of asked.request (durable_seen G asked.registered live) ≡ Ok
            (Initialize (string_bytes m.name) m.source.items (module_of m.tree))
        asked_as = task_found
            ∙ (λ i. Ok (Initialize (sym (ap (λ (s : _). string_bytes s) name ∙ ready.name) i)
            (sym (ap (λ (v : _). v.items) source ∙ ready.source) i) (module_of (sym tree_is i))))

        fresh : Contains (slots_of live.compiled.items) c.code.module → ⊥
        fresh there = ready.fresh (subst (λ (p : CodeParts). Contains (slots_of live.compiled.items) p.module) code there)

        compiled : IsCompiledFrom m c
        compiled x context is = subst (λ (p : CodeParts). IsCodeOf p x) (sym code) (ready.compiled x context (is
            ∙ ap module_of tree))

        takes : Takes live.table (map zero_of (types_of_globals (module_of m.tree).globals))
            (handles (globals_of (modules_seen live.loaded.modules.items))) parts
        takes = record {
          same_table = table;
          same_globals = globals ∙ ready.zeros
              ∙ ap (λ (t : code_tree.Module). map zero_of (types_of_globals (module_of t).globals)) (sym tree_is);
          same_outside = outside ∙ ready.outside;
          no_events = events;
        }

        -- A module without globals is kept at once, or not for want of memory.
        pub load_at_once : (budget : ℕ) → (module_of m.tree).globals ≡ [] → (one : LiveStep B)
            → IsKeptAtOnce (rest_of live) m c parts one → IsStepOf G asked.registered budget asked.request live (Ok one)
        load_at_once budget none one l =
            at_once G asked.registered asked.request budget live asked.live (read_ranked asked.registered) m asked_as c
            fresh compiled (record { parts = parts; outcome = Ok (outcomes.Finished None) })
            (subst (λ (t : Table B). HoldsRoots t (parts.outside.items ++ handles parts.globals.items)) (sym table)
            (subst (λ (ns : List ℕ). HoldsRoots live.table (ns ++ handles parts.globals.items)) (sym outside)
            (held_first parts.globals.items globals)))
            parts takes refl none one l

        -- What the run leaves is a step.
        pub load_stepped : ((module_of m.tree).globals ≡ [] → ⊥) → (budget : ℕ) (left : Left B) → SaysOfLoad G prepared.compiled.code parts budget left
            → (left.outcome ≡ Err faults.NotBegun → left.parts ≡ parts)
            → HoldsRoots left.parts.table (left.parts.outside.items ++ handles left.parts.globals.items)
            → (result : Result (LiveStep B) StepError) → IsLeft live m c left result
            → IsStepOf G asked.registered budget asked.request live result
        load_stepped some budget left says unchanged held result l =
            loaded G asked.registered asked.request budget live asked.live (read_ranked asked.registered) m asked_as c
            fresh compiled left held parts takes
            (subst (λ (p : CodeParts). SaysOfLoad G p parts budget left) (sym code) says)
            (subst (λ (d : TaskResult SourceFault). TaskRunsCode d) (sym asked_as) some)
            (λ none. ap (λ (p : Parts B). p.table) (unchanged none) ∙ table) result l
