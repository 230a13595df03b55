-- A call that the machine ran over the table is that of the step.
use Rattle.std.proofs.Common.{◌≡◌, ◌<◌, ℕ, List, [], length, map, find, refl, sym, ap, ◌∙◌, subst, slice_get, nat_eq, arith}
use Rattle.std.specs.Prelude.{Option, Some, None, Result, Ok, Err, option_map}
use Rattle.std.specs.List.{AllByRecursion, IsDistinct}
use Rattle.std.specs.Option.{option_and_then}
use Rattle.ash_host.specs.declared.host_object.HostObject.{Ghosts}
use Rattle.ash_host.specs.declared.event.Event.{Event}
use Rattle.ash_host.specs.declared.word.Word.{Word}
use Rattle.ash_host.specs.Objects.{handles}
use Rattle.ash_host.specs.Records.{HostRecord}
use Rattle.ash_typed.specs.Modules.{Function, Module}
use Rattle.ash_typed.specs.Signatures.{HostSignatures}
use Rattle.ash_meaning.specs.Activity.{FreeBox, World}
use Rattle.ash_meaning.specs.Classes.{Entry, FreeFunction, entry_of, entry_of_function}
use Rattle.ash_meaning.specs.Ends.{Outcome, call_entry, call_function}
use Rattle.ash_objects.specs.Table.{Table}
use Rattle.ash_object_ranks.specs.ObjectRanks.{ClassRanks}
use Rattle.ash_run_steps.specs.declared.beginning.Parts.{Parts}
use Rattle.ash_run_steps.specs.Becoming.{Gave}
use Rattle.ash_run_steps.specs.RunStates.{Names}
use Rattle.ash_run_steps.specs.Worlds as worlds
use Rattle.ash_requests.specs.declared.argument.Arg.{Arg}
use Rattle.ash_code.specs.declared.code.CodeParts.{CodeParts}
use Rattle.ash_code.specs.CompiledCode.{IsCodeOf, IsSetFor, env_of, first_of_function}
use Rattle.ash_code.specs.Performing.{Setting}
use Rattle.ash_requests.specs.States.{LoadedModule, State, Hosts, Embedding, find_module, globals_of, without_module, world_of}
use Rattle.ash_requests.specs.Steps.{Step, after_call, perform}
use Rattle.ash_requests.specs.Tasks.{Invoke, arguments_of}
use Rattle.ash_requests.specs.Premises.{ReadsSound}
use Rattle.ash_soundness.specs.WellFormed.{Context, IsContext, AreValues, AreAnswers, IsWellFormed, IsState, no_this, no_frames}
use Rattle.ash_soundness.specs.WellFormedStates.{AreHosts, IsWellFormedState, known_of}
use Rattle.ash_soundness.proofs.Asked.{IsTask, calls}
use Rattle.ash_soundness.proofs.Called.{world_before}
use Rattle.ash_soundness.proofs.Ends.{runs_keep}
use Rattle.ash_soundness.proofs.Left.{known_some}
use Rattle.ash_soundness.proofs.Stepped.{arguments_values}
use Rattle.ash_soundness.proofs.Triples.{follows_itself}
use Rattle.ash_soundness.proofs.Values.{none_in}
use Rattle.ash_context.specs.declared.context.Left.{Left}
use Rattle.ash_context.specs.declared.outcome.Outcome as run_outcome
use Rattle.ash_context.specs.declared.outcome.RunFault.{RunFault}
use Rattle.ash_context.specs.declared.outcome.RunFault.TheVariants as faults
use Rattle.ash_context.specs.Outcomes.{Leads, Says, end_said, world_in}
use Rattle.ash_engine.specs.TableRuns.{SaysOfCall, uncounted}
use Rattle.ash_engine.specs.RankedSources.{ReadsRanked}
use Rattle.ash_table_states.specs.TableStates.{names_in, state_shown}
use Rattle.ash_engine.proofs.GivenAnswers.{answers_fit}
use Rattle.ash_engine.proofs.KnownRanks.{class_ranks, known_sound, known_ranked}
use Rattle.ash_engine.proofs.NamedSlots.{named_at, alone}
use Rattle.ash_engine.proofs.RunSettings.{names_for, setting, is_set}

-- a free box as plain data
abbrev pub free_box : {B : Type 0} → Ghosts B → B → FreeBox
free_box G box = record { kind = G.kind_of box; state = G.state box }

-- what hosts bring: the free boxes of a table, and answers
abbrev pub hosts_of : {B : Type 0} → Ghosts B → Table B → List HostRecord → Hosts
hosts_of G table answers = record { pool = map (free_box G) table.pool; answers = answers }

-- what free boxes have fits
abbrev pub PoolFits : {B : Type 0} → Ghosts B → Table B → Type 0
PoolFits G table = AllByRecursion (λ (box : FreeBox). IsState box.state) (map (free_box G) table.pool)

-- a run takes the table, these globals, what is held outside, and has no events yet
pub record Takes {B : Type 0} (table : Table B) (globals : List Word) (outside : List ℕ) (parts : Parts B) : Type 0 where
  pub same_table : parts.table ≡ table
  pub same_globals : parts.globals.items ≡ globals
  pub same_outside : parts.outside.items ≡ outside
  pub no_events : parts.events.items ≡ []

module _ {Fault : Type 0} (embedding : Embedding Fault) (host : HostSignatures) (sound : ReadsSound host embedding) (ranked : ReadsRanked host embedding) {B : Type 0} (G : Ghosts B)
    (ms : List LoadedModule) (slots : List ℕ) (seq : ℕ) (table : Table B) where
  abbrev state : State
  state = state_shown G ms slots seq table

  -- The step of a call, by answers that boxes gave: what the machine left is what it leaves.
  pub record CallSteps (budget : ℕ) (m : LoadedModule) (tree : Module) (function : ℕ) (args : List Word) (outcome : run_outcome.Outcome) (new : Parts B) : Type 0 where
    pub records : List HostRecord
    pub gave : Gave G records table [] new.table new.events.items
    pub stepped : perform {Fault = Fault} budget (Invoke m tree function args) state (hosts_of G table records)
        ≡ Some (after_call m state (record {
          end = end_said (names_for (names_in ms slots) tree) outcome;
          world = world_in G (names_for (names_in ms slots) tree) [] new;
        }))
    pub outside : new.outside.items ≡ handles (globals_of (without_module m.name ms))

  module _ (h : IsWellFormedState embedding host state) (fit : PoolFits G table) (apart : IsDistinct nat_eq slots)
      (place : ℕ) (m : LoadedModule) (tree : Module) (code : CodeParts) (at : slice_get ms place ≡ Some m) (in_slot : slice_get slots place ≡ Some code.module)
      (compiled : (c : Context) → IsContext c → (c.program).tree ≡ tree → IsCodeOf code c)
      (found : find_module m.name state ≡ Some m) (is : embedding.read m.source ≡ Ok tree) where
    abbrev others : List LoadedModule
    others = without_module m.name ms

    abbrev before : List HostRecord → World
    before records = world_of m.globals others state (hosts_of G table records)

    abbrev context : List HostRecord → Context
    context records = record { host = host; program = record { name = m.name; tree = tree }; modules = known_of embedding ms; began = before records }

    is_context : (records : List HostRecord) → IsContext (context records)
    is_context records = record { known = known_some embedding ms m tree found is; sound = sound m.source tree is }

    hosts_fit : (records : List HostRecord) → AreAnswers records → AreHosts (hosts_of G table records)
    hosts_fit records answers = record { pool = fit; answers = answers }

    abbrev names : Names
    names = names_for (names_in ms slots) tree

    owner : names_in ms slots code.module ≡ m.name
    owner = named_at ms slots place code.module m apart at in_slot

    abbrev the_setting : Setting
    the_setting = setting code (names_in ms slots) tree (known_of embedding ms) (class_ranks embedding host ranked ms) (alone ms slots place code.module m apart h.ascending h.valid at in_slot)

    set_for : (records : List HostRecord) → IsSetFor code (context records) the_setting
    set_for records = is_set code (names_in ms slots) (context records) (class_ranks embedding host ranked ms) (alone ms slots place code.module m apart h.ascending h.valid at in_slot)
        owner (compiled (context records) (is_context records) refl) (known_sound embedding host sound ms) (known_ranked embedding host ranked ms)

    begins_well : (budget : ℕ) (f : Function) (args : List Word) → AreValues (context []).program state.objects f.parameters args
        → IsWellFormed (context []) (env_of (context []) f.parameters) [] (first_of_function f args budget (before []))
    begins_well budget f args values = record {
      world = world_before embedding host sound state (hosts_of G table []) h (hosts_fit [] tt) m tree found is;
      since = follows_itself (before []);
      frame = record { this = no_this; locals = values; held = record { each = λ n i. absurd (none_in n i) } };
      callers = no_frames;
      few = omega arith;
    }

    module _ (budget : ℕ) (function : ℕ) (f : Function) (asked : List Arg) (args : List Word) (there : slice_get tree.functions function ≡ Some f)
        (given : arguments_of f.parameters asked ≡ Some args) (parts : Parts B) (left : Left B)
        (takes : Takes table m.globals (handles (globals_of others)) parts) (says : SaysOfCall G code parts function args budget left) where
      values : (records : List HostRecord) → AreValues (context records).program state.objects f.parameters args
      values records = arguments_values f.parameters asked args given

      world_is : (records : List HostRecord) → world_in G names records parts ≡ before records
      world_is records = (λ i. worlds.world_of G names records (takes.same_table i) (takes.same_globals i) (takes.same_outside i) (takes.no_events i))

      abbrev run : World → Option Outcome
      run world = call_entry (context []).program args budget world (entry_of_function f)

      said : Says G names run uncounted parts left.outcome left.parts
      said = says (context []) the_setting f (is_context []) (compiled (context []) (is_context []) refl) (set_for []) there
          (subst (λ (w : World). IsWellFormed (context []) (env_of (context []) f.parameters) [] (first_of_function f args budget w)) (sym (world_is [])) (begins_well budget f args (values [])))

      led : (o : run_outcome.Outcome) → left.outcome ≡ Ok o → Leads G names run uncounted parts (end_said names o) left.parts
      led o e = subst (λ (r : Result run_outcome.Outcome RunFault). Says G names run uncounted parts r left.parts) e said

      pub never_unsound : left.outcome ≡ Err faults.Unsound → ⊥
      never_unsound e = subst (λ (r : Result run_outcome.Outcome RunFault). Says G names run uncounted parts r left.parts) e said

      pub call_steps : (o : run_outcome.Outcome) → left.outcome ≡ Ok o → CallSteps budget m tree function args o left.parts
      call_steps o e =
          let l = led o e in
          let end : Outcome = record { end = end_said names o; world = world_in G names [] left.parts } in
          let gave : Gave G l.records table [] left.parts.table left.parts.events.items =
          subst (λ (t : Table B). Gave G l.records t [] left.parts.table left.parts.events.items) takes.same_table
          (subst (λ (es : List Event). Gave G l.records parts.table es left.parts.table left.parts.events.items) takes.no_events l.gave) in
          let ran : call_function (context []).program function args budget (before l.records) ≡ Some end =
          ap (λ (x : Option Function). option_and_then (call_entry (context []).program args budget (before l.records)) (option_map entry_of_function x)) there
          ∙ ap run (sym (world_is l.records)) ∙ l.same in
          let fits = answers_fit G l.records table left.parts.table [] left.parts.events.items gave in
          let kept = runs_keep (is_context l.records) function f args budget (before l.records) end there
          (world_before embedding host sound state (hosts_of G table l.records) h (hosts_fit l.records fits) m tree found is) (follows_itself (before l.records)) (values l.records) ran in
          record {
            records = l.records;
            gave = gave;
            stepped = ap (option_map (after_call m state)) ran;
            outside = ((kept.0).since).outside;
          }
