-- Steps that change nothing: looks, refusals, and want of memory.
use Rattle.std.proofs.Common.{◌≡◌, ◌⊎◌, ℕ, List, [], ◌∙◌, refl, sym, ap, subst, inl, inr}
use Rattle.std.specs.Prelude.{Option, Some, None, Result, Ok, Err}
use Rattle.ash_host.specs.declared.host_object.HostObject.{Ghosts}
use Rattle.ash_host.specs.declared.event.Event.{Event}
use Rattle.ash_registry.specs.AcceptedRegistrations.{Registration}
use Rattle.ash_requests.specs.Requests.{Request, Load, Call, Discard, Get, Object, Seq, Snapshot, Refusal, Refused, NoMemory, NoModule, NoGlobal, Reply}
use Rattle.ash_requests.specs.States.{LoadedModule}
use Rattle.ash_host.specs.declared.word.Word.{Word}
use Rattle.ash_requests.specs.States.{find_module}
use Rattle.std.specs.Option.{option_and_then}
use Rattle.ash_requests.specs.Steps.{TakesMemory, replied, unless_refused}
use Rattle.ash_requests.specs.StepLaws.{events_of_reply}
use Rattle.ash_requests.specs.TaskResults.{TaskChangesState}
use Rattle.ash_requests.specs.Tasks.{Task, TaskResult, require_some, Read, tree_of, word_named}
use Rattle.ash_run_steps.specs.Answered.{Answered, boxes_of}
use Rattle.ash_sources.specs.SourceFaults.{SourceFault}
use Rattle.ash_states.specs.HostStates.{HostState, embedding_for}
use Rattle.ash_states.specs.StateSteps.{task_of}
use Rattle.ash_engine.specs.declared.live.Live.{Live}
use Rattle.ash_engine.specs.LiveSteps.{IsNoAnswer, TakesStep, RanOut}
use Rattle.ash_engine.specs.TableStates.{durable_seen, live_seen}
use Rattle.ash_engine.proofs.TableCalls.{hosts_of}
use Rattle.ash_engine.proofs.Unanswered.{nothing_answered}

module _ {B : Type 0} (G : Ghosts B) (registered : List Registration) (live : Live B) where
  abbrev durable : HostState
  durable = durable_seen G registered live

  -- The step of a request whose task, or whose refusal, is replied so, and changes nothing.
  pub looked : (budget : ℕ) (request : Request) (d : TaskResult SourceFault) (reply : Reply SourceFault) → task_of request durable ≡ d
      → unless_refused budget d durable.state (hosts_of G live.table []) ≡ Some (replied reply durable.state (hosts_of G live.table []))
      → events_of_reply reply ≡ [] → IsNoAnswer reply
      → TakesStep G budget request (live_seen G registered live) reply (live_seen G registered live)
  looked budget request d reply is does none silent = record {
    answers = [];
    taken = record {
      stepped = ap (λ (x : TaskResult SourceFault). unless_refused budget x durable.state (hosts_of G live.table [])) is ∙ does;
      registered = refl;
    };
    gave = subst (λ (es : List Event). Answered G (boxes_of live.table) es [] (boxes_of live.table)) (sym none) (nothing_answered G (boxes_of live.table));
    unchanged = λ no. refl;
    named = λ answered. absurd (answered silent);
    no_more = λ answered. absurd (answered silent);
  }

  -- A request whose task changes the state takes memory.
  pub takes_memory : (request : Request) (t : Task) → task_of request durable ≡ Ok t → TaskChangesState (task_of request durable) → TakesMemory request
  takes_memory (Load name source) t is changes = tt
  takes_memory (Call name function args) t is changes = tt
  takes_memory (Discard name) t is changes = tt
  takes_memory (Get name global) t is changes = absurd (not_changed (find_module name durable.state) changes)
    where
      no_word : (w : Option Word) → TaskChangesState (require_some {Fault = SourceFault} w NoGlobal (λ word. Ok (Read word))) → ⊥
      no_word (Some word) changes = changes
      no_word None changes = changes

      not_changed : (o : Option LoadedModule) → TaskChangesState (require_some {Fault = SourceFault} o NoModule
          (λ m. require_some (option_and_then (λ tree. word_named global tree m.globals) (tree_of (embedding_for registered) m)) NoGlobal (λ word. Ok (Read word)))) → ⊥
      not_changed (Some m) changes = no_word (option_and_then (λ tree. word_named global tree m.globals) (tree_of (embedding_for registered) m)) changes
      not_changed None changes = changes
  takes_memory (Object number) t is changes = tt
  takes_memory Seq t is changes = absurd changes
  takes_memory Snapshot t is changes = tt

  -- Memory was refused before anything changed.
  pub ran_out : (request : Request) (t : Task) (reply : Reply SourceFault) (new : Live B) → task_of request durable ≡ Ok t
      → TaskChangesState {Fault = SourceFault} (Ok t) → reply ≡ Refused NoMemory → live_seen G registered new ≡ live_seen G registered live
      → RanOut request (live_seen G registered live) reply (live_seen G registered new)
  ran_out request t reply new is changes refused same =
      let finds : TaskChangesState (task_of request durable) = subst (λ (d : TaskResult SourceFault). TaskChangesState d) (sym is) changes in
      record { takes = takes_memory request t is finds; finds = inr finds; reply_is = refused; unchanged = same }
