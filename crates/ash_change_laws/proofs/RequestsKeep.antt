-- Steps of requests leave uncalled services as they are.
use Rattle.std.proofs.Common.{◌≡◌, ◌++◌, ℕ, List, [], Option, Some, None, Ok, Err, refl, sym, ap, ◌∙◌, subst, unwrap_or, option_map}
use Rattle.std.specs.Prelude.{slice_get}
use Rattle.std.specs.Option.{option_and_then}
use Rattle.ash_host.specs.declared.event.Event.{Event}
use Rattle.ash_host.specs.declared.word.Word.{Word}
use Rattle.ash_meaning.specs.Activity.{World}
use Rattle.ash_meaning.specs.Releases.{sweep}
use Rattle.ash_meaning.specs.Classes.{Program, Entry, FreeFunction, entry_of}
use Rattle.ash_meaning.specs.Ends.{End, Finished, Threw, Aborted, Outcome, call_entry, call_function, load_module}
use Rattle.ash_requests.specs.States.{LoadedModule, State, Hosts, Embedding, without_module, world_of}
use Rattle.ash_requests.specs.Requests.{Reply, Value, ShownAs, Number, Done, Refused}
use Rattle.ash_requests.specs.Tasks.{Task, Initialize, Invoke, Remove, Read, Show, Count, Rewrite, TaskResult, task_of}
use Rattle.ash_requests.specs.Steps.{Step, replied, after_load_with, after_load, after_call, after_discard, perform, unless_refused}
use Rattle.ash_change_laws.specs.UncalledServices.{IsCalled, KeepsUncalled, StepKeepsUncalled, StepsKeepUncalled}
use Rattle.ash_change_laws.proofs.Keeping.{keeps_same, keeps_then}
use Rattle.ash_change_laws.proofs.RunsKeep.{runs_keep, swept_keeps}

-- a run that had no events before
pub from_none : (a b : World) → a.events ≡ [] → KeepsUncalled a b → (place : ℕ) → (IsCalled place b.events → ⊥) → slice_get b.services place ≡ slice_get a.services place
from_none a b none keeps place quiet =
    keeps.services place
    (λ is. quiet (subst (λ (es : List Event). IsCalled place es) (sym (keeps.events ∙ ap (λ (es : List Event). es ++ keeps.more) none)) is))

abbrev first : State → Hosts → List Word → List LoadedModule → World
first old hosts globals others = world_of globals others old hosts

called_keeps : (p : Program) (args : List Word) (budget : ℕ) (w : World) (o : Option Entry) (outcome : Outcome) → option_and_then (call_entry p args budget w) o ≡ Some outcome → KeepsUncalled w outcome.world
called_keeps p args budget w None outcome is = absurd (cc)
called_keeps p args budget w (Some e) outcome is = (runs_keep p budget w).calls args e outcome is

-- a module that goes, with what its globals held
unloaded_keeps : (a w : World) → KeepsUncalled a w → KeepsUncalled a (sweep [] (record w { globals = [] }))
unloaded_keeps a w keeps =
    keeps_then a w _ keeps (keeps_then w (record w { globals = [] }) _ (keeps_same w (record w { globals = [] }) refl refl) (swept_keeps [] (record w { globals = [] })))

module _ (F : Type 0) (old : State) (hosts : Hosts) where
  loaded_keeps : (globals : List Word) (others : List LoadedModule) (name source : List ℕ) (end : End) (w : World) → KeepsUncalled (first old hosts globals others) w → StepKeepsUncalled old (after_load_with {Fault = F} name source old end w)
  loaded_keeps globals others name source (Finished value) w keeps = λ place quiet. from_none (first old hosts globals others) w refl keeps place quiet
  loaded_keeps globals others name source (Threw e function line) w keeps =
      λ place quiet. from_none (first old hosts globals others) (sweep [] (record w { globals = [] })) refl (unloaded_keeps (first old hosts globals others) w keeps) place quiet
  loaded_keeps globals others name source (Aborted function line) w keeps =
      λ place quiet. from_none (first old hosts globals others) (sweep [] (record w { globals = [] })) refl (unloaded_keeps (first old hosts globals others) w keeps) place quiet

  discards : (name : List ℕ) → StepKeepsUncalled old (after_discard {Fault = F} name old hosts)
  discards name = λ place quiet. from_none (first old hosts [] (without_module name old.modules)) (sweep [] (first old hosts [] (without_module name old.modules))) refl (swept_keeps [] (first old hosts [] (without_module name old.modules))) place quiet

module _ {F : Type 0} where
  this_step : (old : State) (this one : Step F) → StepKeepsUncalled old this → Some this ≡ Some one → StepKeepsUncalled old one
  this_step old this one keeps e = subst (λ (s : Step F). StepKeepsUncalled old s) (ap (λ (o : Option (Step F)). unwrap_or o this) e) keeps

  stays : (reply : Reply F) (old : State) (hosts : Hosts) → StepKeepsUncalled old (replied reply old hosts)
  stays reply old hosts place quiet = refl

  module _ (old : State) (hosts : Hosts) (globals : List Word) (others : List LoadedModule) where
    loads : (name source : List ℕ) (o : Option Outcome) → ((outcome : Outcome) → o ≡ Some outcome → KeepsUncalled (first old hosts globals others) outcome.world) → (one : Step F) → option_map (after_load name source old) o ≡ Some one → StepKeepsUncalled old one
    loads name source None h one e = absurd (cc)
    loads name source (Some outcome) h one e = this_step old (after_load name source old outcome) one (loaded_keeps F old hosts globals others name source outcome.end outcome.world (h outcome refl)) e

    calls : (m : LoadedModule) (o : Option Outcome) → ((outcome : Outcome) → o ≡ Some outcome → KeepsUncalled (first old hosts globals others) outcome.world) → (one : Step F) → option_map (after_call m old) o ≡ Some one → StepKeepsUncalled old one
    calls m None h one e = absurd (cc)
    calls m (Some outcome) h one e = this_step old (after_call m old outcome) one (λ place quiet. from_none (first old hosts globals others) outcome.world refl (h outcome refl) place quiet) e

  performs : (budget : ℕ) (task : Task) (old : State) (hosts : Hosts) (one : Step F) → perform budget task old hosts ≡ Some one → StepKeepsUncalled old one
  performs budget (Initialize name source tree) old hosts one e =
      loads old hosts [] old.modules name source (load_module (record { name = name; tree = tree }) budget (world_of [] old.modules old hosts))
      (λ outcome is. (runs_keep (record { name = name; tree = tree }) budget (world_of [] old.modules old hosts)).loads outcome is) one e
  performs budget (Invoke m tree function args) old hosts one e =
      calls old hosts m.globals (without_module m.name old.modules) m
      (call_function (record { name = m.name; tree = tree }) function args budget (world_of m.globals (without_module m.name old.modules) old hosts))
      (λ outcome is. called_keeps (record { name = m.name; tree = tree }) args budget (world_of m.globals (without_module m.name old.modules) old hosts) (entry_of tree (FreeFunction function)) outcome is) one e
  performs budget (Remove name) old hosts one e = this_step old (after_discard name old hosts) one (discards F old hosts name) e
  performs budget (Read word) old hosts one e = this_step old (replied (Value word) old hosts) one (stays (Value word) old hosts) e
  performs budget (Show shown) old hosts one e = this_step old (replied (ShownAs shown) old hosts) one (stays (ShownAs shown) old hosts) e
  performs budget Count old hosts one e = this_step old (replied (Number old.seq) old hosts) one (stays (Number old.seq) old hosts) e
  performs budget Rewrite old hosts one e = this_step old (replied Done old hosts) one (stays Done old hosts) e

  results : (budget : ℕ) (d : TaskResult F) (old : State) (hosts : Hosts) (one : Step F) → unless_refused budget d old hosts ≡ Some one → StepKeepsUncalled old one
  results budget (Ok task) old hosts one e = performs budget task old hosts one e
  results budget (Err refusal) old hosts one e = this_step old (replied (Refused refusal) old hosts) one (stays (Refused refusal) old hosts) e

  pub steps_keep : (embedding : Embedding F) (budget : ℕ) → StepsKeepUncalled embedding budget
  steps_keep embedding budget request old hosts one e = results budget (task_of embedding request old) old hosts one e
