-- A step that is not aborted is the same within any larger budget.
use Rattle.std.proofs.Common.{◌≡◌, ◌+◌, ◌∙◌, ℕ, List, [], Option, Some, None, Ok, Err, refl, sym, ap, subst, unwrap_or, option_map}
use Rattle.ash_host.specs.declared.word.Word.{Word}
use Rattle.ash_host.specs.Objects.{AreNumbered}
use Rattle.ash_meaning.specs.Activity.{World}
use Rattle.ash_meaning.specs.Classes.{Program}
use Rattle.ash_meaning.specs.Ends.{End, Finished, Threw, Aborted, Outcome, call_function, load_module}
use Rattle.ash_meaning.specs.MeaningLaws.{IsNotAborted as EndIsNotAborted}
use Rattle.ash_meaning.proofs.Endings.{budget_suffices}
use Rattle.ash_requests.specs.States.{LoadedModule, State, Hosts, Embedding, without_module, world_of}
use Rattle.ash_requests.specs.Requests.{Request}
use Rattle.ash_requests.specs.Tasks.{Task, Initialize, Invoke, Remove, Read, Show, Count, Rewrite, TaskResult, task_of}
use Rattle.ash_requests.specs.Steps.{Step, after_load_with, after_load, after_call, perform, unless_refused, step}
use Rattle.ash_requests.specs.StepLaws.{ReplyIsNotAborted}

module _ (F : Type 0) (old : State) (hosts : Hosts) (numbered : AreNumbered old.last old.objects) (budget more : ℕ) where
  -- what holds of the reply of a step holds of what it is equal to
  back : (this one : Step F) → Some this ≡ Some one → ReplyIsNotAborted one.reply → ReplyIsNotAborted this.reply
  back this one e n = subst (λ (s : Step F). ReplyIsNotAborted s.reply) (ap (λ (o : Option (Step F)). unwrap_or o one) (sym e)) n

  end_of_load : (name source : List ℕ) (end : End) (world : World) → ReplyIsNotAborted (after_load_with {Fault = F} name source old end world).reply → EndIsNotAborted end
  end_of_load name source (Finished value) world n = tt
  end_of_load name source (Threw x function line) world n = tt
  end_of_load name source (Aborted function line) world n = n

  loads : (p : Program) (source : List ℕ) (one : Step F) (o : Option Outcome) → load_module p budget (world_of [] old.modules old hosts) ≡ o → option_map (after_load p.name source old) o ≡ Some one → ReplyIsNotAborted one.reply → option_map (after_load p.name source old) (load_module p (budget + more) (world_of [] old.modules old hosts)) ≡ Some one
  loads p source one None f e n = absurd (cc)
  loads p source one (Some outcome) f e n =
      let ends : EndIsNotAborted outcome.end = end_of_load p.name source outcome.end outcome.world (back (after_load p.name source old outcome) one e n) in
      ap (λ (o : Option Outcome). option_map (after_load p.name source old) o) ((budget_suffices p budget more (world_of [] old.modules old hosts) numbered).loads outcome f ends) ∙ e

  calls : (p : Program) (m : LoadedModule) (function : ℕ) (args : List Word) (one : Step F) (o : Option Outcome) → call_function p function args budget (world_of m.globals (without_module m.name old.modules) old hosts) ≡ o → option_map (after_call m old) o ≡ Some one → ReplyIsNotAborted one.reply → option_map (after_call m old) (call_function p function args (budget + more) (world_of m.globals (without_module m.name old.modules) old hosts)) ≡ Some one
  calls p m function args one None f e n = absurd (cc)
  calls p m function args one (Some outcome) f e n =
      let ends : EndIsNotAborted outcome.end = back (after_call m old outcome) one e n in
      ap (λ (o : Option Outcome). option_map (after_call m old) o) ((budget_suffices p budget more (world_of m.globals (without_module m.name old.modules) old hosts) numbered).calls function args outcome f ends) ∙ e

  carried : (task : Task) (one : Step F) → perform budget task old hosts ≡ Some one → ReplyIsNotAborted one.reply → perform (budget + more) task old hosts ≡ Some one
  carried (Initialize name source tree) one e n = loads (record { name = name; tree = tree }) source one (load_module (record { name = name; tree = tree }) budget (world_of [] old.modules old hosts)) refl e n
  carried (Invoke m tree function args) one e n = calls (record { name = m.name; tree = tree }) m function args one (call_function (record { name = m.name; tree = tree }) function args budget (world_of m.globals (without_module m.name old.modules) old hosts)) refl e n
  carried (Remove name) one e n = e
  carried (Read word) one e n = e
  carried (Show shown) one e n = e
  carried Count one e n = e
  carried Rewrite one e n = e

  unless : (result : TaskResult F) (one : Step F) → unless_refused budget result old hosts ≡ Some one → ReplyIsNotAborted one.reply → unless_refused (budget + more) result old hosts ≡ Some one
  unless (Ok task) one e n = carried task one e n
  unless (Err refusal) one e n = e

pub suffices : {F : Type 0} (embedding : Embedding F) (budget more : ℕ) (request : Request) (state : State) (hosts : Hosts) (one : Step F) → AreNumbered state.last state.objects → step embedding budget request state hosts ≡ Some one → ReplyIsNotAborted one.reply → step embedding (budget + more) request state hosts ≡ Some one
suffices embedding budget more request state hosts one numbered e n = unless _ state hosts numbered budget more (task_of embedding request state) one e n
