-- Answers raise the sequence number by one, and other replies leave the state as it was.
use Rattle.std.proofs.Common.{◌≡◌, ℕ, List, [], Option, Some, None, Ok, Err, refl, sym, ap, subst, unwrap_or, option_map}
use Rattle.ash_meaning.specs.Activity.{World}
use Rattle.ash_meaning.specs.Ends.{End, Finished, Threw, Aborted, Outcome, call_function, load_module}
use Rattle.ash_requests.specs.States.{LoadedModule, State, Hosts, Embedding, without_module, world_of}
use Rattle.ash_requests.specs.Requests.{Request, Value, ShownAs, Number, Done, Refused}
use Rattle.ash_requests.specs.Tasks.{Task, Initialize, Invoke, Remove, Read, Show, Count, Rewrite, TaskResult, task_of}
use Rattle.ash_requests.specs.Steps.{Step, replied, after_load_with, after_load, after_call, after_discard, perform, unless_refused, Steps, performed, put_off}
use Rattle.ash_requests.specs.StepLaws.{CountsAnswers}

-- what holds of a step holds of what it is equal to
of_this : {F : Type 0} (old : State) (this one : Step F) → CountsAnswers old this.reply this.state → Some this ≡ Some one → CountsAnswers old one.reply one.state
of_this {F} old this one h e = subst (λ (s : Step F). CountsAnswers old s.reply s.state) (ap (λ (o : Option (Step F)). unwrap_or o this) e) h

of_load : (F : Type 0) (name source : List ℕ) (old : State) (end : End) (world : World) → CountsAnswers {Fault = F} old (after_load_with name source old end world).reply (after_load_with {Fault = F} name source old end world).state
of_load F name source old (Finished value) world = (refl, refl)
of_load F name source old (Threw x function line) world = (refl, refl)
of_load F name source old (Aborted function line) world = (refl, refl)

loads : {F : Type 0} (name source : List ℕ) (old : State) (one : Step F) (o : Option Outcome) → option_map (after_load name source old) o ≡ Some one → CountsAnswers old one.reply one.state
loads name source old one (Some outcome) e = of_this old (after_load name source old outcome) one (of_load _ name source old outcome.end outcome.world) e
loads name source old one None e = absurd (cc)

calls : {F : Type 0} (m : LoadedModule) (old : State) (one : Step F) (o : Option Outcome) → option_map (after_call m old) o ≡ Some one → CountsAnswers old one.reply one.state
calls m old one (Some outcome) e = of_this old (after_call m old outcome) one (refl, refl) e
calls m old one None e = absurd (cc)

carried : {F : Type 0} (budget : ℕ) (task : Task) (old : State) (hosts : Hosts) (one : Step F) → perform budget task old hosts ≡ Some one → CountsAnswers old one.reply one.state
carried budget (Initialize name source tree) old hosts one e = loads name source old one (load_module (record { name = name; tree = tree }) budget (world_of [] old.modules old hosts)) e
carried budget (Invoke m tree function args) old hosts one e = calls m old one (call_function (record { name = m.name; tree = tree }) function args budget (world_of m.globals (without_module m.name old.modules) old hosts)) e
carried budget (Remove name) old hosts one e = of_this old (after_discard name old hosts) one (refl, refl) e
carried budget (Read word) old hosts one e = of_this old (replied (Value word) old hosts) one refl e
carried budget (Show shown) old hosts one e = of_this old (replied (ShownAs shown) old hosts) one refl e
carried budget Count old hosts one e = of_this old (replied (Number old.seq) old hosts) one refl e
carried budget Rewrite old hosts one e = of_this old (replied Done old hosts) one refl e

pub counted : {F : Type 0} (budget : ℕ) (result : TaskResult F) (old : State) (hosts : Hosts) (one : Step F) → unless_refused budget result old hosts ≡ Some one → CountsAnswers old one.reply one.state
counted budget (Ok task) old hosts one e = carried budget task old hosts one e
counted budget (Err refusal) old hosts one e = of_this old (replied (Refused refusal) old hosts) one refl e

pub counted_by : {F : Type 0} (embedding : Embedding F) (budget : ℕ) (request : Request) (old : State) (hosts : Hosts) (one : Step F) → Steps embedding budget request old hosts one → CountsAnswers old one.reply one.state
counted_by embedding budget request old hosts one (performed e) = counted budget (task_of embedding request old) old hosts one e
counted_by {F} embedding budget request old hosts one (put_off {refusal} off e) = subst (λ (s : Step F). CountsAnswers old s.reply s.state) (sym e) refl
