-- Over requests the answers of hosts are taken in order.
use Rattle.std.proofs.Common.{◌≡◌, ◌∙◌, ◌++◌, ℕ, List, [], Option, Some, None, Ok, Err, refl, sym, ap, subst, unwrap_or, option_map, append_assoc}
use Rattle.ash_host.specs.declared.word.Word.{Word}
use Rattle.ash_host.specs.Objects.{AreNumbered}
use Rattle.ash_host.specs.Records.{HostRecord}
use Rattle.ash_meaning.specs.Activity.{World, Activity}
use Rattle.ash_meaning.specs.Releases.{sweep}
use Rattle.ash_meaning.specs.Classes.{Program}
use Rattle.ash_meaning.specs.Ends.{End, Finished, Threw, Aborted, Outcome, call_function, load_module}
use Rattle.ash_meaning.specs.MeaningLaws.{EffectsStay}
use Rattle.ash_meaning.proofs.AnswersInOrder.{taken_in_order, sweep_leaves}
use Rattle.ash_meaning.proofs.Endings.{runs_stay}
use Rattle.ash_requests.specs.States.{LoadedModule, State, Hosts, Embedding, without_module, world_of}
use Rattle.ash_requests.specs.Requests.{Request, Value, ShownAs, Number, Done, Refused}
use Rattle.ash_requests.specs.Tasks.{Task, Initialize, Invoke, Remove, Read, Show, Count, Rewrite, TaskResult, task_of}
use Rattle.ash_requests.specs.Steps.{Step, replied, without_globals, after_load_with, after_load, after_call, after_discard, perform, unless_refused, History, Steps, performed, put_off, Runs, no_request, next_request}
use Rattle.ash_requests.specs.StepLaws.{RunTakesInOrder}
use Rattle.ash_requests.proofs.Numbers.{step_lives}

-- answers that are taken in order
abbrev Takes : List HostRecord → List HostRecord → Type 0
Takes first last = (taken : List HostRecord) × (first ≡ taken ++ last)

then_leaves : (a b c : List HostRecord) → Takes a b → c ≡ b → Takes a c
then_leaves a b c t e = (t.0, t.1 ∙ ap (λ (records : List HostRecord). t.0 ++ records) (sym e))

outcome_takes : (first : Activity) (outcome : Outcome) → EffectsStay first outcome → Takes (first.world).answers (outcome.world).answers
outcome_takes first outcome stays =
    then_leaves (first.world).answers ((stays.last).world).answers (outcome.world).answers (taken_in_order first stays.last stays.trace) (ap (λ (w : World). w.answers) (stays.released).others)

unfinished_leaves : (world : World) → (without_globals world).answers ≡ world.answers
unfinished_leaves world = sweep_leaves [] (record world { globals = [] })

module _ (F : Type 0) (old : State) (hosts : Hosts) (numbered : AreNumbered old.last old.objects) where
  abbrev StepTakes : Step F → Type 0
  StepTakes one = Takes hosts.answers (one.hosts).answers

  of_this : (this one : Step F) → StepTakes this → Some this ≡ Some one → StepTakes one
  of_this this one h e = subst (λ (s : Step F). StepTakes s) (ap (λ (o : Option (Step F)). unwrap_or o this) e) h

  load_takes : (name source : List ℕ) (end : End) (world : World) → Takes hosts.answers world.answers → StepTakes (after_load_with name source old end world)
  load_takes name source (Finished value) world t = t
  load_takes name source (Threw x function line) world t = then_leaves hosts.answers world.answers (without_globals world).answers t (unfinished_leaves world)
  load_takes name source (Aborted function line) world t = then_leaves hosts.answers world.answers (without_globals world).answers t (unfinished_leaves world)

  loads : (p : Program) (budget : ℕ) (source : List ℕ) (one : Step F) (o : Option Outcome) → load_module p budget (world_of [] old.modules old hosts) ≡ o → option_map (after_load p.name source old) o ≡ Some one → StepTakes one
  loads p budget source one None f e = absurd (cc)
  loads p budget source one (Some outcome) f e =
      let stays = (runs_stay p budget (world_of [] old.modules old hosts) numbered).loads outcome f in
      of_this (after_load p.name source old outcome) one (load_takes p.name source outcome.end outcome.world (outcome_takes _ outcome stays)) e

  calls : (p : Program) (budget : ℕ) (m : LoadedModule) (function : ℕ) (args : List Word) (one : Step F) (o : Option Outcome) → call_function p function args budget (world_of m.globals (without_module m.name old.modules) old hosts) ≡ o → option_map (after_call m old) o ≡ Some one → StepTakes one
  calls p budget m function args one None f e = absurd (cc)
  calls p budget m function args one (Some outcome) f e =
      let stays = ((runs_stay p budget (world_of m.globals (without_module m.name old.modules) old hosts) numbered).calls function args outcome f).2 in
      of_this (after_call m old outcome) one (outcome_takes _ outcome stays) e

  still : Takes hosts.answers hosts.answers
  still = ([], refl)

  carried : (budget : ℕ) (task : Task) (one : Step F) → perform budget task old hosts ≡ Some one → StepTakes one
  carried budget (Initialize name source tree) one e = loads (record { name = name; tree = tree }) budget source one (load_module (record { name = name; tree = tree }) budget (world_of [] old.modules old hosts)) refl e
  carried budget (Invoke m tree function args) one e = calls (record { name = m.name; tree = tree }) budget m function args one (call_function (record { name = m.name; tree = tree }) function args budget (world_of m.globals (without_module m.name old.modules) old hosts)) refl e
  carried budget (Remove name) one e =
      let left : World = world_of [] (without_module name old.modules) old hosts in
      of_this (after_discard name old hosts) one (then_leaves hosts.answers left.answers (sweep [] left).answers still (sweep_leaves [] left)) e
  carried budget (Read word) one e = of_this (replied (Value word) old hosts) one still e
  carried budget (Show shown) one e = of_this (replied (ShownAs shown) old hosts) one still e
  carried budget Count one e = of_this (replied (Number old.seq) old hosts) one still e
  carried budget Rewrite one e = of_this (replied Done old hosts) one still e

  unless : (budget : ℕ) (result : TaskResult F) (one : Step F) → unless_refused budget result old hosts ≡ Some one → StepTakes one
  unless budget (Ok task) one e = carried budget task one e
  unless budget (Err refusal) one e = of_this (replied (Refused refusal) old hosts) one still e

  step_takes : (embedding : Embedding F) (budget : ℕ) (request : Request) (one : Step F) → Steps embedding budget request old hosts one → StepTakes one
  step_takes embedding budget request one (performed e) = unless budget (task_of embedding request old) one e
  step_takes embedding budget request one (put_off {refusal} off e) = subst (λ (s : Step F). StepTakes s) (sym e) still

joined : (a b c : List HostRecord) → Takes a b → Takes b c → Takes a c
joined a b c one two = (one.0 ++ two.0, one.1 ∙ ap (λ (records : List HostRecord). one.0 ++ records) two.1 ∙ sym (append_assoc one.0 two.0 c))

pub runs_take : {F : Type 0} (embedding : Embedding F) (budget : ℕ) (requests : List Request) (state : State) (hosts : Hosts) (history : History F) → Runs embedding budget requests state hosts history → AreNumbered state.last state.objects → RunTakesInOrder hosts history
runs_take embedding budget requests state hosts history no_request numbered = ([], refl)
runs_take embedding budget requests state hosts history (next_request {request} {requests = others} {one} {rest} s r) numbered =
    joined hosts.answers (one.hosts).answers (rest.hosts).answers
    (step_takes _ state hosts numbered embedding budget request one s)
    (runs_take embedding budget others one.state one.hosts rest r (step_lives embedding budget request state hosts one s numbered).numbered)
