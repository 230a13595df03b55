-- Over requests the states of hosts stay no longer than they may be.
use Rattle.std.proofs.Common.{◌≡◌, ℕ, List, [], Option, Some, None, Ok, Err, refl, sym, ap, subst, unwrap_or, option_map}
use Rattle.ash_host.specs.declared.word.Word.{Word}
use Rattle.ash_host.specs.declared.host_object.HostObject.{Ghosts}
use Rattle.ash_host.specs.Objects.{AreNumbered}
use Rattle.ash_meaning.specs.Activity.{World, Activity}
use Rattle.ash_meaning.specs.Releases.{sweep}
use Rattle.ash_meaning.specs.Classes.{Program}
use Rattle.ash_meaning.specs.Ends.{End, Finished, Threw, Aborted, Outcome, call_function, load_module}
use Rattle.ash_meaning.specs.Answers.{Answerers, HostsFit}
use Rattle.ash_meaning.specs.MeaningLaws.{EffectsStay, first_of_load, NumbersLiveOnce}
use Rattle.ash_meaning.proofs.Released.{swept_by}
use Rattle.ash_meaning.proofs.Fits.{fit_along, released_fits}
use Rattle.ash_meaning.proofs.Endings.{runs_stay}
use Rattle.ash_requests.specs.States.{LoadedModule, State, Hosts, Embedding, without_module, world_of, state_after}
use Rattle.ash_requests.specs.Requests.{Request, Value, ShownAs, Number, Done, Refused}
use Rattle.ash_requests.specs.Tasks.{Task, Initialize, Invoke, Remove, Read, Show, Count, Rewrite, TaskResult, task_of}
use Rattle.ash_requests.specs.Steps.{Step, hosts_left, without_globals, replied, after_load_with, after_load, after_call, after_discard, perform, unless_refused, History, Steps, performed, put_off, Runs, no_request, next_request}
use Rattle.ash_requests.specs.Premises.{HostsAnswer}
use Rattle.ash_requests.proofs.Numbers.{outcome_onward, step_lives}

module _ {B : Type 0} (host : Ghosts B) (answerers : Answerers B) where
  abbrev Fit : World → Type 0
  Fit world = HostsFit host answerers world

  abbrev StepFits : {F : Type 0} → Step F → Type 0
  StepFits one = HostsAnswer host answerers one.state one.hosts

  swept_fits : (world : World) → AreNumbered world.last world.objects → Fit world → Fit (sweep [] world)
  swept_fits world numbered h = released_fits host answerers [] world (sweep [] world) (swept_by [] world numbered.in_order) h

  outcome_fits : (first : Activity) (outcome : Outcome) → AreNumbered (first.world).last (first.world).objects → EffectsStay first outcome → Fit first.world → Fit outcome.world
  outcome_fits first outcome numbered stays h = released_fits host answerers [] (stays.last).world outcome.world stays.released (fit_along host answerers stays.trace numbered h)

  -- globals, what is held outside and events have no part in it

  begin_fits : (globals : List Word) (others : List LoadedModule) (old : State) (hosts : Hosts) → HostsAnswer host answerers old hosts → Fit (world_of globals others old hosts)
  begin_fits globals others old hosts h = record { answers = h.answers; objects = h.objects; services = h.services; pool = h.pool }

  leave_fits : (ms : List LoadedModule) (world : World) (old : State) → Fit world → HostsAnswer host answerers (state_after ms world old) (hosts_left world)
  leave_fits ms world old h = record { answers = h.answers; objects = h.objects; services = h.services; pool = h.pool }

  unfinished : (ms : List LoadedModule) (world : World) (old : State) → AreNumbered world.last world.objects → Fit world → HostsAnswer host answerers (state_after ms (without_globals world) old) (hosts_left (without_globals world))
  unfinished ms world old ordered h =
      leave_fits ms (without_globals world) old
      (swept_fits (record world { globals = [] }) ordered (record { answers = h.answers; objects = h.objects; services = h.services; pool = h.pool }))

  of_this : {F : Type 0} (this one : Step F) → StepFits this → Some this ≡ Some one → StepFits one
  of_this {F} this one h e = subst (λ (s : Step F). StepFits s) (ap (λ (o : Option (Step F)). unwrap_or o this) e) h

  module _ (F : Type 0) (old : State) (hosts : Hosts) (numbered : AreNumbered old.last old.objects) (fits : HostsAnswer host answerers old hosts) where
    load_fits : (name source : List ℕ) (end : End) (world : World) → AreNumbered world.last world.objects → Fit world → StepFits {F = F} (after_load_with name source old end world)
    load_fits name source (Finished value) world ordered h = leave_fits old.modules world old h
    load_fits name source (Threw x function line) world ordered h = unfinished old.modules world old ordered h
    load_fits name source (Aborted function line) world ordered h = unfinished old.modules world old ordered h

    loads : (p : Program) (budget : ℕ) (source : List ℕ) (one : Step F) (o : Option Outcome) → load_module p budget (world_of [] old.modules old hosts) ≡ o → option_map (after_load p.name source old) o ≡ Some one → StepFits one
    loads p budget source one None f e = absurd (cc)
    loads p budget source one (Some outcome) f e =
        let first : Activity = first_of_load p budget (world_of [] old.modules old hosts) in
        let stays : EffectsStay first outcome = (runs_stay p budget (world_of [] old.modules old hosts) numbered).loads outcome f in
        let onward : NumbersLiveOnce first.world outcome.world = outcome_onward first outcome numbered stays in
        of_this (after_load p.name source old outcome) one
        (load_fits p.name source outcome.end outcome.world (onward.lives).numbered (outcome_fits first outcome numbered stays (begin_fits _ old.modules old hosts fits))) e

    calls : (p : Program) (budget : ℕ) (m : LoadedModule) (function : ℕ) (args : List Word) (one : Step F) (o : Option Outcome) → call_function p function args budget (world_of m.globals (without_module m.name old.modules) old hosts) ≡ o → option_map (after_call m old) o ≡ Some one → StepFits one
    calls p budget m function args one None f e = absurd (cc)
    calls p budget m function args one (Some outcome) f e =
        let (entry, found, stays) = (runs_stay p budget (world_of m.globals (without_module m.name old.modules) old hosts) numbered).calls function args outcome f in
        of_this (after_call m old outcome) one
        (leave_fits old.modules outcome.world old (outcome_fits _ outcome numbered stays (begin_fits m.globals (without_module m.name old.modules) old hosts fits))) e

    carried : (budget : ℕ) (task : Task) (one : Step F) → perform budget task old hosts ≡ Some one → StepFits one
    carried budget (Initialize name source tree) one e = loads (record { name = name; tree = tree }) budget source one (load_module (record { name = name; tree = tree }) budget (world_of [] old.modules old hosts)) refl e
    carried budget (Invoke m tree function args) one e = calls (record { name = m.name; tree = tree }) budget m function args one (call_function (record { name = m.name; tree = tree }) function args budget (world_of m.globals (without_module m.name old.modules) old hosts)) refl e
    carried budget (Remove name) one e =
        let left : World = world_of [] (without_module name old.modules) old hosts in
        of_this (after_discard name old hosts) one (leave_fits old.modules (sweep [] left) old (swept_fits left numbered (begin_fits [] (without_module name old.modules) old hosts fits))) e
    carried budget (Read word) one e = of_this (replied (Value word) old hosts) one fits e
    carried budget (Show shown) one e = of_this (replied (ShownAs shown) old hosts) one fits e
    carried budget Count one e = of_this (replied (Number old.seq) old hosts) one fits e
    carried budget Rewrite one e = of_this (replied Done old hosts) one fits e

    unless : (budget : ℕ) (result : TaskResult F) (one : Step F) → unless_refused budget result old hosts ≡ Some one → StepFits one
    unless budget (Ok task) one e = carried budget task one e
    unless budget (Err refusal) one e = of_this (replied (Refused refusal) old hosts) one fits e

    step_fits : (embedding : Embedding F) (budget : ℕ) (request : Request) (one : Step F) → Steps embedding budget request old hosts one → StepFits one
    step_fits embedding budget request one (performed e) = unless budget (task_of embedding request old) one e
    step_fits embedding budget request one (put_off {refusal} off e) = subst (λ (s : Step F). StepFits s) (sym e) fits

  pub runs_fit : {F : Type 0} (embedding : Embedding F) (budget : ℕ) (requests : List Request) (state : State) (hosts : Hosts) (history : History F) → Runs embedding budget requests state hosts history → AreNumbered state.last state.objects → HostsAnswer host answerers state hosts → HostsAnswer host answerers history.state history.hosts
  runs_fit embedding budget requests state hosts history no_request numbered fits = fits
  runs_fit embedding budget requests state hosts history (next_request {request} {requests = others} {one} {rest} s r) numbered fits =
      runs_fit embedding budget others one.state one.hosts rest r
      (step_lives embedding budget request state hosts one s numbered).numbered
      (step_fits _ state hosts numbered fits embedding budget request one s)
