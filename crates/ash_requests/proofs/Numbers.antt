-- Over requests each number has its life.
use Rattle.std.proofs.Common.{◌≡◌, ◌++◌, ◌∙◌, arith, ℕ, List, [], Option, Some, None, Ok, Err, refl, sym, ap, subst, unwrap_or, option_map}
use Rattle.ash_host.specs.declared.word.Word.{Word}
use Rattle.ash_host.specs.declared.event.Event.{Event}
use Rattle.ash_host.specs.Objects.{AreNumbered}
use Rattle.ash_meaning.specs.Activity.{World, Activity}
use Rattle.ash_meaning.specs.Releases.{sweep}
use Rattle.ash_meaning.specs.Classes.{Program}
use Rattle.ash_meaning.specs.Ends.{End, Finished, Threw, Aborted, Outcome, call_function, load_module}
use Rattle.ash_meaning.specs.Numbers.{Numbering, numbering_of as numbering_in, NumberLives}
use Rattle.ash_meaning.specs.MeaningLaws.{EffectsStay, NumbersLiveOnce}
use Rattle.ash_meaning.proofs.Released.{swept_by}
use Rattle.ash_meaning.proofs.Lives.{joined_lives, same_lives}
use Rattle.ash_meaning.proofs.Numbers.{along, onward_from, released_onward}
use Rattle.ash_meaning.proofs.Endings.{runs_stay}
use Rattle.ash_requests.specs.States.{LoadedModule, State, Hosts, Embedding, without_module, world_of, numbering_of}
use Rattle.ash_requests.specs.Requests.{Request, Value, ShownAs, Number, Done, Refused}
use Rattle.ash_requests.specs.Tasks.{Task, Initialize, Invoke, Remove, Read, Show, Count, Rewrite, TaskResult, task_of}
use Rattle.ash_requests.specs.Steps.{Step, replied, without_globals, after_load_with, after_load, after_call, after_discard, perform, unless_refused, History, Steps, performed, put_off, Runs, no_request, next_request}
use Rattle.ash_requests.specs.StepLaws.{events_of_reply, events_of}

-- what a step does to numbers
abbrev pub StepLives : {F : Type 0} → State → Step F → Type 0
StepLives old one = NumberLives (numbering_of old) (events_of_reply one.reply) (numbering_of one.state)

of_this : {F : Type 0} (old : State) (this one : Step F) → StepLives old this → Some this ≡ Some one → StepLives old one
of_this {F} old this one h e = subst (λ (s : Step F). StepLives old s) (ap (λ (o : Option (Step F)). unwrap_or o this) e) h

still : (state : State) → AreNumbered state.last state.objects → NumberLives (numbering_of state) [] (numbering_of state)
still state numbered = same_lives (numbering_of state) (numbering_of state) [] numbered (omega arith) (λ n. refl) (λ n. refl) (λ n. refl)

-- a release point without frames
swept_onward : (world : World) → AreNumbered world.last world.objects → NumbersLiveOnce world (sweep [] world)
swept_onward world numbered = released_onward [] world (sweep [] world) (swept_by [] world numbered.in_order) numbered

pub outcome_onward : (first : Activity) (outcome : Outcome) → AreNumbered (first.world).last (first.world).objects → EffectsStay first outcome → NumbersLiveOnce first.world outcome.world
outcome_onward first outcome numbered stays =
    let begin : NumbersLiveOnce first.world (stays.last).world = along stays.trace numbered in
    onward_from numbered begin (released_onward [] (stays.last).world outcome.world stays.released (begin.lives).numbered)

-- the events of what begins with none
from_none : (a b : World) → a.events ≡ [] → NumbersLiveOnce a b → NumberLives (numbering_in a) b.events (numbering_in b)
from_none a b none h = subst (λ (events : List Event). NumberLives (numbering_in a) events (numbering_in b)) (sym (h.events ∙ ap (λ (events : List Event). events ++ h.more) none)) h.lives

-- a load that does not finish: a release point of its frames, and one of its globals
unfinished : (old : State) (world first : World) → numbering_in first ≡ numbering_of old → first.events ≡ [] → AreNumbered first.last first.objects → NumbersLiveOnce first world → NumberLives (numbering_of old) (without_globals world).events (numbering_in (without_globals world))
unfinished old world first same none ordered h =
    subst (λ (n : Numbering). NumberLives n (without_globals world).events (numbering_in (without_globals world))) same
    (from_none first (without_globals world) none (onward_from ordered h (record {
      more = again.more;
      events = again.events;
      lives = again.lives;
    })))
  where
    again : NumbersLiveOnce (record world { globals = [] }) (without_globals world)
    again = swept_onward (record world { globals = [] }) (h.lives).numbered

module _ (F : Type 0) (old : State) (numbered : AreNumbered old.last old.objects) where
  -- loads

  load_lives : (name source : List ℕ) (end : End) (world first : World) → numbering_in first ≡ numbering_of old → first.events ≡ [] → AreNumbered first.last first.objects → NumbersLiveOnce first world → StepLives {F = F} old (after_load_with name source old end world)
  load_lives name source (Finished value) world first same none ordered h = subst (λ (n : Numbering). NumberLives n world.events (numbering_in world)) same (from_none first world none h)
  load_lives name source (Threw x function line) world first same none ordered h = unfinished old world first same none ordered h
  load_lives name source (Aborted function line) world first same none ordered h = unfinished old world first same none ordered h

  loads : (p : Program) (budget : ℕ) (source : List ℕ) (hosts : Hosts) (one : Step F) (o : Option Outcome) → load_module p budget (world_of [] old.modules old hosts) ≡ o → option_map (after_load p.name source old) o ≡ Some one → StepLives old one
  loads p budget source hosts one None f e = absurd (cc)
  loads p budget source hosts one (Some outcome) f e =
      let stays = (runs_stay p budget (world_of [] old.modules old hosts) numbered).loads outcome f in
      of_this old (after_load p.name source old outcome) one (load_lives p.name source outcome.end outcome.world _ refl refl numbered (outcome_onward _ outcome numbered stays)) e

  -- calls

  calls : (p : Program) (budget : ℕ) (m : LoadedModule) (function : ℕ) (args : List Word) (hosts : Hosts) (one : Step F) (o : Option Outcome) → call_function p function args budget (world_of m.globals (without_module m.name old.modules) old hosts) ≡ o → option_map (after_call m old) o ≡ Some one → StepLives old one
  calls p budget m function args hosts one None f e = absurd (cc)
  calls p budget m function args hosts one (Some outcome) f e =
      let stays = ((runs_stay p budget (world_of m.globals (without_module m.name old.modules) old hosts) numbered).calls function args outcome f).2 in
      of_this old (after_call m old outcome) one (from_none _ outcome.world refl (outcome_onward _ outcome numbered stays)) e

  carried : (budget : ℕ) (task : Task) (hosts : Hosts) (one : Step F) → perform budget task old hosts ≡ Some one → StepLives old one
  carried budget (Initialize name source tree) hosts one e = loads (record { name = name; tree = tree }) budget source hosts one (load_module (record { name = name; tree = tree }) budget (world_of [] old.modules old hosts)) refl e
  carried budget (Invoke m tree function args) hosts one e = calls (record { name = m.name; tree = tree }) budget m function args hosts one (call_function (record { name = m.name; tree = tree }) function args budget (world_of m.globals (without_module m.name old.modules) old hosts)) refl e
  carried budget (Remove name) hosts one e =
      let left : World = world_of [] (without_module name old.modules) old hosts in
      of_this old (after_discard name old hosts) one (from_none left (sweep [] left) refl (swept_onward left numbered)) e
  carried budget (Read word) hosts one e = of_this old (replied (Value word) old hosts) one (still old numbered) e
  carried budget (Show shown) hosts one e = of_this old (replied (ShownAs shown) old hosts) one (still old numbered) e
  carried budget Count hosts one e = of_this old (replied (Number old.seq) old hosts) one (still old numbered) e
  carried budget Rewrite hosts one e = of_this old (replied Done old hosts) one (still old numbered) e

  unless : (budget : ℕ) (result : TaskResult F) (hosts : Hosts) (one : Step F) → unless_refused budget result old hosts ≡ Some one → StepLives old one
  unless budget (Ok task) hosts one e = carried budget task hosts one e
  unless budget (Err refusal) hosts one e = of_this old (replied (Refused refusal) old hosts) one (still old numbered) e

pub step_lives : {F : Type 0} (embedding : Embedding F) (budget : ℕ) (request : Request) (old : State) (hosts : Hosts) (one : Step F) → Steps embedding budget request old hosts one → AreNumbered old.last old.objects → StepLives old one
step_lives embedding budget request old hosts one (performed e) numbered = unless _ old numbered budget (task_of embedding request old) hosts one e
step_lives {F} embedding budget request old hosts one (put_off {refusal} off e) numbered = subst (λ (s : Step F). StepLives old s) (sym e) (still old numbered)

pub runs_live : {F : Type 0} (embedding : Embedding F) (budget : ℕ) (requests : List Request) (state : State) (hosts : Hosts) (history : History F) → Runs embedding budget requests state hosts history → AreNumbered state.last state.objects → NumberLives (numbering_of state) (events_of history) (numbering_of history.state)
runs_live embedding budget requests state hosts history no_request numbered = still state numbered
runs_live embedding budget requests state hosts history (next_request {request} {requests = others} {one} {rest} s r) numbered =
    let first = step_lives embedding budget request state hosts one s numbered in
    joined_lives numbered first (runs_live embedding budget others one.state one.hosts rest r first.numbered)
