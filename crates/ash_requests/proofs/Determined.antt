-- Steps are determined, but for those that were put off; a refusal leaves everything as it was.
use Rattle.std.proofs.Common.{◌≡◌, ◌∙◌, inl, inr, ℕ, List, [], ◌∷◌, Option, Some, None, Ok, Err, refl, sym, ap, subst, unwrap_or, option_map}
use Rattle.std.specs.Option.{option_and_then}
use Rattle.ash_meaning.specs.Activity.{World}
use Rattle.ash_meaning.specs.Ends.{End, Finished, Threw, Aborted, Outcome, call_function, load_module}
use Rattle.ash_requests.specs.States.{LoadedModule, State, Hosts, Embedding, without_module, world_of}
use Rattle.ash_requests.specs.Requests.{Request, Refusal, Reply, Value, ShownAs, Number, Done, Refused}
use Rattle.ash_requests.specs.Tasks.{Task, Initialize, Invoke, Remove, Read, Show, Count, Rewrite, TaskResult, task_of}
use Rattle.ash_requests.specs.Steps.{Step, replied, after_load_with, after_load, after_call, after_discard, perform, unless_refused, step, History, begin_history, with_step, run, Steps, performed, put_off, Runs, no_request, next_request}
use Rattle.ash_requests.specs.StepLaws.{AreOneUnlessPutOff}

-- determined

module _ {F : Type 0} (embedding : Embedding F) (budget : ℕ) (request : Request) (state : State) (hosts : Hosts) where
  same_step : (one other : Step F) → step embedding budget request state hosts ≡ Some one → step embedding budget request state hosts ≡ Some other → one ≡ other
  same_step one other e f = ap (λ (o : Option (Step F)). unwrap_or o one) (sym e ∙ f)

  pub determined : (one other : Step F) → Steps embedding budget request state hosts one → Steps embedding budget request state hosts other → AreOneUnlessPutOff request state hosts one other
  determined one other (performed e) (performed f) = inl (same_step one other e f)
  determined one other (put_off {refusal} off e) s = inr (inl (refusal, off, e))
  determined one other s (put_off {refusal} off e) = inr (inr (refusal, off, e))

-- a run that is computed is one of the runs
module _ {F : Type 0} (embedding : Embedding F) (budget : ℕ) where
  of_this : (requests : List Request) (state : State) (hosts : Hosts) (this history : History F) → Some this ≡ Some history → Runs embedding budget requests state hosts this → Runs embedding budget requests state hosts history
  of_this requests state hosts this history e h = subst (λ (x : History F). Runs embedding budget requests state hosts x) (ap (λ (o : Option (History F)). unwrap_or o this) e) h

  pub is_among_runs : (requests : List Request) (state : State) (hosts : Hosts) (history : History F) → run embedding budget requests state hosts ≡ Some history → Runs embedding budget requests state hosts history
  is_among_runs [] state hosts history e = of_this [] state hosts (begin_history state hosts) history e no_request
  is_among_runs (request ∷ requests) state hosts history e = first (step embedding budget request state hosts) refl e (λ next. is_among_runs requests (next.0).state (next.0).hosts (next.1).0 (next.1).1)
    where
      others : (one : Step F) → step embedding budget request state hosts ≡ Some one → (o : Option (History F)) → run embedding budget requests one.state one.hosts ≡ o → option_map (with_step one) o ≡ Some history → ((next : (one : Step F) × ((rest : History F) × (run embedding budget requests one.state one.hosts ≡ Some rest))) → Runs embedding budget requests (next.0).state (next.0).hosts (next.1).0) → Runs embedding budget (request ∷ requests) state hosts history
      others one e None f g h = absurd (cc)
      others one e (Some rest) f g h = of_this (request ∷ requests) state hosts (with_step one rest) history g (next_request (performed e) (h (one, (rest, f))))

      first : (o : Option (Step F)) → step embedding budget request state hosts ≡ o → option_and_then (λ one. option_map (with_step one) (run embedding budget requests one.state one.hosts)) o ≡ Some history → ((next : (one : Step F) × ((rest : History F) × (run embedding budget requests one.state one.hosts ≡ Some rest))) → Runs embedding budget requests (next.0).state (next.0).hosts (next.1).0) → Runs embedding budget (request ∷ requests) state hosts history
      first None e f h = absurd (cc)
      first (Some one) e f h = others one e (run embedding budget requests one.state one.hosts) refl f h

-- refusals

-- what a step is, by its reply
abbrev RefusedStays : {F : Type 0} → State → Hosts → Reply F → Step F → Type 0
RefusedStays state hosts (Refused refusal) one = one ≡ replied (Refused refusal) state hosts
RefusedStays state hosts _ one = Unit {0}

module _ (F : Type 0) (state : State) (hosts : Hosts) where
  stays_of : (this one : Step F) → RefusedStays state hosts this.reply this → Some this ≡ Some one → RefusedStays state hosts one.reply one
  stays_of this one h e = subst (λ (s : Step F). RefusedStays state hosts s.reply s) (ap (λ (o : Option (Step F)). unwrap_or o this) e) h

  of_load : (name source : List ℕ) (end : End) (world : World) → RefusedStays {F = F} state hosts (after_load_with name source state end world).reply (after_load_with name source state end world)
  of_load name source (Finished value) world = tt
  of_load name source (Threw x function line) world = tt
  of_load name source (Aborted function line) world = tt

  loads : (name source : List ℕ) (one : Step F) (o : Option Outcome) → option_map (after_load name source state) o ≡ Some one → RefusedStays state hosts one.reply one
  loads name source one (Some outcome) e = stays_of (after_load name source state outcome) one (of_load name source outcome.end outcome.world) e
  loads name source one None e = absurd (cc)

  calls : (m : LoadedModule) (one : Step F) (o : Option Outcome) → option_map (after_call m state) o ≡ Some one → RefusedStays state hosts one.reply one
  calls m one (Some outcome) e = stays_of (after_call m state outcome) one tt e
  calls m one None e = absurd (cc)

  carried : (budget : ℕ) (task : Task) (one : Step F) → perform budget task state hosts ≡ Some one → RefusedStays state hosts one.reply one
  carried budget (Initialize name source tree) one e = loads name source one (load_module (record { name = name; tree = tree }) budget (world_of [] state.modules state hosts)) e
  carried budget (Invoke m tree function args) one e = calls m one (call_function (record { name = m.name; tree = tree }) function args budget (world_of m.globals (without_module m.name state.modules) state hosts)) e
  carried budget (Remove name) one e = stays_of (after_discard name state hosts) one tt e
  carried budget (Read word) one e = stays_of (replied (Value word) state hosts) one tt e
  carried budget (Show shown) one e = stays_of (replied (ShownAs shown) state hosts) one tt e
  carried budget Count one e = stays_of (replied (Number state.seq) state hosts) one tt e
  carried budget Rewrite one e = stays_of (replied Done state hosts) one tt e

  unless : (budget : ℕ) (result : TaskResult F) (one : Step F) → unless_refused budget result state hosts ≡ Some one → RefusedStays state hosts one.reply one
  unless budget (Ok task) one e = carried budget task one e
  unless budget (Err refusal) one e = stays_of (replied (Refused refusal) state hosts) one refl e

pub refusal_keeps : {F : Type 0} (embedding : Embedding F) (budget : ℕ) (request : Request) (state : State) (hosts : Hosts) (one : Step F) (refusal : Refusal F) → Steps embedding budget request state hosts one → one.reply ≡ Refused refusal → one ≡ replied (Refused refusal) state hosts
refusal_keeps {F} embedding budget request state hosts one refusal (performed e) f = subst (λ (r : Reply F). RefusedStays state hosts r one) f (unless F state hosts budget (task_of embedding request state) one e)
refusal_keeps {F} embedding budget request state hosts one refusal (put_off {refusal = other} off e) f =
    let same : Refused other ≡ Refused refusal = sym (ap (λ (s : Step F). s.reply) e) ∙ f in
    e ∙ ap (λ (r : Reply F). replied r state hosts) same
