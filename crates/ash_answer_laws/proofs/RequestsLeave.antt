-- Steps of requests, and lists of requests, take the first of the answers; lists of requests are chains.
use Rattle.std.proofs.Common.{◌≡◌, ◌∙◌, ◌++◌, ℕ, List, [], ◌∷◌, Option, Some, None, Ok, Err, refl, sym, subst, ap, unwrap_or, option_map, append_assoc}
use Rattle.std.specs.Option.{option_and_then}
use Rattle.ash_host.specs.Records.{HostRecord}
use Rattle.ash_meaning.specs.Activity.{World}
use Rattle.ash_meaning.specs.Releases.{sweep}
use Rattle.ash_meaning.specs.Classes.{Program}
use Rattle.ash_meaning.specs.Ends.{End, Finished, Threw, Aborted, Outcome, call_function, load_module}
use Rattle.ash_requests.specs.States.{LoadedModule, State, Hosts, Embedding, without_module, world_of}
use Rattle.ash_requests.specs.Requests.{Request, Reply, Value, ShownAs, Number, Done, Refused}
use Rattle.ash_requests.specs.Tasks.{Task, Initialize, Invoke, Remove, Read, Show, Count, Rewrite, TaskResult, task_of}
use Rattle.ash_requests.specs.Steps.{Step, replied, after_load_with, after_load, after_call, after_discard, perform, unless_refused, step, History, begin_history, with_step, run, Steps, performed, put_off, Runs, no_request, next_request}
use Rattle.ash_answer_laws.specs.TakenAnswers.{Takes, with_answers, OutcomesLeaveTheRest}
use Rattle.ash_answer_laws.specs.ChainedRequests.{all_of, hosts_of, step_with_answers, history_with_answers, StepRelation, IsStepOf, IsRunOf, StepsLeaveTheRest, HistoriesLeaveTheRest, no_request as no_link, next_request as next_link, ChainsAreRuns, RunsAreChains}
use Rattle.ash_answer_laws.proofs.Taking.{takes_these, takes_none, takes_both, taken_so, all_taken}
use Rattle.ash_answer_laws.proofs.RunsLeave.{runs_leave}

-- steps

module _ (F : Type 0) where
  left_of_load : (name source : List ℕ) (old : State) (end : End) (world : World) → world.answers ≡ ((after_load_with {Fault = F} name source old end world).hosts).answers
  unfolding sweep
  left_of_load name source old (Finished value) world = refl
  left_of_load name source old (Threw e function line) world = refl
  left_of_load name source old (Aborted function line) world = refl

  left_of_discard : (name : List ℕ) (old : State) (hosts : Hosts) → hosts.answers ≡ ((after_discard {Fault = F} name old hosts).hosts).answers
  unfolding sweep
  left_of_discard name old hosts = refl

module _ {F : Type 0} where
  abbrev StepTakes : (List HostRecord → Option (Step F)) → List HostRecord → Step F → Type 0
  StepTakes from answers one = Takes (λ x y. from x ≡ Some (step_with_answers y one)) answers (one.hosts).answers

  this_step : (from : List HostRecord → Option (Step F)) (answers : List HostRecord) (this one : Step F) → StepTakes from answers this → Some this ≡ Some one → StepTakes from answers one
  this_step from answers this one t e = subst (λ (s : Step F). StepTakes from answers s) (ap (λ (o : Option (Step F)). unwrap_or o this) e) t

  loaded_with : (name source : List ℕ) (old : State) (end : End) (x : List HostRecord) (world : World) → after_load_with {Fault = F} name source old end (with_answers x world) ≡ step_with_answers x (after_load_with name source old end world)
  unfolding sweep
  loaded_with name source old (Finished value) x world = refl
  loaded_with name source old (Threw e function line) x world = refl
  loaded_with name source old (Aborted function line) x world = refl

  discarded_with : (name : List ℕ) (old : State) (x : List HostRecord) (hosts : Hosts) → after_discard {Fault = F} name old (hosts_of hosts.pool x) ≡ step_with_answers x (after_discard name old hosts)
  unfolding sweep
  discarded_with name old x hosts = refl

  loads : (name source : List ℕ) (old : State) (from : World → Option Outcome) (world : World) (o : Option Outcome) → from world ≡ o → OutcomesLeaveTheRest from world → (one : Step F) → option_map (after_load name source old) o ≡ Some one → StepTakes (λ x. option_map (after_load name source old) (from (with_answers x world))) world.answers one
  loads name source old from world None is h one e = absurd (cc)
  loads name source old from world (Some outcome) is h one e =
      let all : List HostRecord → Option (Step F) = λ x. option_map (after_load name source old) (from (with_answers x world)) in
      let this : Step F = after_load name source old outcome in
      this_step all world.answers this one
      (subst (λ (l : List HostRecord). Takes (λ x y. all x ≡ Some (step_with_answers y this)) world.answers l) (left_of_load F name source old outcome.end outcome.world)
      (taken_so (h outcome is) (λ x y f. ap (λ (p : Option Outcome). option_map (after_load name source old) p) f ∙ ap (λ (s : Step F). Some s) (loaded_with name source old outcome.end y outcome.world))))
      e

  calls : (m : LoadedModule) (old : State) (from : World → Option Outcome) (world : World) (o : Option Outcome) → from world ≡ o → OutcomesLeaveTheRest from world → (one : Step F) → option_map (after_call m old) o ≡ Some one → StepTakes (λ x. option_map (after_call m old) (from (with_answers x world))) world.answers one
  calls m old from world None is h one e = absurd (cc)
  calls m old from world (Some outcome) is h one e =
      this_step (λ x. option_map (after_call m old) (from (with_answers x world))) world.answers (after_call m old outcome) one
      (taken_so (h outcome is) (λ x y f. ap (λ (p : Option Outcome). option_map (after_call m old) p) f))
      e

  abbrev PerformTakes : (Hosts → Option (Step F)) → Hosts → Type 0
  PerformTakes from hosts = (one : Step F) → from hosts ≡ Some one → StepTakes (λ x. from (hosts_of hosts.pool x)) hosts.answers one

  replies : (reply : Reply F) (old : State) (hosts : Hosts) → PerformTakes (λ h. Some (replied reply old h)) hosts
  replies reply old hosts one e = this_step (λ x. Some (replied reply old (hosts_of hosts.pool x))) hosts.answers (replied reply old hosts) one (takes_none (λ x. refl)) e

  discards : (name : List ℕ) (old : State) (hosts : Hosts) → PerformTakes (λ h. Some (after_discard name old h)) hosts
  discards name old hosts one e =
      this_step (λ x. Some (after_discard name old (hosts_of hosts.pool x))) hosts.answers (after_discard name old hosts) one
      (takes_these [] (left_of_discard F name old hosts) (λ x. ap (λ (s : Step F). Some s) (discarded_with name old x hosts)))
      e

  performs : (budget : ℕ) (task : Task) (old : State) (hosts : Hosts) → PerformTakes (perform budget task old) hosts
  performs budget (Initialize name source tree) old hosts =
      let p : Program = record { name = name; tree = tree } in
      let world : World = world_of [] old.modules old hosts in
      loads name source old (load_module p budget) world (load_module p budget world) refl (runs_leave p budget world).loads
  performs budget (Invoke m tree function args) old hosts =
      let p : Program = record { name = m.name; tree = tree } in
      let world : World = world_of m.globals (without_module m.name old.modules) old hosts in
      calls m old (call_function p function args budget) world (call_function p function args budget world) refl ((runs_leave p budget world).calls function args)
  performs budget (Remove name) old hosts = discards name old hosts
  performs budget (Read word) old hosts = replies (Value word) old hosts
  performs budget (Show shown) old hosts = replies (ShownAs shown) old hosts
  performs budget Count old hosts = replies (Number old.seq) old hosts
  performs budget Rewrite old hosts = replies Done old hosts

  unless : (budget : ℕ) (result : TaskResult F) (old : State) (hosts : Hosts) → PerformTakes (unless_refused budget result old) hosts
  unless budget (Ok task) old hosts = performs budget task old hosts
  unless budget (Err refusal) old hosts = replies (Refused refusal) old hosts

module _ {F : Type 0} (embedding : Embedding F) (budget : ℕ) where
  pub step_leaves : StepsLeaveTheRest (IsStepOf embedding budget)
  step_leaves request state hosts one e = unless budget (task_of embedding request state) state hosts one e

  pub steps_leave : StepsLeaveTheRest (Steps embedding budget)
  steps_leave request state hosts one (performed e) = taken_so (step_leaves request state hosts one e) (λ x y f. performed f)
  steps_leave request state hosts one (put_off {refusal} off e) =
      subst (λ (s : Step F). Takes (λ x y. Steps embedding budget request state (hosts_of hosts.pool x) (step_with_answers y s)) hosts.answers (s.hosts).answers) (sym e)
      (takes_none (λ x. put_off off refl))

-- lists of requests, one after another

data InTurn {F : Type 0} (comes_to : StepRelation F) : List Request → State → Hosts → History F → Type 0 where
  none : {state : State} {hosts : Hosts} → InTurn comes_to [] state hosts (begin_history state hosts)
  one_more : {request : Request} {requests : List Request} {state : State} {hosts : Hosts} {one : Step F} {others : History F} → comes_to request state hosts one → InTurn comes_to requests one.state one.hosts others → InTurn comes_to (request ∷ requests) state hosts (with_step one others)

module _ {F : Type 0} (comes_to : StepRelation F) where
  turns_leave : StepsLeaveTheRest comes_to → HistoriesLeaveTheRest (InTurn comes_to)
  turns_leave h requests state hosts history none = takes_none (λ x. none)
  turns_leave h requests state hosts history (one_more {request} {requests = left} {one} {others} s t) =
      takes_both (h request state hosts one s) (turns_leave h left one.state one.hosts others t) (λ x y z e f. one_more e f)

  chain_in_turn : StepsLeaveTheRest comes_to → ChainsAreRuns comes_to (InTurn comes_to)
  chain_in_turn h requests state pool lists history rest no_link = none
  chain_in_turn h requests state pool lists history rest (next_link {request} {requests = left} {answers} {more} {one} {others} s empty links) =
      let behind : List HostRecord = all_of more ++ rest in
      subst (λ (l : List HostRecord). InTurn comes_to (request ∷ left) state (hosts_of pool l) (history_with_answers rest (with_step one others))) (sym (append_assoc answers (all_of more) rest))
      (one_more (all_taken (h request state (hosts_of pool answers) one s) empty behind) (chain_in_turn h left one.state (one.hosts).pool more others rest links))

  turns_chained : StepsLeaveTheRest comes_to → RunsAreChains comes_to (InTurn comes_to)
  turns_chained h requests state hosts history none = record { lists = []; all = refl; chain = no_link }
  turns_chained h requests state hosts history (one_more {request} {requests = left} {one} {others} s t) =
      let takes = h request state hosts one s in
      let chained = turns_chained h left one.state one.hosts others t in
      record {
        lists = takes.taken ∷ chained.lists;
        all = takes.all ∙ ap (λ (l : List HostRecord). takes.taken ++ l) chained.all ∙ sym (append_assoc takes.taken (all_of chained.lists) (others.hosts).answers);
        chain = next_link takes.alone refl chained.chain;
      }

module _ {F : Type 0} (embedding : Embedding F) (budget : ℕ) where
  -- a run is its steps in turn

  others_in_turn : (one : Step F) (requests : List Request) (o : Option (History F)) → ((others : History F) → o ≡ Some others → InTurn (IsStepOf embedding budget) requests one.state one.hosts others) → (request : Request) (state : State) (hosts : Hosts) → IsStepOf embedding budget request state hosts one → (history : History F) → option_map (with_step one) o ≡ Some history → InTurn (IsStepOf embedding budget) (request ∷ requests) state hosts history
  others_in_turn one requests None h request state hosts s history e = absurd (cc)
  others_in_turn one requests (Some others) h request state hosts s history e =
      subst (λ (k : History F). InTurn (IsStepOf embedding budget) (request ∷ requests) state hosts k) (ap (λ (o : Option (History F)). unwrap_or o (with_step one others)) e) (one_more s (h others refl))

  step_in_turn : (requests : List Request) → ((state : State) (hosts : Hosts) (others : History F) → IsRunOf embedding budget requests state hosts others → InTurn (IsStepOf embedding budget) requests state hosts others) → (request : Request) (state : State) (hosts : Hosts) (o : Option (Step F)) → step embedding budget request state hosts ≡ o → (history : History F) → option_and_then (λ one. option_map (with_step one) (run embedding budget requests one.state one.hosts)) o ≡ Some history → InTurn (IsStepOf embedding budget) (request ∷ requests) state hosts history
  step_in_turn requests h request state hosts None is history e = absurd (cc)
  step_in_turn requests h request state hosts (Some one) is history e =
      others_in_turn one requests (run embedding budget requests one.state one.hosts) (h one.state one.hosts) request state hosts is history e

  in_turn : (requests : List Request) (state : State) (hosts : Hosts) (history : History F) → IsRunOf embedding budget requests state hosts history → InTurn (IsStepOf embedding budget) requests state hosts history
  in_turn [] state hosts history e = subst (λ (k : History F). InTurn (IsStepOf embedding budget) [] state hosts k) (ap (λ (o : Option (History F)). unwrap_or o (begin_history state hosts)) e) none
  in_turn (request ∷ requests) state hosts history e = step_in_turn requests (in_turn requests) request state hosts (step embedding budget request state hosts) refl history e

  is_run : (requests : List Request) (state : State) (hosts : Hosts) (history : History F) → InTurn (IsStepOf embedding budget) requests state hosts history → IsRunOf embedding budget requests state hosts history
  is_run requests state hosts history none = refl
  is_run requests state hosts history (one_more {request} {requests = left} {one} {others} s t) =
      ap (λ (o : Option (Step F)). option_and_then (λ next. option_map (with_step next) (run embedding budget left next.state next.hosts)) o) s
      ∙ ap (λ (o : Option (History F)). option_map (with_step one) o) (is_run left one.state one.hosts others t)

  may_in_turn : (requests : List Request) (state : State) (hosts : Hosts) (history : History F) → Runs embedding budget requests state hosts history → InTurn (Steps embedding budget) requests state hosts history
  may_in_turn requests state hosts history no_request = none
  may_in_turn requests state hosts history (next_request {requests = left} {one} {rest = others} s r) = one_more s (may_in_turn left one.state one.hosts others r)

  may_run : (requests : List Request) (state : State) (hosts : Hosts) (history : History F) → InTurn (Steps embedding budget) requests state hosts history → Runs embedding budget requests state hosts history
  may_run requests state hosts history none = no_request
  may_run requests state hosts history (one_more {requests = left} {one} {others} s t) = next_request s (may_run left one.state one.hosts others t)

  -- the laws

  pub run_leaves : HistoriesLeaveTheRest (IsRunOf embedding budget)
  run_leaves requests state hosts history e =
      taken_so (turns_leave (IsStepOf embedding budget) (step_leaves embedding budget) requests state hosts history (in_turn requests state hosts history e))
      (λ x y t. is_run requests state (hosts_of hosts.pool x) (history_with_answers y history) t)

  pub all_leave : HistoriesLeaveTheRest (Runs embedding budget)
  all_leave requests state hosts history r =
      taken_so (turns_leave (Steps embedding budget) (steps_leave embedding budget) requests state hosts history (may_in_turn requests state hosts history r))
      (λ x y t. may_run requests state (hosts_of hosts.pool x) (history_with_answers y history) t)

  pub chain_runs : ChainsAreRuns (IsStepOf embedding budget) (IsRunOf embedding budget)
  chain_runs requests state pool lists history rest c =
      is_run requests state (hosts_of pool (all_of lists ++ rest)) (history_with_answers rest history) (chain_in_turn (IsStepOf embedding budget) (step_leaves embedding budget) requests state pool lists history rest c)

  pub chain_may_run : ChainsAreRuns (Steps embedding budget) (Runs embedding budget)
  chain_may_run requests state pool lists history rest c =
      may_run requests state (hosts_of pool (all_of lists ++ rest)) (history_with_answers rest history) (chain_in_turn (Steps embedding budget) (steps_leave embedding budget) requests state pool lists history rest c)

  pub run_chained : RunsAreChains (IsStepOf embedding budget) (IsRunOf embedding budget)
  run_chained requests state hosts history e = turns_chained (IsStepOf embedding budget) (step_leaves embedding budget) requests state hosts history (in_turn requests state hosts history e)

  pub may_run_chained : RunsAreChains (Steps embedding budget) (Runs embedding budget)
  may_run_chained requests state hosts history r = turns_chained (Steps embedding budget) (steps_leave embedding budget) requests state hosts history (may_in_turn requests state hosts history r)
