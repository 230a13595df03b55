-- Requests that are answered one after another, each from a list of answers of its own.
use Rattle.std.specs.Prelude.{◌≡◌, ◌++◌, ℕ, List, [], ◌∷◌, flat_map, Some}
use Rattle.ash_host.specs.Records.{HostRecord}
use Rattle.ash_meaning.specs.Activity.{FreeBox}
use Rattle.ash_requests.specs.States.{State, Hosts, Embedding}
use Rattle.ash_requests.specs.Requests.{Request}
use Rattle.ash_requests.specs.Steps.{Step, step, History, begin_history, with_step, run}
use Rattle.ash_answer_laws.specs.TakenAnswers.{Takes}

-- the hosts with these free boxes and these answers
abbrev pub hosts_of : List FreeBox → List HostRecord → Hosts
hosts_of pool answers = record { pool = pool; answers = answers }

-- the same, with these answers

abbrev pub step_with_answers : {Fault : Type 0} → List HostRecord → Step Fault → Step Fault
step_with_answers answers one = record one { hosts = hosts_of (one.hosts).pool answers }

abbrev pub history_with_answers : {Fault : Type 0} → List HostRecord → History Fault → History Fault
history_with_answers answers history = record history { hosts = hosts_of (history.hosts).pool answers }

-- what one request may come to, and what a list of them may
abbrev pub StepRelation : Type 0 → Type 1
StepRelation Fault = Request → State → Hosts → Step Fault → Type 0

abbrev pub HistoryRelation : Type 0 → Type 1
HistoryRelation Fault = List Request → State → Hosts → History Fault → Type 0

-- what a request comes to is its step
abbrev pub IsStepOf : {Fault : Type 0} → Embedding Fault → ℕ → StepRelation Fault
IsStepOf embedding budget request state hosts one = step embedding budget request state hosts ≡ Some one

-- what requests come to is their run
abbrev pub IsRunOf : {Fault : Type 0} → Embedding Fault → ℕ → HistoryRelation Fault
IsRunOf embedding budget requests state hosts history = run embedding budget requests state hosts ≡ Some history

-- What a request comes to takes the first of the answers.
abbrev pub StepsLeaveTheRest : {Fault : Type 0} → StepRelation Fault → Type 0
StepsLeaveTheRest {Fault} comes_to =
    (request : Request) (state : State) (hosts : Hosts) (one : Step Fault)
    → comes_to request state hosts one
    → Takes (λ answers left. comes_to request state (hosts_of hosts.pool answers) (step_with_answers left one))
    hosts.answers (one.hosts).answers

-- What requests come to takes the first of the answers.
abbrev pub HistoriesLeaveTheRest : {Fault : Type 0} → HistoryRelation Fault → Type 0
HistoriesLeaveTheRest {Fault} comes_to =
    (requests : List Request) (state : State) (hosts : Hosts) (history : History Fault)
    → comes_to requests state hosts history
    → Takes (λ answers left. comes_to requests state (hosts_of hosts.pool answers) (history_with_answers left history))
    hosts.answers (history.hosts).answers

-- chains

-- all answers of these lists, in order
abbrev pub all_of : List (List HostRecord) → List HostRecord
all_of lists = flat_map (λ answers. answers) lists

-- A chain of requests: each comes to a step from the state and the pool that the one before it left, and takes all
-- answers of a list of its own, one list a request.
pub data IsChain {Fault : Type 0} (comes_to : StepRelation Fault) : List Request → State → List FreeBox
    → List (List HostRecord) → History Fault → Type 0 where
  no_request : {state : State} {pool : List FreeBox}
      → IsChain comes_to [] state pool [] (begin_history state (hosts_of pool []))
  next_request : {request : Request} {requests : List Request} {state : State} {pool : List FreeBox}
      {answers : List HostRecord} {more : List (List HostRecord)} {one : Step Fault} {others : History Fault}
      → comes_to request state (hosts_of pool answers) one
      → one.hosts.answers ≡ []
      → IsChain comes_to requests one.state one.hosts.pool more others
      → IsChain comes_to (request ∷ requests) state pool (answers ∷ more) (with_step one others)

-- Chains are runs over their lists joined in order, which leave what is behind those.
abbrev pub ChainsAreRuns : {Fault : Type 0} → StepRelation Fault → HistoryRelation Fault → Type 0
ChainsAreRuns {Fault} comes_to run_to =
    (requests : List Request) (state : State) (pool : List FreeBox) (lists : List (List HostRecord))
    (history : History Fault) (rest : List HostRecord)
    → IsChain comes_to requests state pool lists history
    → run_to requests state (hosts_of pool (all_of lists ++ rest)) (history_with_answers rest history)

-- The answers that requests took are a list each, in order, and the requests are a chain over these.
pub record IsChained {Fault : Type 0} (comes_to : StepRelation Fault) (requests : List Request) (state : State)
    (hosts : Hosts) (history : History Fault) : Type 0 where
  pub lists : List (List HostRecord)
  pub all : hosts.answers ≡ all_of lists ++ (history.hosts).answers
  pub chain : IsChain comes_to requests state hosts.pool lists (history_with_answers [] history)

-- Runs are chains over the answers that they took.
abbrev pub RunsAreChains : {Fault : Type 0} → StepRelation Fault → HistoryRelation Fault → Type 0
RunsAreChains {Fault} comes_to run_to =
    (requests : List Request) (state : State) (hosts : Hosts) (history : History Fault)
    → run_to requests state hosts history
    → IsChained comes_to requests state hosts history
