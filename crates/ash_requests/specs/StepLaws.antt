-- The laws of steps.
use Rattle.std.specs.Prelude.{◌≡◌, ◌⊎◌, ◌+◌, ◌++◌, List, [], flat_map}
use Rattle.ash_host.specs.declared.event.Event.{Event}
use Rattle.ash_host.specs.Records.{HostRecord}
use Rattle.ash_meaning.specs.Numbers.{NumberLives}
use Rattle.ash_meaning.specs.MeaningLaws.{IsNotAborted as EndIsNotAborted}
use Rattle.ash_requests.specs.States.{State, Hosts, numbering_of}
use Rattle.ash_requests.specs.Requests.{Request, Refusal, Reply, Answered, Refused}
use Rattle.ash_requests.specs.Steps.{Step, History, IsPutOff, replied}

-- an answer has the number after that of the state before, which the state after it has too; any other reply leaves the
-- state as it was
abbrev pub CountsAnswers : {Fault : Type 0} → State → Reply Fault → State → Type 0
CountsAnswers old (Answered end seq events) new = (seq ≡ old.seq + 1) × (new.seq ≡ seq)
CountsAnswers old _ new = new ≡ old

-- the step was put off
abbrev pub WasNotTaken : {Fault : Type 0} → Request → State → Hosts → Step Fault → Type 0
WasNotTaken {Fault} request state hosts one =
    (refusal : Refusal Fault) × IsPutOff request refusal × (one ≡ replied (Refused refusal) state hosts)

-- two steps of one request are one, but where one of them was put off
abbrev pub AreOneUnlessPutOff : {Fault : Type 0} → Request → State → Hosts → Step Fault → Step Fault → Type 0
AreOneUnlessPutOff request state hosts one other =
    (one ≡ other) ⊎ (WasNotTaken request state hosts one ⊎ WasNotTaken request state hosts other)

-- the events of requests, one after another
abbrev pub events_of_reply : {Fault : Type 0} → Reply Fault → List Event
events_of_reply (Answered end seq events) = events
events_of_reply _ = []

abbrev pub events_of : {Fault : Type 0} → History Fault → List Event
events_of history = flat_map events_of_reply history.replies

-- Over requests each number has its life: it is drawn at most once, and dropped at most once and only after it was
-- drawn.
abbrev pub RunNumbersLiveOnce : {Fault : Type 0} → State → History Fault → Type 0
RunNumbersLiveOnce old history = NumberLives (numbering_of old) (events_of history) (numbering_of history.state)

-- a reply that does not say that a run was aborted
abbrev pub ReplyIsNotAborted : {Fault : Type 0} → Reply Fault → Type 0
ReplyIsNotAborted (Answered end seq events) = EndIsNotAborted end
ReplyIsNotAborted _ = Unit {0}

-- The answers of hosts are taken in order: over requests the first of them, and the others are left.
abbrev pub RunTakesInOrder : {Fault : Type 0} → Hosts → History Fault → Type 0
RunTakesInOrder hosts history = (taken : List HostRecord) × (hosts.answers ≡ taken ++ history.hosts.answers)
