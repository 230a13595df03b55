-- How the requests of a batch run over an engine, before anything is stored.
use Rattle.std.specs.Prelude.{◌≡◌, ◌⊎◌, ℕ, ◌+◌, ◌-◌, ◌*◌, ◌^◌, ◌≤◌, ◌<◌, List, [], ◌∷◌, ◌++◌, length, map}
use Rattle.std.specs.Prelude.{Option, Some, None, Result, Ok, Err}
use Rattle.std.specs.List.{flat_map, AllByRecursion}
use Rattle.ash_host.specs.declared.host_object.HostObject.{Ghosts}
use Rattle.ash_requests.specs.Requests.{Request, Load, Call, Discard, Reply, Refused, NoMemory}
use Rattle.ash_requests.specs.RequestViews.{request_seen}
use Rattle.ash_requests.specs.declared.request.Request as code_request
use Rattle.ash_sources.specs.SourceFaults.{SourceFault}
use Rattle.ash_image.specs.declared.version.Version.TheVariants.{Two}
use Rattle.ash_image.specs.Delta.{delta, FitsDelta}
use Rattle.ash_image.specs.Deltas.{deltas_tag}
use Rattle.ash_journal.specs.Layout.{length_limit}
use Rattle.ash_states.specs.HostStates.{HostState, IsAdmitted}
use Rattle.ash_states.specs.Images.{IsBodyIn}
use Rattle.ash_engine.specs.LiveStates.{LiveState, EngineState}
use Rattle.ash_engine.specs.RecordedChanges.{delta_named}
use Rattle.ash_durable.specs.declared.batching.BatchRun.{BatchRun}
use Rattle.ash_durable.specs.declared.batching.BatchStop.{BatchStop}
use Rattle.ash_durable.specs.declared.batching.BatchStop.TheVariants as stops
use Rattle.ash_durable.specs.Hosting.{IsAnswer}
use Rattle.ash_durable.specs.BatchViews.{batch_reply_seen}
use Rattle.ash_durable.specs.Batches.{BatchRequest, Asked, BadRequest, BatchReply, Replied, RefusedBad, BatchSteps}
use Rattle.ash_durable.specs.Batches.{after_answer, answered_in, IsBodyOfBatch, HasBegunToChange}

-- ---- a request of a batch

-- what the code found a request of a batch to be: one of a host, or none, by the number of its refusal
abbrev pub asked_seen : Result code_request.Request ℕ → BatchRequest
asked_seen (Ok request) = Asked (request_seen request)
asked_seen (Err number) = BadRequest number

-- the request if it may add a record
abbrev pub adding_one : BatchRequest → Option Request
adding_one (Asked (Load module_name source)) = Some (Load module_name source)
adding_one (Asked (Call module_name function arguments)) = Some (Call module_name function arguments)
adding_one (Asked (Discard module_name)) = Some (Discard module_name)
adding_one _ = None

-- ---- a reply of a batch

-- a reply to a request that was answered
abbrev pub IsAnswered : BatchReply → Type 0
IsAnswered (Replied reply) = IsAnswer reply
IsAnswered (RefusedBad number) = ⊥

-- the live state after a request, if the request was answered
abbrev pub answered_by : {B : Type 0} → BatchReply → LiveState B → List (LiveState B)
answered_by (Replied reply) next = after_answer reply next []
answered_by (RefusedBad number) next = []

-- What a batch makes of the reply of a host: it ends if memory was refused, else it has the reply.
abbrev pub IsReplyOfBatch : Reply SourceFault → Option BatchReply → Type 0
IsReplyOfBatch reply None = reply ≡ Refused NoMemory
IsReplyOfBatch reply (Some given) = (given ≡ Replied reply) × (reply ≡ Refused NoMemory → ⊥)

-- ---- how far a batch has run

-- a live state whose changes have a spelling, and in which a host may be
pub record MayBeStored {B : Type 0} (live : LiveState B) : Type 0 where
  pub fits : FitsDelta Two (delta_named live)
  pub admitted : IsAdmitted live.durable

-- The first requests of a batch stepped from a live state to that of an engine, and these are their replies. These are
-- the live states after those that were answered.
pub record HaveStepped {B : Type 0} (G : Ghosts B) (budget : ℕ) (requests : List BatchRequest) (live : LiveState B)
    (replies : List BatchReply) (answered : List (LiveState B)) (engine : EngineState B) : Type 0 where
  pub after : LiveState B
  pub live_is : engine.live ≡ Some after
  pub steps : BatchSteps G budget requests live replies after
  pub answered_are : answered_in steps ≡ answered

-- the most bytes of one delta
abbrev pub max_delta_bytes : ℕ
max_delta_bytes = 2 ^ 28 - 2

-- The first requests of a batch have run: their replies are there, and what the answered ones changed is in the body of
-- a record, of which the count is not set.
pub record HasRun {B : Type 0} (G : Ghosts B) (budget : ℕ) (requests : List BatchRequest) (live : LiveState B)
    (run : BatchRun) (engine : EngineState B) : Type 0 where
  pub answered : List (LiveState B)
  pub stepped : HaveStepped G budget requests live (map batch_reply_seen run.replies.items) answered engine
  pub stored : AllByRecursion MayBeStored answered
  pub count : run.answered ≡ length answered
  pub body_is : run.body.items ≡ deltas_tag ∷ 0 ∷ flat_map delta (map delta_named answered)
  pub short : length run.body.items ≤ 2 + run.answered * max_delta_bytes

-- A body is as it was, or it was too long for a record and has the image of a state in place of what it had.
abbrev pub IsFitted : HostState → List ℕ → List ℕ → Type 0
IsFitted state old new =
    ((length old < length_limit) × (new ≡ old))
    ⊎ ((length_limit ≤ length old) × IsBodyIn Two new state × (length new < length_limit))

-- All requests of a batch have run, and the body of the record is whole if some were answered.
pub record HasRunWhole {B : Type 0} (G : Ghosts B) (budget : ℕ) (requests : List BatchRequest) (live : LiveState B)
    (run : BatchRun) (engine : EngineState B) : Type 0 where
  pub answered : List (LiveState B)
  pub stepped : HaveStepped G budget requests live (map batch_reply_seen run.replies.items) answered engine
  pub stored : AllByRecursion MayBeStored answered
  pub count : run.answered ≡ length answered
  pub is_body : (after : LiveState B) → engine.live ≡ Some after → (answered ≡ [] → ⊥)
      → IsBodyOfBatch after.durable answered run.body.items
  pub short : length run.body.items < length_limit

-- a batch of which so many requests were answered ends so if memory is refused
abbrev pub IsStopAfter : ℕ → BatchStop → Type 0
IsStopAfter answered stops.Unchanged = answered ≡ 0
IsStopAfter answered stops.Lost = answered ≡ 0 → ⊥

-- Why a batch ends before its last request: memory was refused, and the live state is as it was before the batch; or it
-- is lost, since a request was answered, or the next one changed it.
abbrev pub StopsBatch : {B : Type 0} → Ghosts B → ℕ → List BatchRequest → LiveState B → BatchStop → EngineState B
    → Type 0
StopsBatch G budget requests live stops.Unchanged engine = engine.live ≡ Some live
StopsBatch G budget requests live stops.Lost engine = HasBegunToChange G budget requests live

-- what came of one request more
abbrev pub RunsRequest : {B : Type 0} → Ghosts B → ℕ → List BatchRequest → LiveState B → BatchRequest
    → Result (Unit {0}) BatchStop → BatchRun → EngineState B → Type 0
RunsRequest G budget done live request (Ok ran) run engine =
    HasRun G budget (done ++ request ∷ []) live run engine
RunsRequest G budget done live request (Err stop) run engine =
    (rest : List BatchRequest) → StopsBatch G budget (done ++ request ∷ rest) live stop engine

-- the same, whatever requests ran before from whatever live state
abbrev pub RunsNext : {B : Type 0} → Ghosts B → ℕ → BatchRequest → BatchRun → EngineState B
    → Result (Unit {0}) BatchStop → BatchRun → EngineState B → Type 0
RunsNext {B} G budget request old engine result new later =
    (live : LiveState B) (done : List BatchRequest) → HasRun G budget done live old engine
    → RunsRequest G budget done live request result new later

-- what came of all requests of a batch
abbrev pub RunsBatch : {B : Type 0} → Ghosts B → ℕ → List BatchRequest → LiveState B → Result BatchRun BatchStop
    → EngineState B → Type 0
RunsBatch G budget requests live (Ok run) engine = HasRunWhole G budget requests live run engine
RunsBatch G budget requests live (Err stop) engine = StopsBatch G budget requests live stop engine

-- ---- one reply more

-- A batch that runs has one reply more, and what the request changed if it was answered, as a live state names it.
pub record AddsReply {B : Type 0} (live : LiveState B) (reply : BatchReply) (old new : BatchRun) : Type 0 where
  pub replies : map batch_reply_seen new.replies.items ≡ map batch_reply_seen old.replies.items ++ reply ∷ []
  pub body : new.body.items ≡ old.body.items ++ flat_map delta (map delta_named (answered_by reply live))
  pub fits : AllByRecursion (λ (l : LiveState B). FitsDelta Two (delta_named l)) (answered_by reply live)
  pub count : new.answered ≡ old.answered + length (answered_by reply live)
  pub short : length new.body.items ≤ length old.body.items + length (answered_by reply live) * max_delta_bytes

-- or memory is refused for these
abbrev pub TriesReply : {B : Type 0} → LiveState B → BatchReply → BatchRun → Result (Unit {0}) BatchStop → BatchRun
    → Type 0
TriesReply live reply old (Ok added) new = AddsReply live reply old new
TriesReply live reply old (Err stop) new = IsStopAfter (old.answered + length (answered_by reply live)) stop
