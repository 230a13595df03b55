-- The life of a store: everything that can happen to it, and what is left of the requests.
use Rattle.std.specs.Prelude.{◌≡◌, ◌⊎◌, ℕ, List, [], ◌∷◌, ◌++◌, slice_get, Option, Some, None, Result, Ok, Err}
use Rattle.std.specs.List.{AllByRecursion}
use Rattle.ash_disk.specs.Device.{Device}
use Rattle.ash_disk.specs.DiskImage.{LeavesOnly}
use Rattle.ash_disk.specs.Moments.{LeftSince}
use Rattle.ash_journal.specs.Layout.{IsOpen}
use Rattle.ash_journal.specs.Writes.{WasUnused}
use Rattle.ash_host.specs.declared.event.Event.{Event as HostEvent}
use Rattle.ash_host.specs.declared.event.Target.{Target}
use Rattle.ash_host.specs.declared.event.Target.TheVariants as targets
use Rattle.ash_host.specs.declared.host_object.HostObject.{Ghosts}
use Rattle.ash_host.specs.Objects.{object_at}
use Rattle.ash_host.specs.Records.{HostRecord}
use Rattle.ash_meaning.specs.Activity.{FreeBox}
use Rattle.ash_meaning.specs.Ends.{End}
use Rattle.ash_requests.specs.Requests.{Request, Reply, Answered, Refused, Refusal}
use Rattle.ash_registry.specs.AcceptedRegistrations.{Registration}
use Rattle.ash_sources.specs.SourceFaults.{SourceFault}
use Rattle.ash_states.specs.HostStates.{HostState, service_kinds}
use Rattle.ash_engine.specs.LiveStates.{LiveState, hosts_in}
use Rattle.ash_engine.specs.LiveSteps.{Reached, reached_by, StepsFor, TakesStep, IsValidOf}
use Rattle.ash_durable.specs.HandedBoxes.{first_reached, AreSaved, CanOpen}
use Rattle.ash_durable.specs.Hosting.{Hosted, first, second, IsRunning, IsSaved, IsAnswer, Handles, TookStep, RunsSound}
use Rattle.ash_durable.specs.Batches as batches
use Rattle.ash_durable.specs.Batches.{BatchRequest, Asked, BadRequest, BatchReply, BatchResult, BatchSteps, NoneLeft}
use Rattle.ash_durable.specs.Batches.{Bad, Step, TookBatch, HandlesBatch, HostCall, SingleCall, BatchCall}
use Rattle.ash_durable.specs.Batches.{HostResult, SingleResult, BatchGiven}
use Rattle.ash_durable.specs.OpenedStore.{AreOfState, WasOpened, WasRefused, Opens, first_found, second_found}
use Rattle.ash_durable.specs.RequestRuns.{LosesAnswer}
use Rattle.ash_durable.specs.StoredStates.{AreHonest, SettleNow, IsOne, IsEither}
use Rattle.ash_durable.specs.Store.{WereOnlyRead, WasCreated, WasNotCreated, Creates}
use Rattle.ash_durable.specs.declared.fault.OpenRefused.{OpenRefused}

-- ---- events

-- What is known of a store by those who use it: a request was answered, by how its run ended, how many requests had
-- been answered, what happened to host objects, and what these answered; a request is in doubt, handled or not; a batch
-- is in doubt, all of it handled or nothing; a host was opened, in this state and with these free boxes.
pub data StoreEvent : Type 0 where
  Acknowledged : (budget : ℕ) → (request : Request) → (end : End) → (seq : ℕ) → (happened : List HostEvent)
      → (answers : List HostRecord) → StoreEvent
  InDoubt : (budget : ℕ) → (request : Request) → StoreEvent
  InDoubtBatch : (budget : ℕ) → (requests : List BatchRequest) → StoreEvent
  Found : (reached : Reached) → StoreEvent

-- There are boxes that may give these answers in one request. That of an object that lives before it or after it is of
-- the object's kind, and that of a service of the kind that is registered in its place; and each answer is within the
-- relation of the very box to which its call goes.
pub record MayAnswer {B : Type 0} (G : Ghosts B) (before after : Reached) (answers : List HostRecord) : Type 0 where
  pub answerers : Target → Option B
  pub objects : (number : ℕ) (host : FreeBox) (box : B)
      → ((object_at number (hosts_in ((before.durable).state).objects) ≡ Some host)
      ⊎ (object_at number (hosts_in ((after.durable).state).objects) ≡ Some host))
      → answerers (targets.Object number) ≡ Some box → G.kind_of box ≡ host.kind
  pub services : (place kind : ℕ) (box : B) → slice_get (service_kinds (before.durable).registered) place ≡ Some kind
      → answerers (targets.Service place) ≡ Some box → G.kind_of box ≡ kind
  pub valid : AllByRecursion (λ (r : HostRecord). IsValidOf G (answerers r.target) r) answers

-- A request takes what was reached to the next by its step, for answers that host objects may give.
pub record MaySteps {B : Type 0} (G : Ghosts B) (budget : ℕ) (request : Request) (before after : Reached) : Type 0 where
  pub reply : Reply SourceFault
  pub answers : List HostRecord
  pub may : MayAnswer G before after answers
  pub stepped : StepsFor answers budget request before reply after

-- The requests of a batch take what was reached to the next by their steps, one after the other.
abbrev pub MayStepThrough : {B : Type 0} → Ghosts B → ℕ → List BatchRequest → Reached → Reached → Type 0
MayStepThrough G budget [] before after = after ≡ before
MayStepThrough G budget (BadRequest number ∷ requests) before after = MayStepThrough G budget requests before after
MayStepThrough G budget (Asked request ∷ requests) before after =
    (next : Reached) × MaySteps G budget request before next × MayStepThrough G budget requests next after

-- An event takes what was reached to the next. A request that was answered has taken its step, with that answer, for
-- answers that host objects may give; one that is in doubt has taken it, or nothing has changed; a batch in doubt has
-- taken all of its steps, or nothing has changed; if a host was opened the state is the one that it had, and the free
-- boxes are those that it was handed.
abbrev pub LeadsTo : {B : Type 0} → Ghosts B → StoreEvent → Reached → Reached → Type 0
LeadsTo G (Acknowledged budget request end seq happened answers) before after =
    MayAnswer G before after answers × StepsFor answers budget request before (Answered end seq happened) after
LeadsTo G (InDoubt budget request) before after = (after ≡ before)
    ⊎ ((reply : Reply SourceFault) × (answers : List HostRecord) × MayAnswer G before after answers
    × StepsFor answers budget request before reply after)
LeadsTo G (InDoubtBatch budget requests) before after =
    (after ≡ before) ⊎ MayStepThrough G budget requests before after
LeadsTo G (Found reached) before after = (before.durable ≡ reached.durable) × (after ≡ reached)

-- events, the newest first, lead from what was reached to what is
abbrev pub LeadTo : {B : Type 0} → Ghosts B → List StoreEvent → Reached → Reached → Type 0
LeadTo G [] start reached = reached ≡ start
LeadTo G (event ∷ earlier) start reached =
    (before : Reached) × LeadTo G earlier start before × LeadsTo G event before reached

-- Events lead to a state by way of one of them: those before it lead to what it takes to the next, and from there those
-- after it lead on.
pub record LeadBy {B : Type 0} (G : Ghosts B) (later : List StoreEvent) (event : StoreEvent)
    (earlier : List StoreEvent) (start : Reached) (state : HostState) : Type 0 where
  pub before : Reached
  pub after : Reached
  pub last : Reached
  pub led : LeadTo G earlier start before
  pub stepped : LeadsTo G event before after
  pub leads_on : LeadTo G later after last
  pub state_is : last.durable ≡ state

-- the newest event is not in doubt, or there is none
abbrev pub IsCertain : List StoreEvent → Type 0
IsCertain (InDoubt budget request ∷ earlier) = ⊥
IsCertain (InDoubtBatch budget requests ∷ earlier) = ⊥
IsCertain _ = Unit {0}

-- since the store was made or last opened, each event is a request that was answered
abbrev pub AreAcknowledged : List StoreEvent → Type 0
AreAcknowledged (Acknowledged budget request end seq happened answers ∷ earlier) = AreAcknowledged earlier
AreAcknowledged (InDoubt budget request ∷ earlier) = ⊥
AreAcknowledged (InDoubtBatch budget requests ∷ earlier) = ⊥
AreAcknowledged _ = Unit {0}

-- Since then the events are a prefix of the requests that were handled: each is one that was answered, except
-- the newest, which may be a request or a batch in doubt.
abbrev pub IsOfPrefix : List StoreEvent → Type 0
IsOfPrefix (InDoubt budget request ∷ earlier) = AreAcknowledged earlier
IsOfPrefix (InDoubtBatch budget requests ∷ earlier) = AreAcknowledged earlier
IsOfPrefix events = AreAcknowledged events

-- ---- batches

-- the event of a request that took its step, before those of later requests, if it was answered
abbrev pub event_of : {B : Type 0} {G : Ghosts B} {budget : ℕ} {request : Request} {live next : LiveState B}
    → (reply : Reply SourceFault) → TakesStep G budget request live reply next → List StoreEvent
event_of {B} {G} {budget} {request} (Answered end seq happened) stepped =
    Acknowledged budget request end seq happened stepped.answers ∷ []
event_of _ stepped = []

-- the events of a batch that was carried out, the newest first: each of its requests that was answered
unfoldable pub acknowledged_in : {B : Type 0} {G : Ghosts B} {budget : ℕ} {requests : List BatchRequest}
    {live : LiveState B} {replies : List BatchReply} {after : LiveState B}
    → BatchSteps G budget requests live replies after → List StoreEvent
acknowledged_in (NoneLeft live) = []
acknowledged_in (Bad number requests live replies after more) = acknowledged_in more
acknowledged_in (Step request requests live reply next replies after stepped boxes more) =
    acknowledged_in more ++ event_of reply stepped

-- ---- crashes

-- Two honest disks take the place of two others after a crash: each image that they may leave now is one that the
-- others might have left at a moment since two earlier times. After a power failure they may leave one image alone;
-- after the end of the process, any that might be left at that moment.
pub record Crashed {D : Type 0} (device : Device D) (a b : ℕ) (one other one' other' : D) : Type 0 where
  pub honest : AreHonest device one' other'
  pub left_first : (image : List ℕ) → device.leaves one' (device.clock one') image
      → LeftSince (device.clock one) (device.leaves one) a image
  pub left_second : (image : List ℕ) → device.leaves other' (device.clock other') image
      → LeftSince (device.clock other) (device.leaves other) b image

-- two images that a power failure may have left of two disks, at two moments since two earlier times
pub record AreLeft {D : Type 0} (device : Device D) (a b : ℕ) (one other : D) (x y : List ℕ) : Type 0 where
  pub left_first : LeftSince (device.clock one) (device.leaves one) a x
  pub left_second : LeftSince (device.clock other) (device.leaves other) b y

-- two honest disks that begin with these images
pub record BeginWith {D : Type 0} (device : Device D) (one other : D) (x y : List ℕ) : Type 0 where
  pub honest : AreHonest device one other
  pub only_first : LeavesOnly x (device.leaves one (device.clock one))
  pub only_second : LeavesOnly y (device.leaves other (device.clock other))

-- two honest disks on which nothing was ever stored, or whose files are out of use
pub record AreFresh {D : Type 0} (device : Device D) (one other : D) : Type 0 where
  pub honest : AreHonest device one other
  pub rested_first : WasUnused device (device.clock one) one
  pub rested_second : WasUnused device (device.clock other) other

-- whatever a crash now leaves of two disks, a file is open
abbrev pub IsOneOpen : {D : Type 0} → Device D → D → D → Type 0
IsOneOpen device one other =
    (x y : List ℕ) → device.leaves one (device.clock one) x → device.leaves other (device.clock other) y → IsOpen x
    ⊎ IsOpen y

-- the disks that are left of creating a host, or opening one, be it refused
abbrev pub first_of : {D B : Type 0} → Result (Hosted D B) (OpenRefused D) → D
first_of (Ok host) = first host
first_of (Err refused) = refused.a

abbrev pub second_of : {D B : Type 0} → Result (Hosted D B) (OpenRefused D) → D
second_of (Ok host) = second host
second_of (Err refused) = refused.b

-- ---- lives

-- where a store is: under a host, or on two disks that no host has
pub data StoreLocation (D B : Type 0) : Type 0 where
  UnderHost : (host : Hosted D B) → StoreLocation D B
  OnDisks : (one other : D) → StoreLocation D B

-- the disks on which a store is
abbrev pub first_at : {D B : Type 0} → StoreLocation D B → D
first_at (UnderHost host) = first host
first_at (OnDisks one other) = one

abbrev pub second_at : {D B : Type 0} → StoreLocation D B → D
second_at (UnderHost host) = second host
second_at (OnDisks one other) = other

-- A life of a store that began with this state and these free boxes, with its events, the newest first. Each way to go
-- on is what the contract of a public call says, or a crash at any moment of one. It begins when a host is created, or
-- when a crash on the way there leaves the store, or when a host is opened in a store that is there; a crash that leaves
-- no file open leaves no store.
pub data Life {D B : Type 0} (device : Device D) (G : Ghosts B) (start : Reached)
    : List StoreEvent → StoreLocation D B → Type 0 where
  -- a host is created
  Created : (registered : List Registration) (pool services : List B) (a b : D) (host : Hosted D B)
      → start ≡ first_reached G registered pool services → AreHonest device a b
      → WasCreated device G registered pool services a b host → Life device G start [] (UnderHost host)
  -- a crash while it is, or after that was refused, leaves a file open
  CrashedCreating : (registered : List Registration) (pool services : List B) (a b : D)
      (result : Result (Hosted D B) (OpenRefused D)) (a' b' : D)
      → start ≡ first_reached G registered pool services → AreFresh device a b
      → Creates device G registered pool services a b result → Crashed device (device.clock a) (device.clock b)
      (first_of result) (second_of result) a' b' → IsOneOpen device a' b' → Life device G start [] (OnDisks a' b')
  -- after such a crash, or a refusal, a host is opened at once
  OpenedCreating : (registered : List Registration) (pool services : List B) (a b : D)
      (result : Result (Hosted D B) (OpenRefused D)) (a' b' : D) (pool' services' : List B) (host : Hosted D B)
      → start ≡ first_reached G registered pool services → AreFresh device a b
      → Creates device G registered pool services a b result
      → Crashed device (device.clock a) (device.clock b) (first_of result) (second_of result) a' b'
      → (opened : WasOpened device G registered pool' services' a' b' host)
      → Life device G start (Found (reached_by opened.live) ∷ []) (UnderHost host)
  -- a host is opened on disks with a store of which nothing is known yet
  OpenedFirst : (registered : List Registration) (pool services : List B) (a b : D) (host : Hosted D B)
      → AreHonest device a b → (opened : WasOpened device G registered pool services a b host)
      → start ≡ reached_by opened.live → Life device G start (Found (reached_by opened.live) ∷ []) (UnderHost host)
  -- a request is answered
  Replied : (events : List StoreEvent) (budget : ℕ) (request : Request) (old : Hosted D B) (live : LiveState B)
      (end : End) (seq : ℕ) (happened : List HostEvent) (new : Hosted D B)
      → Life device G start events (UnderHost old) → old.live ≡ Some live
      → Handles device G budget request old (Answered end seq happened) new
      → (took : TookStep device G budget request live old (Answered end seq happened) new)
      → Life device G start (Acknowledged budget request end seq happened took.stepped.answers ∷ events)
      (UnderHost new)
  -- a request has another reply, and the host runs on, or has to be reopened as before
  Unanswered : (events : List StoreEvent) (budget : ℕ) (request : Request) (old : Hosted D B)
      (reply : Reply SourceFault) (new : Hosted D B) → Life device G start events (UnderHost old)
      → Handles device G budget request old reply new
      → (IsAnswer reply → ⊥) → (new.live ≡ None → old.live ≡ None) → Life device G start events (UnderHost new)
  -- a request has another reply, and the host has to be reopened from now on
  Failed : (events : List StoreEvent) (budget : ℕ) (request : Request) (old : Hosted D B)
      (reply : Reply SourceFault) (new : Hosted D B) → Life device G start events (UnderHost old)
      → Handles device G budget request old reply new
      → (IsAnswer reply → ⊥) → (old.live ≡ None → ⊥) → new.live ≡ None
      → Life device G start (InDoubt budget request ∷ events) (UnderHost new)
  -- a crash while a host that runs handles a request, at any moment from its beginning to its reply; one that must be
  -- reopened does nothing
  CrashedHandling : (events : List StoreEvent) (budget : ℕ) (request : Request) (old : Hosted D B)
      (reply : Reply SourceFault) (new : Hosted D B) (a b : D) → Life device G start events (UnderHost old)
      → Handles device G budget request old reply new → (old.live ≡ None → ⊥)
      → Crashed device (device.clock (first old)) (device.clock (second old)) (first new) (second new) a b
      → Life device G start (InDoubt budget request ∷ events) (OnDisks a b)
  -- a batch is carried out
  RepliedBatch : (events : List StoreEvent) (budget : ℕ) (requests : List BatchRequest) (old : Hosted D B)
      (live : LiveState B) (replies : List BatchReply) (new : Hosted D B) → Life device G start events (UnderHost old)
      → old.live ≡ Some live → HandlesBatch device G budget requests old (Ok replies) new
      → (took : TookBatch device G budget requests live old replies new)
      → Life device G start (acknowledged_in took.steps ++ events) (UnderHost new)
  -- a batch is refused, and the host runs on, or has to be reopened as before
  UnansweredBatch : (events : List StoreEvent) (budget : ℕ) (requests : List BatchRequest) (old : Hosted D B)
      (refusal : Refusal SourceFault) (new : Hosted D B) → Life device G start events (UnderHost old)
      → HandlesBatch device G budget requests old (Err refusal) new → (new.live ≡ None → old.live ≡ None)
      → Life device G start events (UnderHost new)
  -- a batch is refused, and the host has to be reopened from now on
  FailedBatch : (events : List StoreEvent) (budget : ℕ) (requests : List BatchRequest) (old : Hosted D B)
      (refusal : Refusal SourceFault) (new : Hosted D B) → Life device G start events (UnderHost old)
      → HandlesBatch device G budget requests old (Err refusal) new → (old.live ≡ None → ⊥) → new.live ≡ None
      → Life device G start (InDoubtBatch budget requests ∷ events) (UnderHost new)
  -- a crash while a host that runs carries out a batch, at any moment from its beginning to its replies
  CrashedBatching : (events : List StoreEvent) (budget : ℕ) (requests : List BatchRequest) (old : Hosted D B)
      (result : BatchResult) (new : Hosted D B) (a b : D) → Life device G start events (UnderHost old)
      → HandlesBatch device G budget requests old result new → (old.live ≡ None → ⊥)
      → Crashed device (device.clock (first old)) (device.clock (second old)) (first new) (second new) a b
      → Life device G start (InDoubtBatch budget requests ∷ events) (OnDisks a b)
  -- a host is closed
  Closed : (events : List StoreEvent) (host : Hosted D B) → Life device G start events (UnderHost host)
      → Life device G start events (OnDisks (first host) (second host))
  -- a crash between two calls
  CrashedBetween : (events : List StoreEvent) (place : StoreLocation D B) (a b : D) → Life device G start events place
      → Crashed device (device.clock (first_at place)) (device.clock (second_at place)) (first_at place)
      (second_at place) a b → Life device G start events (OnDisks a b)
  -- a host is opened, with what was registered, and with any boxes that it is handed
  Opened : (events : List StoreEvent) (pool services : List B) (a b : D) (host : Hosted D B)
      → Life device G start events (OnDisks a b)
      → (opened : WasOpened device G (start.durable).registered pool services a b host)
      → Life device G start (Found (reached_by opened.live) ∷ events) (UnderHost host)
  -- that is refused, whatever is registered with the host
  RefusedOpening : (events : List StoreEvent) (others : List Registration) (pool services : List B) (a b : D)
      (refused : OpenRefused D) → Life device G start events (OnDisks a b)
      → WasRefused device G others pool services a b refused
      → Life device G start events (OnDisks refused.a refused.b)
  -- a crash while a host is opened, be it refused, until the generation that is found is repaired
  CrashedOpening : (events : List StoreEvent) (others : List Registration) (pool services : List B) (a b : D)
      (result : Result (Hosted D B) (OpenRefused D)) (a' b' : D) → Life device G start events (OnDisks a b)
      → (opens : Opens device G others pool services a b result)
      → Crashed device (device.clock a) (device.clock b)
      (first_found device G others pool services a b result opens)
      (second_found device G others pool services a b result opens) a' b'
      → Life device G start events (OnDisks a' b')
  -- a crash from then on, while that generation is moved to version 2
  CrashedMoving : (events : List StoreEvent) (others : List Registration) (pool services : List B) (a b : D)
      (result : Result (Hosted D B) (OpenRefused D)) (a' b' : D) → Life device G start events (OnDisks a b)
      → (opens : Opens device G others pool services a b result)
      → Crashed device (device.clock (first_found device G others pool services a b result opens))
      (device.clock (second_found device G others pool services a b result opens)) (first_of result)
      (second_of result) a' b' → Life device G start events (OnDisks a' b')
  -- a host is to be created where the store is, and is refused
  NotCreated : (events : List StoreEvent) (others : List Registration) (pool services : List B) (a b : D)
      (refused : OpenRefused D) → Life device G start events (OnDisks a b)
      → WasNotCreated device G others pool services a b refused
      → Life device G start events (OnDisks refused.a refused.b)
  -- a crash while a host is to be created there
  CrashedNotCreating : (events : List StoreEvent) (others : List Registration) (pool services : List B) (a b : D)
      (result : Result (Hosted D B) (OpenRefused D)) (a' b' : D) → Life device G start events (OnDisks a b)
      → Creates device G others pool services a b result → Crashed device (device.clock a) (device.clock b)
      (first_of result) (second_of result) a' b' → Life device G start events (OnDisks a' b')
  -- the disks are read or synced by somebody else
  WasRead : (events : List StoreEvent) (a b a' b' : D) → Life device G start events (OnDisks a b)
      → WereOnlyRead device a b a' b' → Life device G start events (OnDisks a' b')
  -- the disks are handed over the other way round
  Swapped : (events : List StoreEvent) (a b : D) → Life device G start events (OnDisks a b)
      → Life device G start events (OnDisks b a)

-- ---- what is left

-- Whatever a crash now does, the files settle on one of two states to which the events lead from the one before any
-- request, and on one alone where the newest event is not in doubt. So each acknowledged request is in every image, in
-- its order, and each other once at the most, at its place. Each host object and each service of the two states has
-- what an object of its kind saves.
pub record IsWholeHistory {D B : Type 0} (device : Device D) (G : Ghosts B) (start : Reached)
    (events : List StoreEvent) (a b : D) : Type 0 where
  pub s : Reached
  pub t : Reached
  pub s_led : LeadTo G events start s
  pub t_led : LeadTo G events start t
  pub s_saved : AreSaved G s.durable
  pub t_saved : AreSaved G t.durable
  pub settled : SettleNow device a b (IsEither s.durable t.durable)
  pub certain : IsCertain events → t ≡ s

-- A host has what the store was created with. Where it runs, it is in a live state to which the events lead; its files
-- hold that state, and settle on it alone, whatever a crash now does.
pub record RunsOn {D B : Type 0} (device : Device D) (G : Ghosts B) (start : Reached) (events : List StoreEvent)
    (host : Hosted D B) : Type 0 where
  pub registered_is : host.registered ≡ (start.durable).registered
  pub running : (live : LiveState B) → host.live ≡ Some live → IsRunning live.durable host
  pub sound : RunsSound G host
  pub led : (live : LiveState B) → host.live ≡ Some live → LeadTo G events start (reached_by live)
  pub saved : IsSaved device host
  pub settles : (state : HostState) → IsRunning state host → SettleNow device (first host) (second host) (IsOne state)

-- where the store is under a host, that host runs on
abbrev pub RunsAt : {D B : Type 0} → Device D → Ghosts B → Reached → List StoreEvent → StoreLocation D B → Type 0
RunsAt device G start events (UnderHost host) = RunsOn device G start events host
RunsAt device G start events (OnDisks one other) = Unit {0}

-- Where the store is under a host that runs, each event since the store was made or last opened is a request that was
-- answered. Where it is under one that must be reopened, or under none, the newest may be in doubt.
abbrev pub IsPrefixAt : {D B : Type 0} → List StoreEvent → StoreLocation D B → Type 0
IsPrefixAt events (UnderHost host) = ((host.live ≡ None) × IsOfPrefix events) ⊎ AreAcknowledged events
IsPrefixAt events (OnDisks one other) = IsOfPrefix events

-- What holds in each life.
pub record Outlives {D B : Type 0} (device : Device D) (G : Ghosts B) (start : Reached) (events : List StoreEvent)
    (place : StoreLocation D B) : Type 0 where
  pub honest : AreHonest device (first_at place) (second_at place)
  pub whole : IsWholeHistory device G start events (first_at place) (second_at place)
  pub runs : RunsAt device G start events place

-- Boxes with which the state lives again that two disks have, as they read. The events lead to it, and each of its host
-- objects and each service has what an object of its kind saves.
abbrev pub CanOpenAfter : {D B : Type 0} → Device D → Ghosts B → List B → List B → List StoreEvent → Reached → D → D
    → Type 0
CanOpenAfter device G pool services events start a b =
    (reached : Reached) → LeadTo G events start reached → AreSaved G reached.durable
    → AreOfState (start.durable).registered (IsOne reached.durable) (device.seen a) (device.seen b)
    → CanOpen G pool services reached.durable

-- ---- what handling requests makes of a life

-- The events of a request by its reply: an answer is acknowledged, for some answers of host objects; a request that
-- lost its answer or the state, or before which a device failed, is in doubt; another reply is no event.
abbrev pub Records : ℕ → Request → Reply SourceFault → List StoreEvent → Type 0
Records budget request (Answered end seq happened) events =
    (answers : List HostRecord) × (events ≡ Acknowledged budget request end seq happened answers ∷ [])
Records budget request reply events = (events ≡ []) ⊎ (LosesAnswer reply × (events ≡ InDoubt budget request ∷ []))

-- the events of a batch that was carried out, by its replies, the newest first: each of its requests that was answered
abbrev pub RecordsBatch : ℕ → List BatchRequest → List BatchReply → List StoreEvent → Type 0
RecordsBatch budget [] [] events = events ≡ []
RecordsBatch budget (Asked request ∷ requests) (batches.Replied (Answered end seq happened) ∷ replies) events =
    (later : List StoreEvent) × (answers : List HostRecord) × RecordsBatch budget requests replies later
    × (events ≡ later ++ Acknowledged budget request end seq happened answers ∷ [])
RecordsBatch budget (_ ∷ requests) (_ ∷ replies) events = RecordsBatch budget requests replies events
RecordsBatch budget _ _ events = ⊥

-- the events of one call: a batch is in doubt as a whole
abbrev pub RecordsCall : ℕ → HostCall → HostResult → List StoreEvent → Type 0
RecordsCall budget (SingleCall request) (SingleResult reply) events = Records budget request reply events
RecordsCall budget (BatchCall requests) (BatchGiven (Ok replies)) events = RecordsBatch budget requests replies events
RecordsCall budget (BatchCall requests) (BatchGiven (Err refusal)) events =
    (events ≡ []) ⊎ (LosesAnswer (Refused refusal) × (events ≡ InDoubtBatch budget requests ∷ []))
RecordsCall budget _ _ events = ⊥

-- the events of calls by their results, the newest first
abbrev pub RecordAll : ℕ → List HostCall → List HostResult → List StoreEvent → Type 0
RecordAll budget [] [] events = events ≡ []
RecordAll budget (call ∷ calls) (result ∷ results) events =
    (later : List StoreEvent) × (one : List StoreEvent) × RecordsCall budget call result one
    × RecordAll budget calls results later
    × (events ≡ later ++ one)
RecordAll budget _ _ events = ⊥

-- Every life goes on with these calls: its new events are theirs, so that the acknowledged ones are the answers that
-- were given, in order.
abbrev pub LivesOn : {D B : Type 0} → Device D → Ghosts B → ℕ → Hosted D B → List HostCall → List HostResult
    → Hosted D B → Type 0
LivesOn device G budget old calls results new =
    (start : Reached) (events : List StoreEvent) → Life device G start events (UnderHost old)
    → (later : List StoreEvent) × Life device G start (later ++ events) (UnderHost new)
    × RecordAll budget calls results later
