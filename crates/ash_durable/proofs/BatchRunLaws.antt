-- How a batch runs on by one request, and how it ends.
use Rattle.std.proofs.Common.{◌≡◌, ◌⊎◌, inl, inr, ℕ, ◌≤◌, ◌<◌, ◌+◌, ◌*◌, ◌^◌, List, [], ◌∷◌, ◌++◌, length, map, Option}
use Rattle.std.proofs.Common.{Some, None, IsSome, Result, Ok, Err, refl, sym, ◌∙◌, ap, subst, arith}
use Rattle.std.proofs.Common.{get_or, take, drop, drop-cons, add-one}
use Rattle.std.specs.List.{flat_map, AllByRecursion}
use Rattle.std.proofs.lemmas.List.{length-append, length-map, map-append, append_assoc, nil_from_length}
use Rattle.std.proofs.lemmas.List.{take_all, take_more, take-append-drop, append-nil}
use Rattle.std.proofs.lemmas.Grind.{flat_map-append}
use Rattle.ash_host.specs.declared.host_object.HostObject.{Ghosts}
use Rattle.ash_requests.specs.Requests.{Request, Snapshot, Reply, Answered, Value, ShownAs, Number, Done, Refused}
use Rattle.ash_requests.specs.Requests.{NoMemory}
use Rattle.ash_requests.specs.declared.reply.Reply as code_reply
use Rattle.ash_requests.specs.declared.step_error.StepError.{StepError}
use Rattle.ash_requests.specs.RequestViews.{reply_seen}
use Rattle.ash_sources.specs.declared.fault.SourceFault as code_fault
use Rattle.ash_sources.specs.SourceFaults.{SourceFault, fault_of}
use Rattle.ash_image.specs.declared.version.Version.TheVariants.{Two}
use Rattle.ash_image.specs.Delta.{Delta, delta, FitsDelta}
use Rattle.ash_image.specs.Deltas.{deltas_tag, FitDeltas}
use Rattle.ash_states.specs.HostStates.{HostState, IsAdmitted}
use Rattle.ash_states.specs.Images.{IsBodyIn}
use Rattle.ash_states.specs.StateSteps.{FailsInChange}
use Rattle.ash_engine.specs.LiveStates.{LiveState, EngineState, AreOf}
use Rattle.ash_engine.specs.LiveSteps.{LiveSteps, Handled, TakesStep, IsNoAnswer, IsReached, reached_by}
use Rattle.ash_engine.specs.RecordedChanges.{delta_named}
use Rattle.std.specs.declared.vec.Vec.{Vec}
use Rattle.std.specs.declared.alloc.Global.{Global as Memory}
use Rattle.ash_durable.specs.declared.batch.BatchReply as code_batch
use Rattle.ash_durable.specs.declared.batching.BatchRun.{BatchRun}
use Rattle.ash_durable.specs.declared.batching.BatchStop.{BatchStop}
use Rattle.ash_durable.specs.declared.batching.BatchStop.TheVariants as stops
use Rattle.ash_durable.specs.Batches.{BatchRequest, Asked, BatchReply, Replied, RefusedBad, BatchSteps, answered_in}
use Rattle.ash_durable.specs.Batches.{HasBegunToChange, IsBodyOfBatch, deltas_body, max_batch}
use Rattle.ash_durable.specs.BatchViews.{batch_reply_seen}
use Rattle.ash_durable.specs.BatchRuns.{answered_by, IsReplyOfBatch, MayBeStored, HaveStepped, max_delta_bytes, HasRun}
use Rattle.ash_durable.specs.BatchRuns.{HasRunWhole, IsStopAfter, StopsBatch, RunsRequest, RunsBatch, AddsReply}
use Rattle.ash_durable.specs.BatchRuns.{TriesReply, IsFitted}
use Rattle.ash_journal.specs.Layout.{length_limit}
use Rattle.ash_durable.proofs.BatchLaws.{steps_then, answered_then, one_step, no_step, none_answered, few_answered}
use Rattle.ash_durable.proofs.Handling.{no_end_runs, handled_ok}
use Rattle.ash_durable.proofs.NotDone.{not_done}
use Rattle.ash_durable.proofs.Requesting.{some_live}

-- ---- lists

all_append : {A : Type 0} (P : A → Type 0) (xs ys : List A) → AllByRecursion P xs → AllByRecursion P ys
    → AllByRecursion P (xs ++ ys)
all_append P [] ys one other = other
all_append P (x ∷ xs) ys one other = (one.0, all_append P xs ys one.1 other)

-- ---- what a live state may be stored by

module _ {B : Type 0} (next : LiveState B) (admitted : IsAdmitted next.durable) where
  stored_reply : (reply : Reply SourceFault)
      → AllByRecursion (λ (l : LiveState B). FitsDelta Two (delta_named l)) (answered_by (Replied reply) next)
      → AllByRecursion MayBeStored (answered_by (Replied reply) next)
  stored_reply (Answered end seq happened) fits = (record { fits = fits.0; admitted = admitted }, tt)
  stored_reply (Value word) fits = tt
  stored_reply (ShownAs shown) fits = tt
  stored_reply (Number seq) fits = tt
  stored_reply Done fits = tt
  stored_reply (Refused refusal) fits = tt

  stored_by : (reply : BatchReply)
      → AllByRecursion (λ (l : LiveState B). FitsDelta Two (delta_named l)) (answered_by reply next)
      → AllByRecursion MayBeStored (answered_by reply next)
  stored_by (Replied reply) fits = stored_reply reply fits
  stored_by (RefusedBad number) fits = tt

-- each of them has a spelling
fits_each : {B : Type 0} (answered : List (LiveState B)) → AllByRecursion MayBeStored answered
    → AllByRecursion (FitsDelta Two) (map delta_named answered)
fits_each [] stored = tt
fits_each (l ∷ ls) stored = (stored.0.fits, fits_each ls stored.1)

-- ---- how a batch ends

module _ {B : Type 0} (G : Ghosts B) (budget : ℕ) (done : List BatchRequest) (live : LiveState B)
    (replies : List BatchReply) (answered : List (LiveState B)) (engine : EngineState B)
    (was : HaveStepped G budget done live replies answered engine) (n : ℕ) (count : n ≡ length answered) where
  -- if memory is refused after so many answers
  pub stops_after : (stop : BatchStop) → IsStopAfter n stop → (requests left : List BatchRequest)
      → requests ≡ done ++ left → StopsBatch G budget requests live stop engine
  stops_after stops.Unchanged stopped requests left is =
      was.live_is ∙ ap (λ (l : LiveState B). Some l)
      (none_answered G budget done live replies was.after was.steps
      (was.answered_are ∙ nil_from_length answered (sym count ∙ stopped)))
  stops_after stops.Lost stopped requests left is = record {
    done = done;
    left = left;
    requests_are = is;
    replies = replies;
    reached = was.after;
    steps = was.steps;
    changes = inl (λ none. stopped (count
        ∙ ap (λ (ls : List (LiveState B)). length ls) (sym was.answered_are ∙ none)));
  }

-- ---- steps

module _ {B : Type 0} (G : Ghosts B) (budget : ℕ) where
  -- before the first request
  pub begun : (live : LiveState B) (run : BatchRun) (engine : EngineState B) → engine.live ≡ Some live
      → run.replies.items ≡ [] → run.body.items ≡ deltas_tag ∷ 0 ∷ [] → run.answered ≡ 0
      → HasRun G budget [] live run engine
  begun live run engine is no_replies body_is none =
      let no = no_step G budget live in
      record {
        answered = [];
        stepped = subst (λ (rs : List BatchReply). HaveStepped G budget [] live rs [] engine)
            (sym (ap (λ (rs : List _). map batch_reply_seen rs) no_replies))
            (record { after = live; live_is = is; steps = no.0; answered_are = no.1 });
        stored = tt;
        count = none;
        body_is = body_is;
        short = let long : length run.body.items ≡ 2 = ap (λ (bs : List ℕ). length bs) body_is in
            omega (arith, long);
      }

  module _ (done : List BatchRequest) (live : LiveState B) (request : BatchRequest) where
    -- after one request more
    stepped_more : (replies : List BatchReply) (answered : List (LiveState B)) (engine later : EngineState B)
        (reply : BatchReply) (next : LiveState B) (was : HaveStepped G budget done live replies answered engine)
        → (steps : BatchSteps G budget (request ∷ []) was.after (reply ∷ []) next)
        × (answered_in steps ≡ answered_by reply next)
        → later.live ≡ Some next
        → HaveStepped G budget (done ++ request ∷ []) live (replies ++ reply ∷ []) (answered ++ answered_by reply next)
        later
    stepped_more replies answered engine later reply next was one is = record {
      after = next;
      live_is = is;
      steps = steps_then G budget done live replies was.after (request ∷ []) (reply ∷ []) next was.steps one.0;
      answered_are = answered_then G budget done live replies was.after (request ∷ []) (reply ∷ []) next was.steps one.0
          ∙ ap (λ (ls : List (LiveState B)). ls ++ answered_in one.0) was.answered_are
          ∙ ap (λ (ls : List (LiveState B)). answered ++ ls) one.1;
    }

    module _ (old new : BatchRun) (engine later : EngineState B) (reply : BatchReply) (next : LiveState B)
        (was : HasRun G budget done live old engine)
        (one : (steps : BatchSteps G budget (request ∷ []) was.stepped.after (reply ∷ []) next)
        × (answered_in steps ≡ answered_by reply next)) (is : later.live ≡ Some next)
        (admitted : IsAdmitted next.durable) where
      more : HaveStepped G budget (done ++ request ∷ []) live (map batch_reply_seen old.replies.items ++ reply ∷ [])
          (was.answered ++ answered_by reply next) later
      more = stepped_more (map batch_reply_seen old.replies.items) was.answered engine later reply next was.stepped one
          is

      -- the replies and the body go on
      run_more : AddsReply next reply old new → HasRun G budget (done ++ request ∷ []) live new later
      run_more adds =
          let ls = answered_by reply next in
          let count : new.answered ≡ length was.answered + length ls =
          adds.count ∙ ap (λ (n : ℕ). n + length ls) was.count in
          record {
            answered = was.answered ++ ls;
            stepped = subst (λ (rs : List BatchReply). HaveStepped G budget (done ++ request ∷ []) live rs
                (was.answered ++ ls) later) (sym adds.replies) more;
            stored = all_append MayBeStored was.answered ls was.stored (stored_by next admitted reply adds.fits);
            count = count ∙ sym (length-append was.answered ls);
            body_is = adds.body
                ∙ ap (λ (bs : List ℕ). bs ++ flat_map delta (map delta_named ls)) was.body_is
                ∙ ap (λ (bs : List ℕ). deltas_tag ∷ 0 ∷ bs)
                (sym (flat_map-append delta (map delta_named was.answered) (map delta_named ls))
                ∙ ap (λ (ds : List Delta). flat_map delta ds) (sym (map-append delta_named was.answered ls)));
            short = omega (arith, adds.short, was.short, adds.count);
          }

      -- it is too much for the memory
      stops_more : (stop : BatchStop) → IsStopAfter (old.answered + length (answered_by reply next)) stop
          → (rest : List BatchRequest) → StopsBatch G budget (done ++ request ∷ rest) live stop later
      stops_more stop stopped rest =
          stops_after G budget (done ++ request ∷ []) live (map batch_reply_seen old.replies.items ++ reply ∷ [])
          (was.answered ++ answered_by reply next) later more
          (old.answered + length (answered_by reply next))
          (ap (λ (n : ℕ). n + length (answered_by reply next)) was.count
          ∙ sym (length-append was.answered (answered_by reply next))) stop stopped
          (done ++ request ∷ rest) rest (sym (append_assoc done (request ∷ []) rest))

      pub tries_more : (result : Result (Unit {0}) BatchStop) → TriesReply next reply old result new
          → RunsRequest G budget done live request result new later
      tries_more (Ok added) tries = run_more tries
      tries_more (Err stop) tries = stops_more stop tries

-- ---- a request that a host is asked

-- what memory was not refused for was a step
step_taken : {B : Type 0} (G : Ghosts B) (budget : ℕ) (request : Request) (live next : LiveState B)
    (reply : Reply SourceFault) → LiveSteps G budget request live reply next → (reply ≡ Refused NoMemory → ⊥)
    → TakesStep G budget request live reply next
step_taken G budget request live next reply (inl taken) not = taken
step_taken G budget request live next reply (inr out) not = absurd (not out.reply_is)

-- what it was refused for left the live state
refused_leaves : {B : Type 0} (G : Ghosts B) (budget : ℕ) (request : Request) (live next : LiveState B)
    (reply : Reply SourceFault) → LiveSteps G budget request live reply next → reply ≡ Refused NoMemory → next ≡ live
refused_leaves G budget request live next reply (inl taken) is =
    taken.unchanged (subst (λ (r : Reply SourceFault). IsNoAnswer r) (sym is) tt)
refused_leaves G budget request live next reply (inr out) is = out.unchanged

module _ {B : Type 0} (G : Ghosts B) (budget : ℕ) (done : List BatchRequest) (live : LiveState B) (request : Request)
    (old : BatchRun) (engine later : EngineState B) (was : HasRun G budget done live old engine) where
  -- the state is lost
  pub asked_lost : (error : StepError) → FailsInChange request (was.stepped.after).durable error
      → (rest : List BatchRequest) → StopsBatch G budget (done ++ Asked request ∷ rest) live stops.Lost later
  asked_lost error fails rest = record {
    done = done;
    left = Asked request ∷ rest;
    requests_are = refl;
    replies = map batch_reply_seen old.replies.items;
    reached = was.stepped.after;
    steps = was.stepped.steps;
    changes = inr (no_end_runs request (was.stepped.after).durable error fails);
  }

  module _ (given : code_reply.Reply code_fault.SourceFault)
      (handled : Handled G budget request was.stepped.after (Ok given) later.live) where
    -- memory was refused for it
    pub asked_refused : reply_seen fault_of given ≡ Refused NoMemory → (stop : BatchStop)
        → IsStopAfter old.answered stop → (rest : List BatchRequest)
        → StopsBatch G budget (done ++ Asked request ∷ rest) live stop later
    asked_refused is stop stopped rest =
        let after = handled_ok G budget request was.stepped.after given later.live handled in
        let same : after.0 ≡ was.stepped.after =
        refused_leaves G budget request was.stepped.after after.0 (reply_seen fault_of given) after.2 is in
        stops_after G budget done live (map batch_reply_seen old.replies.items) was.answered later
        (record {
          after = was.stepped.after;
          live_is = after.1 ∙ ap (λ (l : LiveState B). Some l) same;
          steps = was.stepped.steps;
          answered_are = was.stepped.answered_are;
        }) old.answered was.count stop stopped (done ++ Asked request ∷ rest) (Asked request ∷ rest) refl

    -- it has a reply
    pub asked_replied : (reply : BatchReply) → IsReplyOfBatch (reply_seen fault_of given) (Some reply)
        → ((l : LiveState B) → later.live ≡ Some l → AreOf G l)
        → ((l : LiveState B) → later.live ≡ Some l → IsReached (reached_by l)) → (new : BatchRun)
        → (result : Result (Unit {0}) BatchStop)
        → ((l : LiveState B) → later.live ≡ Some l → TriesReply l reply old result new)
        → RunsRequest G budget done live (Asked request) result new later
    asked_replied reply is boxes reached new result tries =
        let after = handled_ok G budget request was.stepped.after given later.live handled in
        let taken = step_taken G budget request was.stepped.after after.0 (reply_seen fault_of given) after.2 is.1 in
        let one : TriesReply after.0 (Replied (reply_seen fault_of given)) old result new =
        subst (λ (r : BatchReply). TriesReply after.0 r old result new) is.0 (tries after.0 after.1) in
        tries_more G budget done live (Asked request) old new engine later (Replied (reply_seen fault_of given))
        after.0 was (one_step G budget request was.stepped.after (reply_seen fault_of given) after.0 taken
        (boxes after.0 after.1)) after.1
        (reached after.0 after.1).admitted result one

-- an engine that replies has a live state, and does not reply that it is done
module _ {B : Type 0} (G : Ghosts B) (budget : ℕ) (request : Request) (known later : Option (LiveState B))
    (given : code_reply.Reply code_fault.SourceFault) (has : IsSome known)
    (handled : (live : LiveState B) → known ≡ Some live → Handled G budget request live (Ok given) later) where
  pub replied_has : IsSome later
  replied_has =
      let some = some_live known has in
      let after = handled_ok G budget request some.0 given later (handled some.0 some.1) in
      subst (λ (l : Option (LiveState B)). IsSome l) (sym after.1) refl

  pub replied_not_done : (request ≡ Snapshot → ⊥) → reply_seen fault_of given ≡ Done → ⊥
  replied_not_done other =
      let some = some_live known has in
      let after = handled_ok G budget request some.0 given later (handled some.0 some.1) in
      not_done G budget request some.0 after.0 (reply_seen fault_of given) other after.2

-- ---- the body of the record

-- the changes, if they are not too long for a record
pub fitted_kept : (state : HostState) (body : List ℕ) → length body < length_limit → IsFitted state body body
fitted_kept state body short = inl (short, refl)

-- else the image of the state
pub fitted_whole : (state : HostState) (old new : List ℕ) → length_limit ≤ length old → IsBodyIn Two new state
    → length new < length_limit → IsFitted state old new
fitted_whole state old new long is_body short = inr (long, is_body, short)

-- ---- the whole batch

-- the count of what was answered, in its place
module _ {B : Type 0} (G : Ghosts B) (budget : ℕ) (requests : List BatchRequest) (live : LiveState B)
    (engine : EngineState B) where
  answered_some : (answered : List (LiveState B)) → (answered ≡ [] → ⊥) → 1 ≤ length answered
  answered_some [] some = absurd (some refl)
  answered_some (l ∷ ls) some = omega arith

  -- what memory was refused for stopped it
  pub fit_stops : (run : BatchRun) → HasRun G budget requests live run engine → (stop : BatchStop)
      → IsStopAfter run.answered stop → StopsBatch G budget requests live stop engine
  fit_stops run was stop stopped =
      stops_after G budget requests live (map batch_reply_seen run.replies.items) was.answered engine was.stepped
      run.answered was.count stop stopped requests [] (sym (append-nil requests))

  fitted_body : (state : HostState) (answered : List (LiveState B)) (old new : List ℕ)
      → FitDeltas (map delta_named answered) → old ≡ deltas_body answered → IsFitted state old new
      → IsBodyOfBatch state answered new
  fitted_body state answered old new fits is (inl kept) =
      inl (subst (λ (bs : List ℕ). length bs < length_limit) is kept.0, (fits, kept.1 ∙ is))
  fitted_body state answered old new fits is (inr whole) =
      inr (subst (λ (bs : List ℕ). length_limit ≤ length bs) is whole.0, whole.1)

  fitted_short : (state : HostState) (old new : List ℕ) → IsFitted state old new → length new < length_limit
  fitted_short state old new (inl kept) = subst (λ (bs : List ℕ). length bs < length_limit) (sym kept.1) kept.0
  fitted_short state old new (inr whole) = whole.2

  pub run_whole : (old new : BatchRun) → length requests ≤ max_batch → HasRun G budget requests live old engine
      → new.replies ≡ old.replies → new.answered ≡ old.answered → (counted : List ℕ)
      → ((bs : List ℕ) → old.body.items ≡ deltas_tag ∷ 0 ∷ bs → counted ≡ deltas_tag ∷ old.answered ∷ bs)
      → ((l : LiveState B) → engine.live ≡ Some l → IsFitted l.durable counted new.body.items)
      → HasRunWhole G budget requests live new engine
  run_whole old new few was replies_same answered_same counted counts fitted =
      let body = counts (flat_map delta (map delta_named was.answered)) was.body_is in
      let ds = map delta_named was.answered in
      let many : length ds ≡ length was.answered = length-map was.answered delta_named in
      let fewer : length was.answered ≤ length requests =
      subst (λ (ls : List (LiveState B)). length ls ≤ length requests) was.stepped.answered_are
      (few_answered G budget requests live (map batch_reply_seen old.replies.items) was.stepped.after
      was.stepped.steps) in
      record {
        answered = was.answered;
        stepped = subst (λ (rs : List BatchReply). HaveStepped G budget requests live rs was.answered engine)
            (ap (λ (rs : Vec code_batch.BatchReply Memory). map batch_reply_seen rs.items) (sym replies_same))
            was.stepped;
        stored = was.stored;
        count = answered_same ∙ was.count;
        is_body = λ after is some.
            fitted_body after.durable was.answered counted new.body.items
            (record {
              some = let one = answered_some was.answered some in omega (arith, one, many);
              few = omega (arith, many, fewer, few);
              each = fits_each was.answered was.stored;
            })
            (body ∙ ap (λ (n : ℕ). deltas_tag ∷ n ∷ flat_map delta ds) (was.count ∙ sym many))
            (fitted after is);
        short = fitted_short (was.stepped.after).durable counted new.body.items
            (fitted was.stepped.after was.stepped.live_is);
      }

-- ---- the requests of a batch, one by one

module _ {B : Type 0} (G : Ghosts B) (budget : ℕ) (requests : List BatchRequest) (live : LiveState B)
    (run : BatchRun) (engine : EngineState B) (was : HasRun G budget requests live run engine) where
  -- the engine has a live state
  pub run_has : IsSome engine.live
  run_has = subst (λ (l : Option (LiveState B)). IsSome l) (sym was.stepped.live_is) refl

  -- no more are answered than there are
  pub run_few : run.answered ≤ length requests
  run_few =
      let few : length was.answered ≤ length requests =
      subst (λ (ls : List (LiveState B)). length ls ≤ length requests) was.stepped.answered_are
      (few_answered G budget requests live (map batch_reply_seen run.replies.items) was.stepped.after
      was.stepped.steps) in
      omega (arith, few, was.count)

module _ {Q B : Type 0} (G : Ghosts B) (budget : ℕ) (view : Q → BatchRequest) (live : LiveState B) (xs : List Q)
    (i : ℕ) (d : Q) (there : i < length xs) where
  -- one more of those that are taken
  pub run_next : (run : BatchRun) (engine : EngineState B)
      → HasRun G budget (map view (take i xs) ++ view (get_or xs i d) ∷ []) live run engine
      → HasRun G budget (map view (take (i + 1) xs)) live run engine
  run_next run engine ran =
      subst (λ (rs : List BatchRequest). HasRun G budget rs live run engine)
      (sym (map-append view (take i xs) (get_or xs i d ∷ []))
      ∙ ap (λ (ys : List Q). map view ys) (sym (take_more xs i d there))) ran

  -- of all of them
  pub stops_at : (stop : BatchStop) (engine : EngineState B)
      → StopsBatch G budget (map view (take i xs) ++ view (get_or xs i d) ∷ map view (drop (i + 1) xs)) live stop engine
      → StopsBatch G budget (map view xs) live stop engine
  stops_at stop engine stopped =
      let cut : drop i xs ≡ get_or xs i d ∷ drop (i + 1) xs = rw add-one (drop-cons xs i d there) in
      subst (λ (rs : List BatchRequest). StopsBatch G budget rs live stop engine)
      (sym (map-append view (take i xs) (get_or xs i d ∷ drop (i + 1) xs))
      ∙ ap (λ (ys : List Q). map view ys) (ap (λ (ys : List Q). take i xs ++ ys) (sym cut) ∙ take-append-drop i xs))
      stopped

-- all of them
pub run_all : {Q B : Type 0} (G : Ghosts B) (budget : ℕ) (view : Q → BatchRequest) (live : LiveState B) (xs : List Q)
    (i : ℕ) (run : BatchRun) (engine : EngineState B) → length xs ≤ i
    → HasRun G budget (map view (take i xs)) live run engine → HasRun G budget (map view xs) live run engine
run_all {Q} G budget view live xs i run engine past ran =
    subst (λ (ys : List Q). HasRun G budget (map view ys) live run engine) (take_all i xs past) ran
