-- A batch that runs has one reply more, after the delta of an answered request.
use Rattle.std.proofs.Common.{◌≡◌, ℕ, ◌+◌, ◌*◌, ◌≤◌, List, [], ◌∷◌, ◌++◌, length, map, Result, Ok, Err, OnOk, refl, sym}
use Rattle.std.proofs.Common.{◌∙◌, ap, subst, arith}
use Rattle.std.specs.Prelude.{IfErr}
use Rattle.std.specs.List.{flat_map, AllByRecursion}
use Rattle.std.specs.declared.vec.Vec.{Vec}
use Rattle.std.specs.declared.alloc.Global.{Global as Memory}
use Rattle.std.proofs.lemmas.List.{append-nil, map-append}
use Rattle.ash_image.specs.declared.version.Version.TheVariants.{Two}
use Rattle.ash_image.specs.Delta.{delta, FitsDelta}
use Rattle.ash_requests.specs.Requests.{Reply, Answered}
use Rattle.ash_sources.specs.SourceFaults.{SourceFault}
use Rattle.ash_engine.specs.LiveStates.{LiveState}
use Rattle.ash_engine.specs.RecordedChanges.{delta_named, AppendsChanges}
use Rattle.ash_durable.specs.declared.batch.BatchReply as code_batch
use Rattle.ash_durable.specs.declared.batching.BatchRun.{BatchRun}
use Rattle.ash_durable.specs.declared.batching.BatchStop.{BatchStop}
use Rattle.ash_durable.specs.declared.batching.BatchStop.TheVariants as stops
use Rattle.ash_durable.specs.Hosting.{IsAnswer}
use Rattle.ash_durable.specs.Batches.{BatchReply, Replied, RefusedBad}
use Rattle.ash_durable.specs.BatchViews.{batch_reply_seen}
use Rattle.ash_durable.specs.BatchRuns.{answered_by, IsAnswered, IsStopAfter, max_delta_bytes, AddsReply, TriesReply}

-- ---- what was answered

answered_one : {B : Type 0} (reply : Reply SourceFault) (live : LiveState B) → IsAnswer reply
    → answered_by (Replied reply) live ≡ live ∷ []
answered_one (Answered end seq happened) live answers = refl
answered_one _ live answers = absurd answers

answered_none : {B : Type 0} (reply : Reply SourceFault) (live : LiveState B) → (IsAnswer reply → ⊥)
    → answered_by (Replied reply) live ≡ []
answered_none (Answered end seq happened) live not = absurd (not tt)
answered_none _ live not = refl

is_one : {B : Type 0} (reply : BatchReply) (live : LiveState B) → IsAnswered reply
    → answered_by reply live ≡ live ∷ []
is_one (Replied reply) live answers = answered_one reply live answers
is_one (RefusedBad number) live answers = absurd answers

is_none : {B : Type 0} (reply : BatchReply) (live : LiveState B) → (IsAnswered reply → ⊥)
    → answered_by reply live ≡ []
is_none (Replied reply) live not = answered_none reply live not
is_none (RefusedBad number) live not = refl

-- ---- deltas

-- A batch that runs has these deltas more.
pub record HasDeltas {B : Type 0} (ls : List (LiveState B)) (old new : BatchRun) : Type 0 where
  pub replies : new.replies ≡ old.replies
  pub body : new.body.items ≡ old.body.items ++ flat_map delta (map delta_named ls)
  pub fits : AllByRecursion (λ (l : LiveState B). FitsDelta Two (delta_named l)) ls
  pub count : new.answered ≡ old.answered + length ls
  pub short : length new.body.items ≤ length old.body.items + length ls * max_delta_bytes

no_delta : {B : Type 0} (run : BatchRun) → HasDeltas {B = B} [] run run
no_delta run = record {
  replies = refl;
  body = sym (append-nil run.body.items);
  fits = tt;
  count = omega arith;
  short = omega arith;
}

one_delta : {B : Type 0} (live : LiveState B) (old new : BatchRun) → new.replies ≡ old.replies
    → AppendsChanges live old.body.items new.body.items → new.answered ≡ old.answered + 1
    → length new.body.items ≤ length old.body.items + max_delta_bytes → HasDeltas (live ∷ []) old new
one_delta live old new replies appends count short = record {
  replies = replies;
  body = appends.appended
      ∙ ap (λ (bs : List ℕ). old.body.items ++ bs) (sym (append-nil (delta (delta_named live))));
  fits = (appends.fits, tt);
  count = omega (arith, count);
  short = omega (arith, short);
}

-- ---- replies

module _ {B : Type 0} (live : LiveState B) (given : code_batch.BatchReply) (ls : List (LiveState B))
    (is : answered_by (batch_reply_seen given) live ≡ ls) (old between new : BatchRun)
    (deltas : HasDeltas ls old between) where
  added_by : new.replies.items ≡ between.replies.items ++ given ∷ [] → new.body ≡ between.body
      → new.answered ≡ between.answered
      → AddsReply live (batch_reply_seen given) old new
  added_by added body answered = record {
    replies = ap (λ (rs : List code_batch.BatchReply). map batch_reply_seen rs) added
        ∙ map-append batch_reply_seen between.replies.items (given ∷ [])
        ∙ ap (λ (rs : Vec code_batch.BatchReply Memory). map batch_reply_seen rs.items ++ batch_reply_seen given ∷ [])
        deltas.replies;
    body = subst (λ (xs : List (LiveState B)).
        new.body.items ≡ old.body.items ++ flat_map delta (map delta_named xs)) (sym is)
        (ap (λ (bs : Vec ℕ Memory). bs.items) body ∙ deltas.body);
    fits = subst (λ (xs : List (LiveState B)). AllByRecursion (λ (l : LiveState B). FitsDelta Two (delta_named l)) xs)
        (sym is) deltas.fits;
    count = subst (λ (xs : List (LiveState B)). new.answered ≡ old.answered + length xs) (sym is)
        (answered ∙ deltas.count);
    short = subst (λ (xs : List (LiveState B)).
        length new.body.items ≤ length old.body.items + length xs * max_delta_bytes) (sym is)
        (subst (λ (bs : Vec ℕ Memory). length bs.items ≤ length old.body.items + length ls * max_delta_bytes)
        (sym body) deltas.short);
  }

  pub tried_by : (result : Result (Unit {0}) BatchStop) → OnOk result (new.replies.items
      ≡ between.replies.items ++ given ∷ []) → new.body ≡ between.body → new.answered ≡ between.answered
      → IfErr result (λ stop. IsStopAfter between.answered stop)
      → TriesReply live (batch_reply_seen given) old result new
  tried_by (Ok done) added body answered stops = added_by added body answered
  tried_by (Err stop) added body answered stopped =
      subst (λ (n : ℕ). IsStopAfter n stop)
      (deltas.count ∙ ap (λ (xs : List (LiveState B)). old.answered + length xs) (sym is)) stopped

-- a reply that is no answer
pub tried_unanswered : {B : Type 0} (live : LiveState B) (given : code_batch.BatchReply) (old new : BatchRun)
    (result : Result (Unit {0}) BatchStop) → (IsAnswered (batch_reply_seen given) → ⊥)
    → OnOk result (new.replies.items ≡ old.replies.items ++ given ∷ []) → new.body ≡ old.body
    → new.answered ≡ old.answered → IfErr result (λ stop. IsStopAfter old.answered stop)
    → TriesReply live (batch_reply_seen given) old result new
tried_unanswered live given old new result not added body answered stopped =
    tried_by live given [] (is_none (batch_reply_seen given) live not) old old new (no_delta old) result added body
    answered stopped

-- an answer, after its delta
pub tried_answered : {B : Type 0} (live : LiveState B) (given : code_batch.BatchReply) (old between new : BatchRun)
    (result : Result (Unit {0}) BatchStop) → IsAnswered (batch_reply_seen given)
    → between.replies ≡ old.replies → AppendsChanges live old.body.items between.body.items
    → between.answered ≡ old.answered + 1
    → length between.body.items ≤ length old.body.items + max_delta_bytes
    → OnOk result (new.replies.items ≡ between.replies.items ++ given ∷ []) → new.body ≡ between.body
    → new.answered ≡ between.answered → IfErr result (λ stop. IsStopAfter between.answered stop)
    → TriesReply live (batch_reply_seen given) old result new
tried_answered live given old between new result answers replies appends count short added body answered stopped =
    tried_by live given (live ∷ []) (is_one (batch_reply_seen given) live answers) old between new
    (one_delta live old between replies appends count short) result added body answered stopped

-- its delta is too much for the memory
pub tried_delta : {B : Type 0} (live : LiveState B) (given : code_batch.BatchReply) (old new : BatchRun)
    (stop : BatchStop) → IsAnswered (batch_reply_seen given) → stop ≡ stops.Lost
    → TriesReply live (batch_reply_seen given) old (Err stop) new
tried_delta {B} live given old new stop answers is =
    subst (λ (s : BatchStop). IsStopAfter (old.answered + length (answered_by (batch_reply_seen given) live)) s)
    (sym is)
    (subst (λ (xs : List (LiveState B)). IsStopAfter (old.answered + length xs) stops.Lost)
    (sym (is_one (batch_reply_seen given) live answers)) (λ none. omega (arith, none)))
