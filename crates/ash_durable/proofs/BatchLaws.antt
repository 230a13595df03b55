-- The steps of a batch: one after the other, what was answered, and where the deltas of the answered ones lead.
use Rattle.std.proofs.Common.{◌≡◌, inl, ℕ, ◌≤◌, ◌+◌, List, [], ◌∷◌, ◌++◌, length, refl, ◌∙◌, ap, arith}
use Rattle.ash_host.specs.declared.host_object.HostObject.{Ghosts}
use Rattle.ash_requests.specs.Requests.{Request, Load, Call, Discard, Get, Object, Seq, Snapshot, Reply, Answered}
use Rattle.ash_requests.specs.Requests.{Value, ShownAs, Number, Done, Refused}
use Rattle.ash_sources.specs.SourceFaults.{SourceFault}
use Rattle.ash_engine.specs.LiveStates.{LiveState, AreOf}
use Rattle.ash_engine.specs.LiveSteps.{TakesStep}
use Rattle.ash_durable.specs.Hosting.{MayAdd}
use Rattle.ash_durable.specs.Batches.{BatchRequest, Asked, BadRequest, BatchReply, Replied, RefusedBad}
use Rattle.ash_durable.specs.Batches.{BatchSteps, NoneLeft, Bad, Step, after_answer, answered_in, adding_request}
use Rattle.ash_durable.specs.BatchRuns.{answered_by}
use Rattle.ash_durable.proofs.Changing.{change_may_add}

module _ {B : Type 0} (G : Ghosts B) (budget : ℕ) where
  -- ---- further steps

  unfoldable pub steps_then : (xs : List BatchRequest) (live : LiveState B) (rs : List BatchReply)
      (between : LiveState B) (ys : List BatchRequest) (ss : List BatchReply) (after : LiveState B)
      → BatchSteps G budget xs live rs between → BatchSteps G budget ys between ss after
      → BatchSteps G budget (xs ++ ys) live (rs ++ ss) after
  steps_then _ _ _ _ ys ss after (NoneLeft live) more = more
  steps_then _ _ _ _ ys ss after (Bad number requests live replies between steps) more =
      Bad number (requests ++ ys) live (replies ++ ss) after
      (steps_then requests live replies between ys ss after steps more)
  steps_then _ _ _ _ ys ss after (Step request requests live reply next replies between stepped boxes steps) more =
      Step request (requests ++ ys) live reply next (replies ++ ss) after stepped boxes
      (steps_then requests next replies between ys ss after steps more)

  after_answer_then : (reply : Reply SourceFault) (next : LiveState B) (xs ys : List (LiveState B))
      → after_answer reply next (xs ++ ys) ≡ after_answer reply next xs ++ ys
  after_answer_then (Answered end seq happened) next xs ys = refl
  after_answer_then (Value word) next xs ys = refl
  after_answer_then (ShownAs shown) next xs ys = refl
  after_answer_then (Number seq) next xs ys = refl
  after_answer_then Done next xs ys = refl
  after_answer_then (Refused refusal) next xs ys = refl

  pub answered_then : (xs : List BatchRequest) (live : LiveState B) (rs : List BatchReply)
      (between : LiveState B) (ys : List BatchRequest) (ss : List BatchReply) (after : LiveState B)
      (steps : BatchSteps G budget xs live rs between) (more : BatchSteps G budget ys between ss after)
      → answered_in (steps_then xs live rs between ys ss after steps more) ≡ answered_in steps ++ answered_in more
  unfolding steps_then answered_in
  answered_then _ _ _ _ ys ss after (NoneLeft live) more = refl
  answered_then _ _ _ _ ys ss after (Bad number requests live replies between steps) more =
      answered_then requests live replies between ys ss after steps more
  answered_then _ _ _ _ ys ss after (Step request requests live reply next replies between stepped boxes steps) more =
      ap (after_answer reply next) (answered_then requests next replies between ys ss after steps more)
      ∙ after_answer_then reply next (answered_in steps) (answered_in more)

  -- one step
  pub one_step : (request : Request) (live : LiveState B) (reply : Reply SourceFault) (next : LiveState B)
      → TakesStep G budget request live reply next → AreOf G next
      → (steps : BatchSteps G budget (Asked request ∷ []) live (Replied reply ∷ []) next)
      × (answered_in steps ≡ answered_by (Replied reply) next)
  unfolding answered_in
  one_step request live reply next stepped boxes =
      (Step request [] live reply next [] next stepped boxes (NoneLeft next), refl)

  pub one_bad : (number : ℕ) (live : LiveState B)
      → (steps : BatchSteps G budget (BadRequest number ∷ []) live (RefusedBad number ∷ []) live)
      × (answered_in steps ≡ answered_by (RefusedBad number) live)
  unfolding answered_in
  one_bad number live = (Bad number [] live [] live (NoneLeft live), refl)

  -- no step
  pub no_step : (live : LiveState B)
      → (steps : BatchSteps G budget [] live [] live) × (answered_in steps ≡ [])
  unfolding answered_in
  no_step live = (NoneLeft live, refl)

  -- ---- what was answered

  -- what is not answered leaves the live state
  unanswered_step : (request : Request) (live : LiveState B) (reply : Reply SourceFault) (next : LiveState B)
      (later : List (LiveState B)) → TakesStep G budget request live reply next → after_answer reply next later ≡ []
      → (next ≡ live) × (later ≡ [])
  unanswered_step request live (Answered end seq happened) next later stepped none = absurd (cc)
  unanswered_step request live (Value word) next later stepped none = (stepped.unchanged tt, none)
  unanswered_step request live (ShownAs shown) next later stepped none = (stepped.unchanged tt, none)
  unanswered_step request live (Number seq) next later stepped none = (stepped.unchanged tt, none)
  unanswered_step request live Done next later stepped none = (stepped.unchanged tt, none)
  unanswered_step request live (Refused refusal) next later stepped none = (stepped.unchanged tt, none)

  -- if no request was answered, the live state is as it was
  pub none_answered : (requests : List BatchRequest) (live : LiveState B) (replies : List BatchReply)
      (after : LiveState B) (steps : BatchSteps G budget requests live replies after) → answered_in steps ≡ []
      → after ≡ live
  unfolding answered_in
  none_answered _ _ _ _ (NoneLeft live) none = refl
  none_answered _ _ _ _ (Bad number requests live replies after steps) none =
      none_answered requests live replies after steps none
  none_answered _ _ _ _ (Step request requests live reply next replies after stepped boxes steps) none =
      let one = unanswered_step request live reply next (answered_in steps) stepped none in
      none_answered requests next replies after steps one.1 ∙ one.0

  after_answer_few : (reply : Reply SourceFault) (next : LiveState B) (later : List (LiveState B))
      → length (after_answer reply next later) ≤ length later + 1
  after_answer_few (Answered end seq happened) next later = omega arith
  after_answer_few (Value word) next later = omega arith
  after_answer_few (ShownAs shown) next later = omega arith
  after_answer_few (Number seq) next later = omega arith
  after_answer_few Done next later = omega arith
  after_answer_few (Refused refusal) next later = omega arith

  -- no more are answered than there are
  pub few_answered : (requests : List BatchRequest) (live : LiveState B) (replies : List BatchReply)
      (after : LiveState B) (steps : BatchSteps G budget requests live replies after)
      → length (answered_in steps) ≤ length requests
  unfolding answered_in
  few_answered _ _ _ _ (NoneLeft live) = omega arith
  few_answered _ _ _ _ (Bad number requests live replies after steps) =
      omega (arith, few_answered requests live replies after steps)
  few_answered _ _ _ _ (Step request requests live reply next replies after stepped boxes steps) =
      omega (arith, after_answer_few reply next (answered_in steps), few_answered requests next replies after steps)

  -- no request changes what is registered
  pub batch_registered : (requests : List BatchRequest) (live : LiveState B) (replies : List BatchReply)
      (after : LiveState B) → BatchSteps G budget requests live replies after
      → (after.durable).registered ≡ (live.durable).registered
  batch_registered _ _ _ _ (NoneLeft live) = refl
  batch_registered _ _ _ _ (Bad number requests live replies after steps) =
      batch_registered requests live replies after steps
  batch_registered _ _ _ _ (Step request requests live reply next replies after stepped boxes steps) =
      batch_registered requests next replies after steps ∙ stepped.taken.registered

  -- ---- requests that may add a record

  -- of a request that adds none there is no answer
  adds_none : (request : Request) (live : LiveState B) (reply : Reply SourceFault) (next : LiveState B)
      (later : List (LiveState B)) → TakesStep G budget request live reply next → (MayAdd request → ⊥)
      → after_answer reply next later ≡ later
  adds_none request live (Answered end seq happened) next later stepped not =
      absurd (not (change_may_add G budget request live next (Answered end seq happened) tt (inl stepped)))
  adds_none request live (Value word) next later stepped not = refl
  adds_none request live (ShownAs shown) next later stepped not = refl
  adds_none request live (Number seq) next later stepped not = refl
  adds_none request live Done next later stepped not = refl
  adds_none request live (Refused refusal) next later stepped not = refl

  -- if some request was answered, the one that stands for the batch may add a record
  pub answered_may_add : (requests : List BatchRequest) (live : LiveState B) (replies : List BatchReply)
      (after : LiveState B) (steps : BatchSteps G budget requests live replies after) → (answered_in steps ≡ [] → ⊥)
      → MayAdd (adding_request requests)
  unfolding answered_in adding_request
  answered_may_add _ _ _ _ (NoneLeft live) some = absurd (some refl)
  answered_may_add _ _ _ _ (Bad number requests live replies after steps) some =
      answered_may_add requests live replies after steps some
  answered_may_add _ _ _ _ (Step (Load name source) requests live reply next replies after stepped boxes steps) some =
      tt
  answered_may_add _ _ _ _ (Step (Call name function args) requests live reply next replies after stepped boxes steps)
      some = tt
  answered_may_add _ _ _ _ (Step (Discard name) requests live reply next replies after stepped boxes steps) some = tt
  answered_may_add _ _ _ _ (Step (Get name global) requests live reply next replies after stepped boxes steps) some =
      answered_may_add requests next replies after steps
      (λ none. some (adds_none (Get name global) live reply next (answered_in steps) stepped (λ no. no) ∙ none))
  answered_may_add _ _ _ _ (Step (Object number) requests live reply next replies after stepped boxes steps) some =
      answered_may_add requests next replies after steps
      (λ none. some (adds_none (Object number) live reply next (answered_in steps) stepped (λ no. no) ∙ none))
  answered_may_add _ _ _ _ (Step Seq requests live reply next replies after stepped boxes steps) some =
      answered_may_add requests next replies after steps
      (λ none. some (adds_none Seq live reply next (answered_in steps) stepped (λ no. no) ∙ none))
  answered_may_add _ _ _ _ (Step Snapshot requests live reply next replies after stepped boxes steps) some =
      answered_may_add requests next replies after steps
      (λ none. some (adds_none Snapshot live reply next (answered_in steps) stepped (λ no. no) ∙ none))
