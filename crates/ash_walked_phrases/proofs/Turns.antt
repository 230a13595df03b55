-- Loops, turn by turn.
use Rattle.std.proofs.Common.{◌≡◌, ◌<◌, ◌≤◌, ◌-◌, ◌+◌, ℕ, suc, Bool, true, false, Some, None, refl, ap, ◌∙◌, arith}
use Rattle.std.specs.Prelude.{if◌then◌else◌}
use Rattle.ash_meaning.specs.Activity.{Activity}
use Rattle.ash_meaning.specs.Runs.{Progress, Done, Ended, NoStep, Run, give, onward, ◌>>=◌, ◌>>◌, out_of_ticks}
use Rattle.ash_meaning.specs.Frames.{tick}
use Rattle.ash_meaning.specs.Releases.{release}
use Rattle.ash_meaning.specs.StatementMeaning.{Flow, On, Broke, Continued, Returned, Turn, turn, turns, after_body}
use Rattle.ash_walked_phrases.specs.WalkedPhrases.{after_turn, turn_run, next_turn, left_or}

module _ (t : Turn) (next : Run Flow) where
  stepped : (p : Progress (Unit {0})) → onward p (λ _. next) ≡ onward (onward p (λ _. give None)) (left_or next)
  stepped (Done v a) = refl
  stepped (Ended i a) = refl
  stepped NoStep = refl

  released : (p : Progress (Unit {0})) → onward (onward p (λ _. t.steps)) (λ _. next) ≡ onward (onward (onward p (λ _. t.steps)) (λ _. give None)) (left_or next)
  released p = stepped (onward p (λ _. t.steps))

  after : (p : Progress Flow) → onward p (after_body t next) ≡ onward (onward p (after_turn t)) (left_or next)
  after (Done On a) = stepped (t.steps a)
  after (Done Continued a) = released (release a)
  after (Done Broke a) = refl
  after (Done (Returned value) a) = refl
  after (Ended i a) = refl
  after NoStep = refl

  pub turn_is : (a : Activity) → turn t next a ≡ onward (turn_run t a) (left_or next)
  turn_is a = after (t.body a)

  chosen : (b : Bool) (a : Activity) → (if b then turn t next else give On) a ≡ onward ((if b then turn_run t else give (Some On)) a) (left_or next)
  chosen true a = turn_is a
  chosen false a = refl

  tested : (p : Progress Bool) → onward p (λ b. if b then turn t next else give On) ≡ onward (onward p (λ b. if b then turn_run t else give (Some On))) (left_or next)
  tested (Done b a) = chosen b a
  tested (Ended i a) = refl
  tested NoStep = refl

  ticked : (p : Progress (Unit {0})) → onward p (λ _. t.condition >>= (λ b. if b then turn t next else give On)) ≡ onward (onward p (λ _. t.condition >>= (λ b. if b then turn_run t else give (Some On)))) (left_or next)
  ticked (Done v a) = tested (t.condition a)
  ticked (Ended i a) = refl
  ticked NoStep = refl

  pub next_turn_is : (a : Activity) → (tick t.line >> (t.condition >>= (λ b. if b then turn t next else give On))) a ≡ onward (next_turn t a) (left_or next)
  next_turn_is a = ticked (tick t.line a)

module _ (t : Turn) where
  pub turns_more : (depth i : ℕ) (a : Activity) → i < depth → turns (depth - i) t a ≡ onward (next_turn t a) (left_or (turns (depth - (i + 1)) t))
  turns_more depth i a low =
      let k : depth - i ≡ suc (depth - (i + 1)) = omega arith in
      ap (λ (n : ℕ). turns n t a) k ∙ next_turn_is t (turns (depth - (i + 1)) t) a

  pub turns_end : (depth i : ℕ) (a : Activity) → depth ≤ i → turns (depth - i) t a ≡ (tick t.line >> out_of_ticks) a
  turns_end depth i a over = let k : depth - i ≡ 0 = omega arith in ap (λ (n : ℕ). turns n t a) k
