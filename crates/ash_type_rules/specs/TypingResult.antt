-- Typing as a function: what it gives, or the first fault. The order in which its steps are bound is the order in which
-- a script is walked.
use Rattle.std.specs.Prelude.{ℕ, Result, Ok, Err}
use Rattle.ash_type_rules.specs.declared.fault.Rule.{Rule}
use Rattle.ash_type_rules.specs.declared.fault.Fault.{Fault}

abbrev pub TypingResult : Type 0 → Type 0
TypingResult A = Result A Fault

infixl 10 ◌>>=◌
abbrev pub ◌>>=◌ : {A B : Type 0} → TypingResult A → (A → TypingResult B) → TypingResult B
(Ok x) >>= f = f x
(Err e) >>= f = Err e

-- `broken rule at` is the fault that a rule is broken at this offset.
abbrev pub broken : {A : Type 0} → Rule → ℕ → TypingResult A
broken rule at = Err (record { rule = rule; at = at })
