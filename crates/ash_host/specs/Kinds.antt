-- What the two kinds that come with the product answer. Both have one `int`.
use Rattle.std.specs.Prelude.{◌≡◌, ℕ, ℤ, ◌==◌, List, [], ◌∷◌, if◌then◌else◌, ◌+ℤ◌}
use Rattle.std.specs.Int.{w32, int_wrap}
use Rattle.ash_host.specs.declared.word.Word.TheVariants.{Int, Null}
use Rattle.ash_host.specs.declared.answer.HostAnswer.{HostAnswer}
use Rattle.ash_host.specs.declared.answer.HostAnswer.TheVariants.{Value, Nothing, Raise}
use Rattle.ash_host.specs.Calls.{HostCall, Start, Invoke, Get, Set}
use Rattle.ash_host.specs.Ints.{int_bytes, int_of_bytes, low_bits_of}

-- an answer, and the number after it
pub record KindOutcome : Type 0 where
  pub answer : HostAnswer
  pub value : ℤ

abbrev pub leaves : HostAnswer → ℤ → KindOutcome
leaves answer value = record { answer = answer; value = value }

-- adding to the number, wrapping, and answering the sum
abbrev pub adds : ℤ → ℤ → KindOutcome
adds number value = let sum = int_wrap w32 (value +ℤ number) in leaves (Value (Int sum)) sum

-- Counter's methods at one `int`: 1 adds, 2 raises with the argument's low 16 bits
abbrev pub counter_method : ℕ → ℤ → ℤ → KindOutcome
counter_method method number value =
    if method == 1 then adds number value
    else (if method == 2 then leaves (Raise (low_bits_of number)) value else leaves Nothing value)

-- What Counter answers, at the number that it has. Its factory and its property 1 set the number.
abbrev pub counter_step : HostCall → ℤ → KindOutcome
counter_step (Start (Int number ∷ [])) value = leaves Nothing number
counter_step (Invoke method (Int number ∷ [])) value = counter_method method number value
counter_step (Get prop) value = leaves (Value (if prop == 1 then Int value else Null)) value
counter_step (Set prop (Int number)) value = leaves Nothing (if prop == 1 then number else value)
counter_step _ value = leaves Nothing value

-- Tally's functions: 1 adds its `int`, 2 takes nothing and answers the total
abbrev pub tally_step : HostCall → ℤ → KindOutcome
tally_step (Invoke method (Int number ∷ [])) value = if method == 1 then adds number value else leaves Nothing value
tally_step (Invoke method []) value = leaves (if method == 2 then Value (Int value) else Nothing) value
tally_step (Get _) value = leaves (Value Null) value
tally_step _ value = leaves Nothing value

-- the one answer and the one state that a kind with one `int` as its state allows
pub record AllowsByInt (step : HostCall → ℤ → KindOutcome) (call : HostCall) (before : List ℕ) (answer : HostAnswer)
    (after : List ℕ) : Type 0 where
  pub answered : answer ≡ (step call (int_of_bytes before)).answer
  pub left : after ≡ int_bytes (step call (int_of_bytes before)).value
