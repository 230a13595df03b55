-- What a chest answers. Its state is its capacity, and then its items, a byte each.
use Rattle.std.specs.Prelude.{◌≡◌, ◌⊎◌, ℕ, ℤ, pos, negsuc, ◌==◌, ◌-◌, List, [], ◌∷◌, ◌++◌, length, take}
use Rattle.std.specs.Prelude.{Bool, true, false, Option, Some, None, slice_index, nat_lt, nat_le, if◌then◌else◌}
use Rattle.ash.specs.declared.Word.TheVariants.{Int, Null}
use Rattle.ash.specs.declared.HostAnswer.{HostAnswer}
use Rattle.ash.specs.declared.HostAnswer.TheVariants.{Value, Nothing, Raise, NoMemory}
use Rattle.ash.specs.Calls.{HostCall, Start, Invoke, Get}

-- an answer, and the state after it
pub record ChestOutcome : Type 0 where
  pub answer : HostAnswer
  pub state : List ℕ

abbrev pub leaves : HostAnswer → List ℕ → ChestOutcome
leaves answer state = record { answer = answer; state = state }

-- the byte that an `int` is, if it is one
abbrev pub byte_of : ℤ → Option ℕ
byte_of (pos number) = if nat_lt number 256 then Some number else None
byte_of (negsuc _) = None

-- making a chest of a capacity that a byte holds; else it raises 1
abbrev pub makes : Option ℕ → List ℕ → ChestOutcome
makes (Some capacity) state = leaves Nothing (capacity ∷ [])
makes None state = leaves (Raise 1) state

-- putting an item at the end: a number that is no byte raises 1, and a full chest 2
abbrev pub puts : Option ℕ → List ℕ → ChestOutcome
puts (Some item) (capacity ∷ items) =
    if nat_lt (length items) capacity then leaves Nothing (capacity ∷ (items ++ item ∷ []))
    else leaves (Raise 2) (capacity ∷ items)
puts _ state = leaves (Raise 1) state

-- taking the item at the end; an empty chest raises 3
abbrev pub takes : List ℕ → ChestOutcome
takes (capacity ∷ items) =
    if length items == 0 then leaves (Raise 3) (capacity ∷ items)
    else leaves (Value (Int (pos (slice_index items (length items - 1)))))
    (capacity ∷ take (length items - 1) items)
takes [] = leaves (Raise 3) []

-- property 1 is how many items there are, and 2 the capacity
abbrev pub shows : ℕ → List ℕ → HostAnswer
shows prop (capacity ∷ items) =
    Value (if prop == 1 then Int (pos (length items)) else (if prop == 2 then Int (pos capacity) else Null))
shows _ [] = Value Null

-- what a chest answers where there is memory
abbrev pub chest_step : HostCall → List ℕ → ChestOutcome
chest_step (Start (Int capacity ∷ [])) state = makes (byte_of capacity) state
chest_step (Invoke method (Int item ∷ [])) state =
    if method == 1 then puts (byte_of item) state else leaves Nothing state
chest_step (Invoke method []) state = if method == 2 then takes state else leaves Nothing state
chest_step (Get prop) state = leaves (shows prop state) state
chest_step _ state = leaves Nothing state

-- this answer and this state after it
pub record IsStep (step : ChestOutcome) (answer : HostAnswer) (after : List ℕ) : Type 0 where
  pub answered : answer ≡ step.answer
  pub left : after ≡ step.state

-- memory ran out, and the state is as before
pub record IsOutOfMemory (before : List ℕ) (answer : HostAnswer) (after : List ℕ) : Type 0 where
  pub answered : answer ≡ NoMemory
  pub unchanged : after ≡ before

-- A chest answers as its step says, or answers that memory ran out and changes nothing.
abbrev pub AllowsChest : HostCall → List ℕ → HostAnswer → List ℕ → Type 0
AllowsChest call before answer after = IsStep (chest_step call before) answer after
    ⊎ IsOutOfMemory before answer after

-- whether bytes are the state of a chest: a capacity, and no more items than that
abbrev pub is_chest : List ℕ → Bool
is_chest [] = false
is_chest (capacity ∷ items) = nat_le (length items) capacity
