-- What a buffer of bytes answers. Its state is its bytes.
use Rattle.std.specs.Prelude.{◌≡◌, ◌⊎◌, ℕ, ◌==◌, ◌-◌, ◌%◌, List, []}
use Rattle.std.specs.Prelude.{◌∷◌, ◌++◌, length, take, slice_index, nat_lt, pos, if◌then◌else◌}
use Rattle.std.specs.Int.{w32, cast_unsigned}
use Rattle.ash_host.specs.declared.word.Word.TheVariants.{Int, Null}
use Rattle.ash_host.specs.declared.answer.HostAnswer.{HostAnswer}
use Rattle.ash_host.specs.declared.answer.HostAnswer.TheVariants.{Value, Nothing, Raise, NoMemory}
use Rattle.ash_host.specs.Calls.{HostCall, Start, Invoke, Get}
use Rattle.ash_host.specs.Limits.{max_state_bytes}

-- an answer, and the bytes after it
pub record BufferOutcome : Type 0 where
  pub answer : HostAnswer
  pub bytes : List ℕ

abbrev pub leaves : HostAnswer → List ℕ → BufferOutcome
leaves answer bytes = record { answer = answer; bytes = bytes }

-- putting a byte at the end; a full buffer raises 1
abbrev pub puts : ℕ → List ℕ → BufferOutcome
puts byte bytes =
    if nat_lt (length bytes) max_state_bytes then leaves Nothing (bytes ++ byte ∷ []) else leaves (Raise 1) bytes

-- taking the byte at the end; an empty buffer raises 2
abbrev pub takes : List ℕ → BufferOutcome
takes bytes =
    if length bytes == 0 then leaves (Raise 2) bytes
    else leaves (Value (Int (pos (slice_index bytes (length bytes - 1))))) (take (length bytes - 1) bytes)

-- what a buffer answers where there is memory
abbrev pub buffer_step : HostCall → List ℕ → BufferOutcome
buffer_step (Start []) bytes = leaves Nothing []
buffer_step (Invoke method (Int number ∷ [])) bytes =
    if method == 1 then puts (cast_unsigned w32 number % 256) bytes else leaves Nothing bytes
buffer_step (Invoke method []) bytes = if method == 2 then takes bytes else leaves Nothing bytes
buffer_step (Get prop) bytes = leaves (Value (if prop == 1 then Int (pos (length bytes)) else Null)) bytes
buffer_step _ bytes = leaves Nothing bytes

-- this answer and these bytes after it
pub record IsStep (step : BufferOutcome) (answer : HostAnswer) (after : List ℕ) : Type 0 where
  pub answered : answer ≡ step.answer
  pub left : after ≡ step.bytes

-- memory ran out, and the bytes are as before
pub record IsOutOfMemory (before : List ℕ) (answer : HostAnswer) (after : List ℕ) : Type 0 where
  pub answered : answer ≡ NoMemory
  pub unchanged : after ≡ before

-- A buffer answers as its step says, or answers that memory ran out and changes nothing.
abbrev pub AllowsBuffer : HostCall → List ℕ → HostAnswer → List ℕ → Type 0
AllowsBuffer call before answer after = IsStep (buffer_step call before) answer after
    ⊎ IsOutOfMemory before answer after
