-- Calls of host objects, and what an object may answer to them.
use Rattle.std.specs.Prelude.{ℕ, List}
use Rattle.ash_host.specs.declared.word.Word.{Word}
use Rattle.ash_host.specs.declared.answer.HostAnswer.{HostAnswer}

-- a call of a host object or a service, with what it is handed
pub data HostCall : Type 0 where
  Start : (args : List Word) → HostCall
  Invoke : (method : ℕ) (args : List Word) → HostCall
  Get : (prop : ℕ) → HostCall
  Set : (prop : ℕ) (value : Word) → HostCall

-- which answer and which state after it a call may give, from the state before it
abbrev pub Relation : Type 1
Relation = HostCall → List ℕ → HostAnswer → List ℕ → Type 0

-- two relations that allow the same of every call
pub record SameRelation (one other : HostCall → List ℕ → HostAnswer → List ℕ → Type 0) : Type 0 where
  pub onward : (call : HostCall) (before : List ℕ) (answer : HostAnswer) (after : List ℕ)
      → one call before answer after → other call before answer after
  pub back : (call : HostCall) (before : List ℕ) (answer : HostAnswer) (after : List ℕ)
      → other call before answer after → one call before answer after
