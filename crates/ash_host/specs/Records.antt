-- What host objects answered, as a list of records, which of them are valid, and how a call takes the next of them.
use Rattle.std.specs.Prelude.{◌≡◌, ◌≤◌, ℕ, Bool, true, false, ◌&&◌, List}
use Rattle.std.specs.Prelude.{[], ◌∷◌, length, Option, None, Some, nat_eq, if◌then◌else◌}
use Rattle.std.specs.Ordering.{int_eq}
use Rattle.std.specs.Bool.{beq}
use Rattle.std.specs.Cmp.Lexicographic.{pointwise}
use Rattle.ash_host.specs.declared.word.Word.{Word}
use Rattle.ash_host.specs.declared.word.Word.TheVariants as words
use Rattle.ash_host.specs.declared.answer.HostAnswer.{HostAnswer}
use Rattle.ash_host.specs.declared.event.Target.{Target}
use Rattle.ash_host.specs.declared.event.Target.TheVariants as targets
use Rattle.ash_host.specs.declared.host_object.HostObject.{Ghosts}
use Rattle.ash_host.specs.Calls.{HostCall, Start, Invoke, Get, Set}
use Rattle.ash_host.specs.Limits.{max_state_bytes}
use Rattle.ash_host.specs.Words.{IsAnswer}

-- one call: what it went to, what it was, the state before it, the answer, and the state after it
pub record HostRecord : Type 0 where
  pub target : Target
  pub call : HostCall
  pub before : List ℕ
  pub answer : HostAnswer
  pub after : List ℕ

-- A record is valid for the object that answered if it allows the answer and the state after it, from the state before;
-- if the answered word has a number that its type has; and if neither state is longer than a state may be.
pub record IsValidRecord {B : Type 0} (host : Ghosts B) (object : B) (r : HostRecord) : Type 0 where
  pub allowed : host.allows object r.call r.before r.answer r.after
  pub answered_fits : IsAnswer r.answer
  pub before_fits : length r.before ≤ max_state_bytes
  pub after_fits : length r.after ≤ max_state_bytes

-- The next record is of this call, made at this state, and these are left after it.
pub record TakesRecord (target : Target) (call : HostCall) (before : List ℕ) (records : List HostRecord)
    (next : HostRecord) (left : List HostRecord) : Type 0 where
  pub first : records ≡ next ∷ left
  pub same_target : next.target ≡ target
  pub same_call : next.call ≡ call
  pub same_state : next.before ≡ before

-- whether two words are one
abbrev pub is_same_word : Word → Word → Bool
is_same_word (words.Bool a) (words.Bool b) = beq a b
is_same_word (words.Int a) (words.Int b) = int_eq a b
is_same_word (words.Uint a) (words.Uint b) = nat_eq a b
is_same_word (words.Int64 a) (words.Int64 b) = int_eq a b
is_same_word (words.Uint64 a) (words.Uint64 b) = nat_eq a b
is_same_word words.Null words.Null = true
is_same_word (words.Object a) (words.Object b) = nat_eq a b
is_same_word _ _ = false

-- whether two calls are one
abbrev pub is_same_call : HostCall → HostCall → Bool
is_same_call (Start a) (Start b) = pointwise is_same_word a b
is_same_call (Invoke m a) (Invoke n b) = nat_eq m n && pointwise is_same_word a b
is_same_call (Get p) (Get q) = nat_eq p q
is_same_call (Set p v) (Set q w) = nat_eq p q && is_same_word v w
is_same_call _ _ = false

-- whether two targets are one
abbrev pub is_same_target : Target → Target → Bool
is_same_target (targets.Object a) (targets.Object b) = nat_eq a b
is_same_target (targets.Service a) (targets.Service b) = nat_eq a b
is_same_target _ _ = false

-- whether a record is of this call, made at this state
abbrev pub is_of : Target → HostCall → List ℕ → HostRecord → Bool
is_of target call before next = is_same_target next.target target && is_same_call next.call call
    && pointwise nat_eq next.before before

-- The next record and those that are left, where it is of this call; none where it isn't, or where none is left.
abbrev pub next_record : Target → HostCall → List ℕ → List HostRecord → Option (HostRecord × List HostRecord)
next_record target call before [] = None
next_record target call before (next ∷ left) = if is_of target call before next then Some (next, left) else None
