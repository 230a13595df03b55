-- The laws of objects as plain data.
use Rattle.std.specs.Prelude.{◌≡◌, ◌⊎◌, ◌+◌, ◌<◌, ◌↔◌, ℕ, true, List, [], Some, Contains, nat_eq, if◌then◌else◌}
use Rattle.std.specs.Option.{option_map_or}
use Rattle.ash_host.specs.Objects.{Plain, LiveObjects, object_at, with_at, IsInOrder, AreNumbered}
use Rattle.ash_host.specs.Objects.{Refers, fields_of, fields_to, handles, handles_to, count_of}
use Rattle.ash_host.specs.Reach.{ReachableIn, NoneDangles, Swept, Cascaded, AreObjectRanks}
use Rattle.ash_host.specs.Reach.{hosts_gone, is_reachable, after_sweep, drops_of_sweep}
use Rattle.ash_host.specs.declared.word.Word.{Word}
use Rattle.ash_host.specs.declared.event.Target.{Target}
use Rattle.ash_host.specs.Calls.{HostCall}
use Rattle.ash_host.specs.Records.{HostRecord, TakesRecord, next_record}

-- the test of reachability finds what is reachable and nothing else
abbrev pub ReachIsDecided : Type 0 → Type 0
ReachIsDecided M = (held : List ℕ) (objects : LiveObjects M) (number : ℕ)
    → (is_reachable held objects number ≡ true) ↔ ReachableIn (Contains held) objects number

-- the sweep that is computed is the sweep
abbrev pub SweepIsExact : Type 0 → Type 0
SweepIsExact M = (held : List ℕ) (objects : LiveObjects M) → IsInOrder objects
    → Swept (Contains held) objects (after_sweep held objects) (drops_of_sweep held objects)

-- and there is no other
abbrev pub SweepIsOne : Type 0 → Type 0
SweepIsOne M = (held : List ℕ) (old one other : LiveObjects M) (dropped others : List ℕ)
    → Swept (Contains held) old one dropped → Swept (Contains held) old other others
    → (one ≡ other) × (dropped ≡ others)

-- after a sweep the same is reachable, no handle dangles where none did, and sweeping again changes and drops nothing
pub record IsSwept {M : Type 0} (held : List ℕ) (old new : LiveObjects M) : Type 0 where
  pub reach : (number : ℕ) → ReachableIn (Contains held) old number ↔ ReachableIn (Contains held) new number
  pub handles : NoneDangles (Contains held) old → NoneDangles (Contains held) new
  pub again : Swept (Contains held) new new []

abbrev pub SweepSettles : Type 0 → Type 0
SweepSettles M = (held : List ℕ) (old new : LiveObjects M) (dropped : List ℕ)
    → Swept (Contains held) old new dropped → IsSwept held old new

-- where ranks fall along every reference, a cascade of counts that fall to zero is the sweep
abbrev pub CascadeIsSweep : Type 0 → Type 0
CascadeIsSweep M = (held : List ℕ) (rank : ℕ → ℕ) (top : ℕ) (old new : LiveObjects M) → Cascaded (Contains held) old new
    → NoneDangles (Contains held) old → AreObjectRanks rank top old → Swept (Contains held) old new (hosts_gone old new)

-- an object is counted exactly where a global is a handle to it or an object refers to it
abbrev pub CountIsReferences : Type 0 → Type 0
CountIsReferences M = (globals : List Word) (objects : LiveObjects M) (number : ℕ) → IsInOrder objects
    → (0 < count_of number globals objects)
    ↔ (Contains (handles globals) number ⊎ ((one : ℕ) × Refers objects one number))

-- what is inserted at a number is there, all else stays where it was, and the order stays
pub record IsInsertedAt {M : Type 0} (number : ℕ) (object : Plain M) (old new : LiveObjects M) : Type 0 where
  pub places : (place : ℕ) → object_at place new ≡ (if nat_eq place number then Some object else object_at place old)
  pub in_order : IsInOrder new
  pub counts : (other : ℕ)
      → fields_to other new + option_map_or (λ before. handles_to other (fields_of before)) (object_at number old) 0
      ≡ fields_to other old + handles_to other (fields_of object)

abbrev pub InsertIsExact : Type 0 → Type 0
InsertIsExact M = (number : ℕ) (object : Plain M) (objects : LiveObjects M) → IsInOrder objects
    → IsInsertedAt number object objects (with_at number object objects)

-- an object that is made gets the number after the last, which is then the last
abbrev pub NumbersRise : Type 0 → Type 0
NumbersRise M = (last : ℕ) (object : Plain M) (objects : LiveObjects M) → AreNumbered last objects
    → AreNumbered (last + 1) (with_at (last + 1) object objects)

-- a sweep gives no numbers: the last stays the last
abbrev pub SweepKeepsLast : Type 0 → Type 0
SweepKeepsLast M = (held : List ℕ) (last : ℕ) (old new : LiveObjects M) (dropped : List ℕ) → AreNumbered last old
    → Swept (Contains held) old new dropped → AreNumbered last new

-- the next record is taken exactly where it is of the call
abbrev pub RecordIsExact : Type 0
RecordIsExact = (target : Target) (call : HostCall) (before : List ℕ) (records : List HostRecord) (next : HostRecord)
    (left : List HostRecord) → (next_record target call before records ≡ Some (next, left))
    ↔ TakesRecord target call before records next left
