-- What a table still is of one before it: its boxes are what they were, what came, changed or went is marked, and of the
-- host objects that were there only those that answered a call.
use Rattle.std.specs.Prelude.{◌≡◌, ◌⊎◌, ◌↔◌, ◌<◌, ◌≤◌}
use Rattle.std.specs.Prelude.{ℕ, true, false, cond, nat_le, List, [], slice_get, Option, Some, None, IsSome, Contains}
use Rattle.std.specs.List.{AllByRecursion}
use Rattle.ash_host.specs.declared.event.Target.{Target}
use Rattle.ash_host.specs.declared.event.Target.TheVariants as targets
use Rattle.ash_host.specs.declared.host_object.HostObject.{Ghosts}
use Rattle.ash_host.specs.Objects.{object_at, Lives}
use Rattle.ash_host.specs.Records.{HostRecord}
use Rattle.ash_objects.specs.Table.{Living, Table}
use Rattle.ash_objects.specs.Responses.{box_at}
use Rattle.ash_run_steps.specs.Answered.{IsStill}
use Rattle.ash_run_steps.specs.Drawing.{Enough, draw_all, kinds_of}
use Rattle.ash_run_steps.specs.RunStates.{bare_living}

-- the object of this number gave one of the answers
abbrev pub HasAnswered : List HostRecord → ℕ → Type 0
HasAnswered records number = (r : HostRecord) × Contains records r × (r.target ≡ targets.Object number)

module _ {B : Type 0} where
  -- The box that a call goes to: that of a service, of an object whose number was given, or of one drawn since.
  abbrev pub box_for : Table B → List (ℕ × B) → Target → Option B
  box_for old drawn (targets.Object number) =
      cond (nat_le number old.last) (box_at number old) (object_at number drawn)
  box_for old drawn (targets.Service place) = slice_get old.services place

  -- a number was given after one table, and before another
  abbrev pub IsGivenBetween : Table B → Table B → ℕ → Type 0
  IsGivenBetween old new number = (old.last < number) × (number ≤ new.last)

  -- Each object that was drawn got a new number and the first free box of its kind, and each box is what it was.
  pub record KeepsBoxes (G : Ghosts B) (drawn : List (ℕ × B)) (old new : Table B) : Type 0 where
    pub rises : old.last ≤ new.last
    pub given : AllByRecursion (λ (e : ℕ × B). IsGivenBetween old new e.0) drawn
    pub first_free : draw_all G (kinds_of G drawn) old.pool ≡ Enough drawn new.pool
    pub still : (target : Target) (box : B) → box_for new [] target ≡ Some box
        → IsStill G (box_for old drawn target) box

  -- an object lived that was there when the marks were cleared, and lives no longer
  pub record HasGone (old new : Table B) (number : ℕ) : Type 0 where
    pub settled : number ≤ old.settled
    pub lived : Lives old.objects number
    pub none : object_at number new.objects ≡ None

  -- What came, changed or went is marked, and marks stay. What has no mark was there, without a mark, and is what it
  -- was but for its holds; no number comes again; and the numbers that went are those that the table keeps.
  pub record KeepsMarks (old new : Table B) : Type 0 where
    pub settled : new.settled ≡ old.settled
    pub unmarked : (number : ℕ) (object : Living B) → object_at number new.objects ≡ Some object
        → object.touched ≡ false
        → (before : Living B) × (object_at number old.objects ≡ Some before) × (bare_living before ≡ bare_living object)
    pub once : (number : ℕ) → number ≤ old.last → Lives new.objects number → Lives old.objects number
    pub gone : old.settled ≤ old.last → (number : ℕ)
        → Contains new.gone number ↔ (Contains old.gone number ⊎ HasGone old new number)

  -- an object has a mark
  pub record IsMarked (table : Table B) (number : ℕ) : Type 0 where
    pub object : Living B
    pub there : object_at number table.objects ≡ Some object
    pub marked : object.touched ≡ true

  -- A host object that has a mark came since, had it before, or gave one of these answers.
  abbrev pub MarksNoMore : List HostRecord → Table B → Table B → Type 0
  MarksNoMore records old new = (number : ℕ) → IsMarked new number → IsSome (box_at number new)
      → (old.last < number) ⊎ (IsMarked old number ⊎ HasAnswered records number)

  -- the same of all three, if these were drawn, and boxes gave these answers
  pub record Follows (G : Ghosts B) (drawn : List (ℕ × B)) (records : List HostRecord) (old new : Table B) : Type 0 where
    pub boxes : KeepsBoxes G drawn old new
    pub marks : KeepsMarks old new
    pub no_more : MarksNoMore records old new
