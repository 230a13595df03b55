-- The objects that a table marks, and the numbers that it keeps of those that went, are all that changed.
use Rattle.std.specs.Prelude.{◌≡◌, ℕ, false, [], Contains, None, IfSome}
use Rattle.ash_host.specs.declared.host_object.HostObject.{Ghosts}
use Rattle.ash_host.specs.Objects.{object_at, Lives, AreNumbered}
use Rattle.ash_objects.specs.Table.{Table, body_of}
use Rattle.ash_objects.specs.Marking.{marked_of, without_marks}
use Rattle.ash_object_ranks.specs.ShownTables.{SlotNames, objects_shown}
use Rattle.ash_run_steps.specs.Following.{KeepsMarks}

module _ {B : Type 0} where
  -- Nothing is marked, nothing went, and every number was given before the marks were cleared.
  pub record IsSettled (table : Table B) : Type 0 where
    pub unmarked : (number : ℕ) → IfSome (object_at number table.objects) (λ object. object.touched ≡ false)
    pub none_gone : table.gone ≡ []
    pub settled : table.settled ≡ table.last

  -- What is neither marked nor gone is what it was, whoever holds it; what is marked lives; what went lived before, and
  -- lives no more.
  pub record MarksName (old new : Table B) : Type 0 where
    pub all : (number : ℕ) → (Contains (marked_of new) number → ⊥) → (Contains new.gone number → ⊥)
        → body_of number new ≡ body_of number old
    pub live : (number : ℕ) → Contains (marked_of new) number → Lives new.objects number
    pub went : (number : ℕ) → Contains new.gone number
        → Lives old.objects number × (object_at number new.objects ≡ None)

  -- So it is after each run and each release point that began with clear marks.
  abbrev pub MarksNameChanges : Ghosts B → Type 0
  MarksNameChanges G = (old new : Table B) → IsSettled old → AreNumbered old.last old.objects → KeepsMarks old new
      → MarksName old new

  -- Once the marks are cleared they are clear, and each object is what it was.
  pub record ClearsMarks (table : Table B) : Type 0 where
    pub clear : IsSettled (without_marks table)
    pub same : (number : ℕ) → body_of number (without_marks table) ≡ body_of number table

  abbrev pub SettledIsClear : Ghosts B → Type 0
  SettledIsClear G = (table : Table B) → ClearsMarks table

  -- Modules that came or went gave no object that lives another module by name.
  abbrev pub KeepNames : Ghosts B → SlotNames → SlotNames → Table B → Type 0
  KeepNames G names later table = (number : ℕ) → object_at number (objects_shown G later table.objects)
      ≡ object_at number (objects_shown G names table.objects)

  -- What is neither marked nor gone is in the state after a request what it was in the state before.
  abbrev pub NamesObjects : Ghosts B → SlotNames → SlotNames → Table B → Table B → Type 0
  NamesObjects G names later old new =
      (number : ℕ) → (Contains (marked_of new) number → ⊥) → (Contains new.gone number → ⊥)
      → object_at number (objects_shown G later new.objects) ≡ object_at number (objects_shown G names old.objects)

  abbrev pub MarksNameObjects : Ghosts B → Type 0
  MarksNameObjects G = (names later : SlotNames) (old new : Table B) → MarksName old new
      → KeepNames G names later new → NamesObjects G names later old new
