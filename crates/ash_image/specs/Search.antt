-- The search for what is reachable: each object is marked once, and waits until its handles are followed.
use Rattle.std.specs.Prelude.{◌≡◌, ◌⊎◌, ℕ, ◌+◌, ◌<◌, if◌then◌else◌, Bool, true, false}
use Rattle.std.specs.Prelude.{List, [], ◌∷◌, ◌++◌, length, get_or, set, Contains}
use Rattle.ash_host.specs.Objects.{LiveObjects, numbers, references}
use Rattle.ash_host.specs.Reach.{ReachableIn, is_among}
use Rattle.ash_image.specs.declared.reaching.Search.{Search}

-- which objects are marked, by their index, and the indices of those that wait
pub record SearchProgress : Type 0 where
  pub marked : List Bool
  pub pending : List ℕ

abbrev pub IsMarked : SearchProgress → ℕ → Type 0
IsMarked s i = get_or s.marked i false ≡ true

-- with an index marked, and waiting, if it was not marked
abbrev pub with_marked : ℕ → SearchProgress → SearchProgress
with_marked i s = if get_or s.marked i false then s
    else record { marked = set s.marked i true; pending = s.pending ++ i ∷ [] }

abbrev pub IsPending : SearchProgress → ℕ → Type 0
IsPending s i = is_among s.pending i ≡ true

-- how many are not marked
abbrev pub unmarked : List Bool → ℕ
unmarked [] = 0
unmarked (true ∷ marked) = unmarked marked
unmarked (false ∷ marked) = unmarked marked + 1

-- What a search is after objects of these numbers were looked for: they are marked, what is newly marked waits, and
-- nothing else is changed.
pub record Visited (alive wanted : List ℕ) (old new : SearchProgress) : Type 0 where
  pub same : length new.marked ≡ length old.marked
  pub count : unmarked new.marked + length new.pending ≡ unmarked old.marked + length old.pending
  pub grows : (i : ℕ) → IsMarked old i → IsMarked new i
  pub fresh : (i : ℕ) → IsMarked new i → IsMarked old i
      ⊎ (IsPending new i × (is_among wanted (get_or alive i 0) ≡ true))
  pub waits : (i : ℕ) → IsPending old i → IsPending new i
  pub waiting : (i : ℕ) → IsPending new i → IsPending old i ⊎ IsMarked new i
  pub all : (i : ℕ) → i < length alive → is_among wanted (get_or alive i 0) ≡ true → IsMarked new i

-- What is marked is reachable from what is held, what is held is marked, and what a marked object that waits no longer
-- refers to is marked.
pub record Searches (held : List ℕ) (objects : LiveObjects ℕ) (s : SearchProgress) : Type 0 where
  pub size : length s.marked ≡ length objects
  pub waiting : (i : ℕ) → IsPending s i → IsMarked s i
  pub sound : (i : ℕ) → IsMarked s i → ReachableIn (Contains held) objects (get_or (numbers objects) i 0)
  pub roots : (i : ℕ) → i < length objects → is_among held (get_or (numbers objects) i 0) ≡ true → IsMarked s i
  pub closed : (i : ℕ) → IsMarked s i → IsPending s i ⊎ ((j : ℕ) → j < length objects
      → is_among (references objects (get_or (numbers objects) i 0)) (get_or (numbers objects) j 0) ≡ true
      → IsMarked s j)

-- how far the code has come
abbrev pub progress_of : Search → SearchProgress
progress_of s = record { marked = s.marked.items; pending = s.pending.items }
