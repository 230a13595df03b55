-- What is reachable from what is held, and the sweep, which takes the rest away.
use Rattle.std.specs.Prelude.{◌≡◌, ◌⊎◌, ◌<◌, ℕ, Bool, List, [], ◌∷◌, ◌&&◌, ◌||◌, nat_eq, None, filter}
use Rattle.std.specs.List.{list_any}
use Rattle.std.specs.Option.{is_none}
use Rattle.std.specs.Map.{keys_of}
use Rattle.ash_host.specs.Objects.{LiveObjects, object_at, numbers, IsInOrder, Lives, references, Refers, is_host}

-- A number is reachable where it is held, or where a reachable object refers to it.
pub data Reachable (IsHeld : ℕ → Type 0) (RefersTo : ℕ → ℕ → Type 0) : ℕ → Type 0 where
  Root : {number : ℕ} → IsHeld number → Reachable IsHeld RefersTo number
  Field : {one other : ℕ} → Reachable IsHeld RefersTo one → RefersTo one other → Reachable IsHeld RefersTo other

-- reachable among these objects from what is held
abbrev pub ReachableIn : {M : Type 0} → (ℕ → Type 0) → LiveObjects M → ℕ → Type 0
ReachableIn IsHeld objects number = Reachable IsHeld (Refers objects) number

-- every handle, held or in a field, is to an object that lives
pub record NoneDangles {M : Type 0} (IsHeld : ℕ → Type 0) (objects : LiveObjects M) : Type 0 where
  pub held : (number : ℕ) → IsHeld number → Lives objects number
  pub fields : (one other : ℕ) → Refers objects one other → Lives objects other

-- the host objects that lived and live no longer, by ascending number
abbrev pub hosts_gone : {M : Type 0} → LiveObjects M → LiveObjects M → List ℕ
hosts_gone old new = keys_of (filter (λ e. is_host e.1 && is_none (object_at e.0 new)) old)

-- The sweep: what is reachable stays as it was, all else goes, and the host objects among it are dropped by
-- ascending number.
pub record Swept {M : Type 0} (IsHeld : ℕ → Type 0) (old new : LiveObjects M) (dropped : List ℕ) : Type 0 where
  pub stays : (number : ℕ) → ReachableIn IsHeld old number → object_at number new ≡ object_at number old
  pub goes : (number : ℕ) → ¬ ReachableIn IsHeld old number → object_at number new ≡ None
  pub in_order : IsInOrder new
  pub reported : dropped ≡ hosts_gone old new

-- What a cascade of counts that fall to zero does: it takes away only what nothing that stays refers to and nothing
-- holds, and leaves nothing of that kind.
pub record Cascaded {M : Type 0} (IsHeld : ℕ → Type 0) (old new : LiveObjects M) : Type 0 where
  pub unchanged : (number : ℕ) → Lives new number → object_at number new ≡ object_at number old
  pub not_held : (number : ℕ) → Lives old number → object_at number new ≡ None → ¬ IsHeld number
  pub not_referred :
      (one other : ℕ) → Lives old other → object_at other new ≡ None → Lives new one → ¬ Refers old one other
  pub counted : (number : ℕ) → Lives new number → IsHeld number ⊎ ((one : ℕ) × Lives new one × Refers new one number)
  pub in_order : IsInOrder new

-- ranks below a bound that fall along every reference, as there are where no class can lead back to itself
pub record AreObjectRanks {M : Type 0} (rank : ℕ → ℕ) (top : ℕ) (objects : LiveObjects M) : Type 0 where
  pub below : (number : ℕ) → Lives objects number → rank number < top
  pub falls : (one other : ℕ) → Refers objects one other → rank other < rank one

-- whether a number is among these
abbrev pub is_among : List ℕ → ℕ → Bool
is_among numbers number = list_any (nat_eq number) numbers

-- whether references lead from one number to another, directly or through these numbers only
unfoldable pub leads : (ℕ → ℕ → Bool) → List ℕ → ℕ → ℕ → Bool
leads refers [] one other = refers one other
leads refers (stop ∷ stops) one other =
    leads refers stops one other || (leads refers stops one stop && leads refers stops stop other)

-- whether one object refers to another
abbrev pub refers : {M : Type 0} → LiveObjects M → ℕ → ℕ → Bool
refers objects one other = is_among (references objects one) other

-- whether a number is reachable from those that are held
abbrev pub is_reachable : {M : Type 0} → List ℕ → LiveObjects M → ℕ → Bool
is_reachable held objects number =
    is_among held number || list_any (λ root. leads (refers objects) (numbers objects) root number) held

-- the objects that a sweep leaves
abbrev pub after_sweep : {M : Type 0} → List ℕ → LiveObjects M → LiveObjects M
after_sweep held objects = filter (λ e. is_reachable held objects e.0) objects

-- the host objects that a sweep drops, by ascending number
abbrev pub drops_of_sweep : {M : Type 0} → List ℕ → LiveObjects M → List ℕ
drops_of_sweep held objects = hosts_gone objects (after_sweep held objects)
