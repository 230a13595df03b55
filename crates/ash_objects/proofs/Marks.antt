-- The marks of entries: their numbers, and whether they are host objects.
use Rattle.std.proofs.Common.{◌≡◌, ℕ, Bool, true, false, cond, List, [], ◌∷◌, ◌++◌, refl, sym, ap, ◌∙◌, nat_eq, nat_le, arith, zero, suc, length, ◌≤◌, ◌<◌, get_or, map, Some}
use Rattle.std.specs.Prelude.{sum_by}
use Rattle.std.specs.Option.{option_map}
use Rattle.std.specs.List.Sorted.{IsNonDecreasingBy}
use Rattle.std.proofs.lemmas.Bool.Decides.{nat_tests}
use Rattle.std.proofs.lemmas.List.Sums.{sum_by-cons}
use Rattle.ash_host.specs.declared.event.Event.{Event}
use Rattle.ash_host.specs.declared.event.Event.TheVariants.{Dropped}
use Rattle.ash_host.specs.Objects.{object_at, numbers, IsInOrder}
use Rattle.ash_slots.specs.declared.entry.Entry.{Entry}
use Rattle.ash_slots.specs.Bodies.{is_boxed}
use Rattle.ash_objects.specs.Collecting.{entry_mark, marked_since, marked_drops}

-- a sum over what a list is mapped to
pub sum-mapped : {A C : Type 0} (f : A → C) (measure : C → ℕ) (xs : List A) → sum_by measure (map f xs)
    ≡ sum_by (λ x. measure (f x)) xs
sum-mapped f measure [] = refl
sum-mapped f measure (x ∷ xs) =
    omega (
      arith,
      sum_by-cons measure (f x) (map f xs),
      sum_by-cons
          (λ y. measure (f y)) x xs,
      sum-mapped f measure xs,
    )

length-mapped : {A C : Type 0} (f : A → C) (xs : List A) → length (map f xs) ≡ length xs
length-mapped f [] = refl
length-mapped f (x ∷ xs) = ap suc (length-mapped f xs)

got-mapped : {A C : Type 0} (f : A → C) (xs : List A) (k : ℕ) (d : A) (e : C) → k < length xs → get_or (map f xs) k e
    ≡ f (get_or xs k d)
got-mapped f [] k d e within = absurd (omega arith)
got-mapped f (x ∷ xs) zero d e within = refl
got-mapped f (x ∷ xs) (suc k) d e within = got-mapped f xs k d e (omega arith)

module _ {B : Type 0} where
  pub sum-marks : (measure : ℕ × Bool → ℕ) (taken : List (Entry B)) → sum_by measure (map entry_mark taken)
      ≡ sum_by (λ entry. measure (entry_mark entry)) taken
  sum-marks measure taken = sum-mapped entry_mark measure taken

  -- entries whose numbers do not fall have marks whose numbers do not
  pub non_decreasing-marks : (taken : List (Entry B)) → IsNonDecreasingBy (λ entry. entry.number) taken
      → IsNonDecreasingBy (λ e. e.0) (map entry_mark taken)
  non_decreasing-marks [] n = λ i j d le within. absurd (omega arith)
  non_decreasing-marks (x ∷ xs) n = λ i j d le within.
      let many : length (map entry_mark (x ∷ xs)) ≡ length (x ∷ xs) = length-mapped entry_mark (x ∷ xs) in
      let first : get_or (map entry_mark (x ∷ xs)) i d ≡ entry_mark (get_or (x ∷ xs) i x) = got-mapped entry_mark (x ∷ xs) i x d (omega (arith, many)) in
      let second : get_or (map entry_mark (x ∷ xs)) j d ≡ entry_mark (get_or (x ∷ xs) j x) = got-mapped entry_mark (x ∷ xs) j x d (omega (arith, many)) in
      let one = ap (λ (e : ℕ × Bool). e.0) first in
      let two = ap (λ (e : ℕ × Bool). e.0) second in
      let rises = n i j x le (omega (arith, many)) in
      omega (arith, one, two, rises)

-- what is appended comes before the rest
pub appended : {A : Type 0} (done rest : List A) (x : A) → (done ++ x ∷ []) ++ rest ≡ done ++ x ∷ rest
appended [] rest x = refl
appended (y ∷ done) rest x = ap (λ (l : List _). y ∷ l) (appended done rest x)

pub nothing_more : {A : Type 0} (done : List A) → done ++ [] ≡ done
nothing_more [] = refl
nothing_more (y ∷ done) = ap (λ (l : List _). y ∷ l) (nothing_more done)

drops-cons : (n : ℕ) (b : Bool) (rest : List (ℕ × Bool)) → marked_drops ((n, b) ∷ rest)
    ≡ cond b (Dropped n ∷ marked_drops rest) (marked_drops rest)
drops-cons n true rest = refl
drops-cons n false rest = refl

-- one entry more that is reported
module _ {B : Type 0} where
  pub since_more : (settled : ℕ) (done : List ℕ) (e : Entry B) (rest : List (Entry B)) → e.number ≤ settled
      → (done ++ e.number ∷ []) ++ marked_since settled (map entry_mark rest)
      ≡ done ++ marked_since settled (map entry_mark (e ∷ rest))
  since_more settled done e rest early =
      let test : nat_le e.number settled ≡ true = grind (arith, nat_tests) in
      appended done (marked_since settled (map entry_mark rest)) e.number
      ∙ ap (λ (b : Bool). done ++ cond b (e.number ∷ marked_since settled (map entry_mark rest)) (marked_since settled (map entry_mark rest))) (sym test)

  pub since_same : (settled : ℕ) (done : List ℕ) (e : Entry B) (rest : List (Entry B)) → settled < e.number
      → done ++ marked_since settled (map entry_mark rest) ≡ done ++ marked_since settled (map entry_mark (e ∷ rest))
  since_same settled done e rest late =
      let test : nat_le e.number settled ≡ false = grind (arith, nat_tests) in
      ap (λ (b : Bool). done ++ cond b (e.number ∷ marked_since settled (map entry_mark rest)) (marked_since settled (map entry_mark rest))) (sym test)

  pub drops_more : (done : List Event) (e : Entry B) (rest : List (Entry B)) → is_boxed (e.item).body ≡ true
      → (done ++ Dropped e.number ∷ []) ++ marked_drops (map entry_mark rest)
      ≡ done ++ marked_drops (map entry_mark (e ∷ rest))
  drops_more done e rest boxed =
      appended done (marked_drops (map entry_mark rest)) (Dropped e.number)
      ∙ ap (λ (b : Bool). done ++ cond b (Dropped e.number ∷ marked_drops (map entry_mark rest)) (marked_drops (map entry_mark rest))) (sym boxed)
      ∙ ap (λ (l : List Event). done ++ l) (sym (drops-cons e.number (is_boxed (e.item).body) (map entry_mark rest)))

  pub drops_same : (done : List Event) (e : Entry B) (rest : List (Entry B)) → is_boxed (e.item).body ≡ false
      → done ++ marked_drops (map entry_mark rest) ≡ done ++ marked_drops (map entry_mark (e ∷ rest))
  drops_same done e rest boxed =
      ap (λ (b : Bool). done ++ cond b (Dropped e.number ∷ marked_drops (map entry_mark rest)) (marked_drops (map entry_mark rest))) (sym boxed)
      ∙ ap (λ (l : List Event). done ++ l) (sym (drops-cons e.number (is_boxed (e.item).body) (map entry_mark rest)))

-- what is at a number, mapped
pub object_at-mapped : {A C : Type 0} (f : A → C) (m : ℕ) (l : List (ℕ × A)) → object_at m (map (λ e. (e.0, f e.1)) l)
    ≡ option_map f (object_at m l)
object_at-mapped f m [] = refl
object_at-mapped {A} {C} f m (e ∷ l) =
    go (nat_eq m e.0) (object_at-mapped f m l)
  where
    go : (b : Bool) → object_at m (map (λ e. (e.0, f e.1)) l) ≡ option_map f (object_at m l)
        → cond b (Some (f e.1)) (object_at m (map (λ e. (e.0, f e.1)) l))
        ≡ option_map f (cond b (Some e.1) (object_at m l))
    go true later = refl
    go false later = later

pub numbers-mapped : {A C : Type 0} (f : A → C) (l : List (ℕ × A)) → numbers (map (λ e. (e.0, f e.1)) l) ≡ numbers l
numbers-mapped f [] = refl
numbers-mapped f (e ∷ l) = ap (λ (ns : List ℕ). e.0 ∷ ns) (numbers-mapped f l)

pub in_order-mapped : {A C : Type 0} (f : A → C) (l : List (ℕ × A)) → IsInOrder l
    → IsInOrder (map (λ e. (e.0, f e.1)) l)
in_order-mapped f l o = rw (numbers-mapped f l) o
