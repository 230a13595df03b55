-- Lists of which something holds of each.
use Rattle.std.proofs.Common.{◌≡◌, ◌≤◌, ℕ, true, List, [], ◌∷◌, map, length, ltb, Less, refl, sym, ap, ◌∙◌, subst, arith}
use Rattle.std.specs.Prelude.{Option, Some, IsSome}
use Rattle.std.specs.List.{AllByRecursion, zip}
use Rattle.std.specs.List.Sorted.{IsStrictlySortedBy}
use Rattle.std.specs.Ordering.{nat_cmp}
use Rattle.std.proofs.lemmas.Bool.Decides.{nat_tests}
use Rattle.std.proofs.lemmas.Map.Keys.{sorted_from_strictly_increasing}
use Rattle.ash_host.specs.Objects.{object_at, numbers, IsInOrder}
use Rattle.ash_host.proofs.Membership.{both_and}
use Rattle.ash_image.specs.Image.{do_rise}
use Rattle.ash_host.proofs.Order.{object_here, object_later, none_after, in_order_after}

pub all_more : {A : Type 0} (P Q : A → Type 0) → ((x : A) → P x → Q x) → (xs : List A) → AllByRecursion P xs → AllByRecursion Q xs
all_more P Q more [] h = tt
all_more P Q more (x ∷ xs) h = (more x h.0, all_more P Q more xs h.1)

pub all_map : {A B : Type 0} (f : A → B) (Q : B → Type 0) (xs : List A) → AllByRecursion (λ (x : A). Q (f x)) xs → AllByRecursion Q (map f xs)
all_map f Q [] h = tt
all_map f Q (x ∷ xs) h = (h.0, all_map f Q xs h.1)

pub all_unmap : {A B : Type 0} (f : A → B) (Q : B → Type 0) (xs : List A) → AllByRecursion Q (map f xs) → AllByRecursion (λ (x : A). Q (f x)) xs
all_unmap f Q [] h = tt
all_unmap f Q (x ∷ xs) h = (h.0, all_unmap f Q xs h.1)

pub map_twice : {A B C : Type 0} (g : B → C) (f : A → B) (xs : List A) → map g (map f xs) ≡ map (λ (x : A). g (f x)) xs
map_twice g f [] = refl
map_twice {C = C} g f (x ∷ xs) = ap (λ (ys : List C). g (f x) ∷ ys) (map_twice g f xs)

-- a function that gives back each item gives back the list
pub map_same : {A : Type 0} (f : A → A) (xs : List A) → AllByRecursion (λ (x : A). f x ≡ x) xs → map f xs ≡ xs
map_same f [] h = refl
map_same {A} f (x ∷ xs) h = ap (λ (y : A). y ∷ map f xs) h.0 ∙ ap (λ (ys : List A). x ∷ ys) (map_same f xs h.1)

-- what is listed in pairs

pub zip_firsts : {A B : Type 0} (xs : List A) (ys : List B) → length ys ≡ length xs → map (λ (p : A × B). p.0) (zip xs ys) ≡ xs
zip_firsts [] ys e = refl
zip_firsts (x ∷ xs) [] e = absurd (omega (arith, e))
zip_firsts {A} (x ∷ xs) (y ∷ ys) e = ap (λ (all : List A). x ∷ all) (zip_firsts xs ys (omega (arith, e)))

pub zip_seconds : {A B : Type 0} (xs : List A) (ys : List B) → length ys ≡ length xs → map (λ (p : A × B). p.1) (zip xs ys) ≡ ys
zip_seconds [] [] e = refl
zip_seconds [] (y ∷ ys) e = absurd (omega (arith, e))
zip_seconds (x ∷ xs) [] e = absurd (omega (arith, e))
zip_seconds {B = B} (x ∷ xs) (y ∷ ys) e = ap (λ (all : List B). y ∷ all) (zip_seconds xs ys (omega (arith, e)))

-- what holds of each first and of each second holds of each pair
pub zip_all : {A B : Type 0} (P : A → Type 0) (Q : B → Type 0) (R : A × B → Type 0) → ((x : A) (y : B) → P x → Q y → R (x, y)) → (xs : List A) (ys : List B) → AllByRecursion P xs → AllByRecursion Q ys → AllByRecursion R (zip xs ys)
zip_all P Q R both [] ys ps qs = tt
zip_all P Q R both (x ∷ xs) [] ps qs = tt
zip_all P Q R both (x ∷ xs) (y ∷ ys) ps qs = (both x y ps.0 qs.0, zip_all P Q R both xs ys ps.1 qs.1)

pub zip_short : {A B : Type 0} (xs : List A) (ys : List B) → length (zip xs ys) ≤ length ys
zip_short [] ys = omega arith
zip_short (x ∷ xs) [] = omega arith
zip_short (x ∷ xs) (y ∷ ys) = omega (arith, zip_short xs ys)

-- in order, each entry is the one that is found at its number
pub each_at : {A : Type 0} (es : List (ℕ × A)) → IsInOrder es → AllByRecursion (λ (e : ℕ × A). object_at e.0 es ≡ Some e.1) es
each_at [] order = tt
each_at {A} (e ∷ es) order = (
  object_here e es,
  all_more (λ (x : ℕ × A). object_at x.0 es ≡ Some x.1) (λ (x : ℕ × A). object_at x.0 (e ∷ es) ≡ Some x.1)
      (λ x at. object_later x.0 e es (none_after e es x.0 order (there (object_at x.0 es) x.1 at)) ∙ at)
      es (each_at es (in_order_after e es order)),
)
  where
    there : (o : Option A) (a : A) → o ≡ Some a → IsSome o
    there o a is = subst (λ (p : Option A). IsSome p) (sym is) refl

-- numbers in order rise

below : (m n : ℕ) → nat_cmp m n ≡ Less → ltb m n ≡ true
below m n e = grind (arith, nat_tests)

sorted_rise : (ns : List ℕ) → IsStrictlySortedBy nat_cmp ns → do_rise ns ≡ true
unfolding IsStrictlySortedBy
sorted_rise [] h = refl
sorted_rise (n ∷ []) h = refl
sorted_rise (n ∷ m ∷ ns) h = both_and (ltb n m) (do_rise (m ∷ ns)) (below n m (h.0).0) (sorted_rise (m ∷ ns) h.1)

pub order_rises : {A : Type 0} (es : List (ℕ × A)) → IsInOrder es → do_rise (numbers es) ≡ true
order_rises es order = sorted_rise (numbers es) (sorted_from_strictly_increasing (numbers es) order)
