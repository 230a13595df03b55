-- What holds of each of a list, as a loop comes to know it.
use Rattle.std.proofs.Common.{◌≡◌, ℕ, ◌+◌, ◌<◌, ◌≤◌, List, ◌∷◌, length, map, drop, get_or, refl, sym, ◌∙◌, subst, add-one}
use Rattle.std.proofs.lemmas.List.{drop_all}
use Rattle.std.proofs.Math.Seq.{drop-cons}
use Rattle.std.specs.List.{AllByRecursion}

split : {A : Type 0} (xs : List A) (i : ℕ) (x : A) → i < length xs → x ≡ get_or xs i x
    → drop i xs ≡ x ∷ drop (i + 1) xs
split xs i x within is = drop-cons xs i x within ∙ rw (sym is) (rw add-one refl)

-- it holds of one more
pub holds_more : {A B : Type 0} (P : B → Type 0) (see : A → B) (xs : List A) (i : ℕ) (x : A) (goal : Type 0)
    → i < length xs → x ≡ get_or xs i x → P (see x) → (AllByRecursion P (map see (drop i xs)) → goal)
    → AllByRecursion P (map see (drop (i + 1) xs)) → goal
holds_more {A} {B} P see xs i x goal within is holds so_far rest =
    so_far (subst (λ (ys : List A). AllByRecursion P (map see ys)) (sym (split xs i x within is)) (holds, rest))

-- it holds of all
pub holds_all : {A B : Type 0} (P : B → Type 0) (see : A → B) (xs : List A) (i : ℕ) (goal : Type 0) → length xs ≤ i
    → (AllByRecursion P (map see (drop i xs)) → goal) → goal
holds_all {A} {B} P see xs i goal past so_far =
    so_far (subst (λ (ys : List A). AllByRecursion P (map see ys)) (sym (drop_all i xs past)) tt)

-- the same of what is not seen in another way
pub each_more : {A : Type 0} (P : A → Type 0) (xs : List A) (i : ℕ) (d : A) (goal : Type 0) → i < length xs
    → P (get_or xs i d) → (AllByRecursion P (drop i xs) → goal) → AllByRecursion P (drop (i + 1) xs) → goal
each_more {A} P xs i d goal within holds so_far rest =
    let first : drop i xs ≡ get_or xs i d ∷ drop (i + 1) xs = drop-cons xs i d within ∙ rw add-one refl in
    so_far (subst (λ (ys : List A). AllByRecursion P ys) (sym first) (holds, rest))

pub each_all : {A : Type 0} (P : A → Type 0) (xs : List A) (i : ℕ) (goal : Type 0) → length xs ≤ i
    → (AllByRecursion P (drop i xs) → goal) → goal
each_all {A} P xs i goal past so_far =
    so_far (subst (λ (ys : List A). AllByRecursion P ys) (sym (drop_all i xs past)) tt)
