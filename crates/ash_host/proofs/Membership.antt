-- Tests of lists of numbers and of entries by number.
use Rattle.std.proofs.Common.{◌≡◌, ℕ, Bool, true, false, cond, List, [], ◌∷◌, ◌⊎◌, inl, inr, refl, subst, ap, nat_eq}
use Rattle.std.specs.Prelude.{None, Some, Contains, ◌&&◌, ◌||◌, filter, is_some}
use Rattle.std.specs.List.{list_any}
use Rattle.std.specs.Option.{option_map_or}
use Rattle.std.proofs.lemmas.Bool.{eqb-true, eq-eqb}
use Rattle.std.proofs.lemmas.Cmp.{nat_eq_equiv}
use Rattle.std.proofs.lemmas.Map.Views.{Contains-from_any, list_any-from_Contains}
use Rattle.ash_host.specs.Objects.{LiveObjects, object_at, numbers, handles, fields_of}
use Rattle.ash_host.specs.Reach.{is_among, refers}

pub or_cases : (a b : Bool) → a || b ≡ true → (a ≡ true) ⊎ (b ≡ true)
or_cases true b h = inl refl
or_cases false b h = inr h

pub or_first : (a b : Bool) → a ≡ true → a || b ≡ true
or_first true b h = refl
or_first false b h = cc

pub or_second : (a b : Bool) → b ≡ true → a || b ≡ true
or_second true b h = refl
or_second false b h = h

pub and_both : (a b : Bool) → a && b ≡ true → (a ≡ true) × (b ≡ true)
and_both true b h = (refl, h)
and_both false b h = cc

pub both_and : (a b : Bool) → a ≡ true → b ≡ true → a && b ≡ true
both_and true b g h = h
both_and false b g h = cc

-- the test of membership, and what it says
pub is_among_yes : (n : ℕ) (xs : List ℕ) → Contains xs n → is_among xs n ≡ true
is_among_yes n xs h = list_any-from_Contains nat_eq_equiv n xs h

pub is_among_says : (n : ℕ) (xs : List ℕ) → is_among xs n ≡ true → Contains xs n
is_among_says n xs h = Contains-from_any eqb-true n xs h

-- what passes one test passes another that is weaker
pub list_any_weaker : (p q : ℕ → Bool) → ((x : ℕ) → p x ≡ true → q x ≡ true) → (xs : List ℕ) → list_any p xs ≡ true → list_any q xs ≡ true
list_any_weaker p q weaker [] h = h
list_any_weaker p q weaker (x ∷ xs) h =
    elim (or_cases (p x) (list_any p xs) h) [
      | inl here ↦ or_first (q x) (list_any q xs) (weaker x here)
      | inr later ↦ or_second (q x) (list_any q xs) (list_any_weaker p q weaker xs later)
    ]

-- a member that passes a test
pub list_any_at : (p : ℕ → Bool) (n : ℕ) → p n ≡ true → (xs : List ℕ) → is_among xs n ≡ true → list_any p xs ≡ true
list_any_at p n passes [] h = h
list_any_at p n passes (x ∷ xs) h =
    elim (or_cases (nat_eq n x) (is_among xs n) h) [
      | inl here ↦ or_first (p x) (list_any p xs) (subst (λ (k : ℕ). p k ≡ true) (eqb-true n x here) passes)
      | inr later ↦ or_second (p x) (list_any p xs) (list_any_at p n passes xs later)
    ]

-- some member passes a test
pub list_any_some : (p : ℕ → Bool) (xs : List ℕ) → list_any p xs ≡ true → (n : ℕ) × (is_among xs n ≡ true) × (p n ≡ true)
list_any_some p [] h = cc
list_any_some p (x ∷ xs) h =
    elim (or_cases (p x) (list_any p xs) h) [
      | inl here ↦ (x, or_first (nat_eq x x) (is_among xs x) (eq-eqb x x refl), here)
      | inr later ↦ let s = list_any_some p xs later in (s.0, or_second (nat_eq s.0 x) (is_among xs s.0) s.1, s.2)
    ]

-- a number is among the keys where something is at it
pub is_among-numbers : {A : Type 0} (n : ℕ) (entries : List (ℕ × A)) → is_among (numbers entries) n ≡ is_some (object_at n entries)
is_among-numbers n [] = refl
is_among-numbers n (e ∷ entries) =
    elim (nat_eq n e.0) as (λ b. b || is_among (numbers entries) n ≡ is_some (cond b (Some e.1) (object_at n entries))) [
      | true ↦ refl
      | false ↦ is_among-numbers n entries
    ]

-- an object that refers to another lives
pub refers_lives : {M : Type 0} (objects : LiveObjects M) (one other : ℕ) → refers objects one other ≡ true → is_some (object_at one objects) ≡ true
refers_lives objects one other h =
    elim (object_at one objects) as (λ o. is_among (option_map_or (λ object. handles (fields_of object)) o []) other ≡ true → is_some o ≡ true) [
      | None ↦ λ none. none
      | Some object ↦ λ _. refl
    ] h

-- the numbers of the entries whose number passes a test
pub numbers-filter : {A : Type 0} (p : ℕ → Bool) (entries : List (ℕ × A)) → numbers (filter (λ e. p e.0) entries) ≡ filter p (numbers entries)
numbers-filter p [] = refl
numbers-filter p (e ∷ entries) =
    elim (p e.0) as (λ b. numbers (cond b (e ∷ filter (λ e. p e.0) entries) (filter (λ e. p e.0) entries)) ≡ cond b (e.0 ∷ filter p (numbers entries)) (filter p (numbers entries))) [
      | true ↦ ap (λ (ns : List ℕ). e.0 ∷ ns) (numbers-filter p entries)
      | false ↦ numbers-filter p entries
    ]
