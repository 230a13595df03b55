-- A path that comes to a place twice can be cut short. So a place that reaches itself does so with fewer places in
-- between than there are.
use Rattle.std.proofs.Common.{◌≡◌, ℕ, zero, suc, ◌<◌, ◌≤◌, ◌⊎◌, ◌||◌, Bool, true, false, List, [], ◌∷◌, length, eqb}
use Rattle.std.proofs.Common.{inl, inr, refl, sym, subst, arith}
use Rattle.std.proofs.lemmas.Bool.{eqb-true}
use Rattle.std.specs.List.{AllByRecursion, IsDistinct, list_any}
use Rattle.std.proofs.lemmas.Map.Keys.{IsDistinct-cons}
use Rattle.std.proofs.lemmas.Map.Steps.{length-le_from_distinct_below}
use Rattle.ash_class_cycles.specs.Paths.{IsPath, Reaches}

-- a path with fewer places in between
abbrev pub HasShorter : (ℕ → ℕ → Type 0) → (from to count : ℕ) → Type 0
HasShorter R from to count = (between : List ℕ) × IsPath R from between to × (length between < count)

either : (b : Bool) → (b ≡ true) ⊎ (b ≡ false)
either true = inl refl
either false = inr refl

or_cases : (a b : Bool) → (a || b) ≡ true → (a ≡ true) ⊎ (b ≡ true)
or_cases true b h = inl refl
or_cases false b h = inr h

none_distinct : IsDistinct eqb []
unfolding IsDistinct
none_distinct = tt

-- a path either comes through a place, and goes on from there by fewer, or doesn't come through it
seek : (R : ℕ → ℕ → Type 0) (from to place : ℕ) (between : List ℕ) → IsPath R from between to
    → HasShorter R place to (length between) ⊎ AllByRecursion (λ y. eqb place y ≡ false) between
seek R from to place [] path = inr tt
seek R from to place (next ∷ between) path = elim (either (eqb place next)) [
  | inl here ↦
      inl (between, subst (λ (p : ℕ). IsPath R p between to) (sym (eqb-true place next here)) path.1, omega arith)
  | inr other ↦ elim (seek R next to place between path.1) [
    | inl later ↦ inl (later.0, later.1, omega (arith, later.2))
    | inr apart ↦ inr (other, apart)
  ]
]

-- a path either comes to each place in between once, or there is a shorter one
cut : (R : ℕ → ℕ → Type 0) (from to : ℕ) (between : List ℕ) → IsPath R from between to
    → HasShorter R from to (length between) ⊎ IsDistinct eqb between
cut R from to [] path = inr none_distinct
cut R from to (next ∷ between) path = elim (cut R next to between path.1) [
  | inl rest ↦ inl (next ∷ rest.0, (path.0, rest.1), omega (arith, rest.2))
  | inr once ↦ elim (seek R next to next between path.1) [
    | inl rest ↦ inl (next ∷ rest.0, (path.0, rest.1), omega (arith, rest.2))
    | inr apart ↦ inr (IsDistinct-cons eqb next between apart once)
  ]
]

cut_cycle : (R : ℕ → ℕ → Type 0) (first : ℕ) (others : List ℕ) → IsPath R first others first
    → HasShorter R first first (length others) ⊎ IsDistinct eqb (first ∷ others)
cut_cycle R first others path = elim (cut R first first others path) [
  | inl shorter ↦ inl shorter
  | inr once ↦ elim (seek R first first first others path) [
    | inl shorter ↦ inl shorter
    | inr apart ↦ inr (IsDistinct-cons eqb first others apart once)
  ]
]

-- each place on a path is one that is gone to
pub end_within : (R : ℕ → ℕ → Type 0) (places : ℕ) → ((from to : ℕ) → R from to → to < places)
    → (from to : ℕ) (between : List ℕ) → IsPath R from between to → to < places
end_within R places within from to [] path = within from to path
end_within R places within from to (next ∷ between) path = end_within R places within next to between path.1

all_within : (R : ℕ → ℕ → Type 0) (places : ℕ) → ((from to : ℕ) → R from to → to < places)
    → (from to : ℕ) (between : List ℕ) → IsPath R from between to → (place : ℕ) → list_any (eqb place) between ≡ true
    → place < places
all_within R places within from to [] path place h = cc
all_within R places within from to (next ∷ between) path place h =
    elim (or_cases (eqb place next) (list_any (eqb place) between) h) [
      | inl here ↦ subst (λ (p : ℕ). p < places) (sym (eqb-true place next here)) (within from next path.0)
      | inr later ↦ all_within R places within next to between path.1 place later
    ]

cycle_within : (R : ℕ → ℕ → Type 0) (places : ℕ) → ((from to : ℕ) → R from to → to < places)
    → (first : ℕ) (others : List ℕ) → IsPath R first others first → (place : ℕ)
    → list_any (eqb place) (first ∷ others) ≡ true → place < places
cycle_within R places within first others path place h =
    elim (or_cases (eqb place first) (list_any (eqb place) others) h) [
      | inl here ↦
          subst (λ (p : ℕ). p < places) (sym (eqb-true place first here))
          (end_within R places within first first others path)
      | inr later ↦ all_within R places within first first others path place later
    ]

few : (R : ℕ → ℕ → Type 0) (places : ℕ) → ((from to : ℕ) → R from to → to < places) → (first : ℕ) (others : List ℕ)
    → IsPath R first others first → IsDistinct eqb (first ∷ others) → HasShorter R first first places
few R places within first others path once =
    let all : length (first ∷ others) ≤ places =
    length-le_from_distinct_below (first ∷ others) places once (cycle_within R places within first others path) in
    (others, path, omega (arith, all))

short_by : (R : ℕ → ℕ → Type 0) (places : ℕ) → ((from to : ℕ) → R from to → to < places)
    → (first most : ℕ) (others : List ℕ) → length others ≤ most → IsPath R first others first
    → HasShorter R first first places
short_by R places within first zero others small path = elim (cut_cycle R first others path) [
  | inl shorter ↦ absurd (omega (arith, small, shorter.2))
  | inr once ↦ few R places within first others path once
]
short_by R places within first (suc most) others small path = elim (cut_cycle R first others path) [
  | inl shorter ↦ short_by R places within first most shorter.0 (omega (arith, small, shorter.2)) shorter.1
  | inr once ↦ few R places within first others path once
]

-- a path back with fewer places in between than there are
pub short_cycle : (R : ℕ → ℕ → Type 0) (places : ℕ) → ((from to : ℕ) → R from to → to < places) → (first : ℕ)
    → Reaches R first first → HasShorter R first first places
short_cycle R places within first cycle = short_by R places within first (length cycle.0) cycle.0 (omega arith) cycle.1
