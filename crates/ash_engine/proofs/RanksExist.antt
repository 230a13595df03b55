-- Where no place leads back to itself, places have ranks: how many places can be reached from each.
use Rattle.std.proofs.Common.{◌≡◌, ◌+◌, ◌*◌, ◌<◌, ◌≤◌, ◌⊎◌, ℕ, zero, suc, Bool, true, false, cond, List, [], ◌∷◌, length, map, get_or, refl, sym, ap, ◌∙◌, subst, inl, inr, arith}
use Rattle.std.specs.Prelude.{◌||◌, ◌&&◌}
use Rattle.std.specs.List.{range_with_len}
use Rattle.std.proofs.lemmas.Bool.{cases_lt}
use Rattle.std.proofs.lemmas.List.Elements.{All-from_get_or}
use Rattle.std.proofs.lemmas.List.FromFn.{get_or-map-range_with_len, length-map-range_with_len}
use Rattle.ash_class_cycles.specs.Paths.{IsPath, Reaches, AreRanksAlong}

-- numbers that never fall and stay below a bound stay the same once

stays_from : (g : ℕ → ℕ) → ((k : ℕ) → g k ≤ g (suc k)) → (top : ℕ) → ((k : ℕ) → g k ≤ top) → (fuel k : ℕ) → top ≤ g k + fuel → (j : ℕ) × (g (suc j) ≡ g j)
stays_from g rises top below zero k near = (k, omega (arith, rises k, below (suc k), near))
stays_from g rises top below (suc fuel) k near =
    elim (cases_lt (g k) (g (suc k))) [
      | inl more ↦ stays_from g rises top below fuel (suc k) (omega (arith, more, near))
      | inr same ↦ (k, omega (arith, rises k, same))
    ]

-- how many numbers below another pass a test

bit : Bool → ℕ
bit true = 1
bit false = 0

bit_le : (b c : Bool) → (b ≡ true → c ≡ true) → bit b ≤ bit c
unfolding bit
bit_le true c more = let yes = ap bit (more refl) in omega (arith, yes)
bit_le false c more = omega arith

bit_same : (b c : Bool) → (b ≡ true → c ≡ true) → bit c ≤ bit b → c ≡ true → b ≡ true
unfolding bit
bit_same true c more same on = refl
bit_same false c more same on = let yes = ap bit on in absurd (omega (arith, same, yes))

count : ℕ → (ℕ → Bool) → ℕ
count zero p = 0
count (suc n) p = count n p + bit (p n)

count_le : (n : ℕ) (p q : ℕ → Bool) → ((y : ℕ) → p y ≡ true → q y ≡ true) → count n p ≤ count n q
unfolding count
count_le zero p q more = omega arith
count_le (suc n) p q more = omega (arith, count_le n p q more, bit_le (p n) (q n) (more n))

bit_most : (b : Bool) → bit b ≤ 1
unfolding bit
bit_most true = omega arith
bit_most false = omega arith

count_most : (n : ℕ) (p : ℕ → Bool) → count n p ≤ n
unfolding count
count_most zero p = omega arith
count_most (suc n) p = omega (arith, count_most n p, bit_most (p n))

bit_less : (b c : Bool) → b ≡ false → c ≡ true → bit b < bit c
unfolding bit
bit_less b c off on = let one = ap bit off in let other = ap bit on in omega (arith, one, other)

last_below : (y n : ℕ) → y < suc n → (y ≡ n) ⊎ (y < n)
last_below y n below = elim (cases_lt y n) [ inl lower ↦ inr lower | inr past ↦ inl (omega (arith, past, below)) ]

count_less : (n : ℕ) (p q : ℕ → Bool) (z : ℕ) → ((y : ℕ) → p y ≡ true → q y ≡ true) → z < n → p z ≡ false → q z ≡ true → count n p < count n q
unfolding count
count_less zero p q z more below off on = absurd (omega (arith, below))
count_less (suc n) p q z more below off on =
    elim (last_below z n below) [
      | inl last ↦
          let less = bit_less (p n) (q n) (subst (λ (y : ℕ). p y ≡ false) last off) (subst (λ (y : ℕ). q y ≡ true) last on) in
          omega (arith, count_le n p q more, less)
      | inr lower ↦ omega (arith, count_less n p q z more lower off on, bit_le (p n) (q n) (more n))
    ]

-- tests that as many numbers pass are passed by the same
count_same : (n : ℕ) (p q : ℕ → Bool) (z : ℕ) → ((y : ℕ) → p y ≡ true → q y ≡ true) → count n q ≤ count n p → z < n → q z ≡ true → p z ≡ true
count_same n p q z more same below on = go (p z) refl
  where
    go : (b : Bool) → p z ≡ b → p z ≡ true
    go true is = is
    go false is = absurd (let less = count_less n p q z more below is on in omega (arith, less, same))

any : ℕ → (ℕ → Bool) → Bool
any zero p = false
any (suc n) p = p n || any n p

or_says : (b c : Bool) → (b || c) ≡ true → (b ≡ true) ⊎ (c ≡ true)
or_says true c on = inl refl
or_says false c on = inr on

or_left : (b c : Bool) → b ≡ true → (b || c) ≡ true
or_left b c on = ap (λ (x : Bool). x || c) on

or_right : (b c : Bool) → c ≡ true → (b || c) ≡ true
or_right true c on = refl
or_right false c on = on

both_says : (b c : Bool) → (b && c) ≡ true → (b ≡ true) × (c ≡ true)
both_says true c on = (refl, on)
both_says false c on = absurd (cc)

both_yes : (b c : Bool) → b ≡ true → c ≡ true → (b && c) ≡ true
both_yes b c one other = ap (λ (x : Bool). x && c) one ∙ other

any_says : (n : ℕ) (p : ℕ → Bool) → any n p ≡ true → (z : ℕ) × (z < n) × (p z ≡ true)
unfolding any
any_says zero p on = absurd (cc)
any_says (suc n) p on =
    elim (or_says (p n) (any n p) on) [
      | inl here ↦ (n, omega arith, here)
      | inr later ↦ let found = any_says n p later in (found.0, omega (arith, found.1), found.2)
    ]

any_yes : (n : ℕ) (p : ℕ → Bool) (z : ℕ) → z < n → p z ≡ true → any n p ≡ true
unfolding any
any_yes zero p z below on = absurd (omega (arith, below))
any_yes (suc n) p z below on =
    elim (last_below z n below) [
      | inl last ↦ or_left (p n) (any n p) (subst (λ (y : ℕ). p y ≡ true) last on)
      | inr lower ↦ or_right (p n) (any n p) (any_yes n p z lower on)
    ]

-- sums of what never falls

sum : ℕ → (ℕ → ℕ) → ℕ
sum zero f = 0
sum (suc n) f = sum n f + f n

sum_le : (n : ℕ) (f g : ℕ → ℕ) → ((x : ℕ) → f x ≤ g x) → sum n f ≤ sum n g
unfolding sum
sum_le zero f g more = omega arith
sum_le (suc n) f g more = omega (arith, sum_le n f g more, more n)

sum_most : (n : ℕ) (f : ℕ → ℕ) (top : ℕ) → ((x : ℕ) → f x ≤ top) → sum n f ≤ n * top
unfolding sum
sum_most zero f top below = omega arith
sum_most (suc n) f top below =
    let step : suc n * top ≡ n * top + top = omega arith in
    omega (arith, sum_most n f top below, below n, step)

sum_same : (n : ℕ) (f g : ℕ → ℕ) → ((x : ℕ) → f x ≤ g x) → sum n g ≤ sum n f → (x : ℕ) → x < n → g x ≤ f x
unfolding sum
sum_same zero f g more same x below = absurd (omega (arith, below))
sum_same (suc n) f g more same x below =
    elim (last_below x n below) [
      | inl last ↦ let own : g n ≤ f n = omega (arith, sum_le n f g more, same) in subst (λ (y : ℕ). g y ≤ f y) (sym last) own
      | inr lower ↦ sum_same n f g more (omega (arith, same, more n)) x lower
    ]

module _ (goes : ℕ → ℕ → Bool) (n : ℕ) where
  abbrev Goes : ℕ → ℕ → Type 0
  Goes x y = goes x y ≡ true

  -- one place is reached from another with at most so many in between
  reach : ℕ → ℕ → ℕ → Bool
  reach zero x y = goes x y
  reach (suc k) x y = goes x y || any n (λ z. goes x z && reach k z y)

  reach_path : (k x y : ℕ) → reach k x y ≡ true → Reaches Goes x y
  unfolding reach
  reach_path zero x y on = ([], on)
  reach_path (suc k) x y on =
      elim (or_says (goes x y) (any n (λ z. goes x z && reach k z y)) on) [
        | inl step ↦ ([], step)
        | inr far ↦
            let found = any_says n (λ z. goes x z && reach k z y) far in
            let both = both_says (goes x found.0) (reach k found.0 y) found.2 in
            let rest = reach_path k found.0 y both.1 in
            (found.0 ∷ rest.0, (both.0, rest.1))
      ]

  reach_first : (k x y : ℕ) → goes x y ≡ true → reach k x y ≡ true
  unfolding reach
  reach_first zero x y step = step
  reach_first (suc k) x y step = or_left (goes x y) (any n (λ z. goes x z && reach k z y)) step

  reach_then : (k x z y : ℕ) → z < n → goes x z ≡ true → reach k z y ≡ true → reach (suc k) x y ≡ true
  unfolding reach
  reach_then k x z y below step rest = or_right (goes x y) (any n (λ w. goes x w && reach k w y)) (any_yes n (λ w. goes x w && reach k w y) z below (both_yes (goes x z) (reach k z y) step rest))

  reach_more : (k x y : ℕ) → reach k x y ≡ true → reach (suc k) x y ≡ true
  unfolding reach
  reach_more zero x y on = reach_first 1 x y on
  reach_more (suc k) x y on =
      elim (or_says (goes x y) (any n (λ z. goes x z && reach k z y)) on) [
        | inl step ↦ reach_first (suc (suc k)) x y step
        | inr far ↦
            let found = any_says n (λ z. goes x z && reach k z y) far in
            let both = both_says (goes x found.0) (reach k found.0 y) found.2 in
            reach_then (suc k) x found.0 y found.1 both.0 (reach_more k found.0 y both.1)
      ]

  -- how many places are reached from one, and from all together
  many : ℕ → ℕ → ℕ
  many k x = count n (reach k x)

  all_many : ℕ → ℕ
  all_many k = sum n (many k)

  settled : (j : ℕ) × (all_many (suc j) ≡ all_many j)
  unfolding all_many many
  settled = stays_from all_many
      (λ k. sum_le n (many k) (many (suc k)) (λ x. count_le n (reach k x) (reach (suc k) x) (reach_more k x)))
      (n * n) (λ k. sum_most n (many k) n (λ x. count_most n (reach k x))) (n * n) 0 (omega arith)

  module _ (within : (x y : ℕ) → goes x y ≡ true → (x < n) × (y < n)) (acyclic : (x : ℕ) → Reaches Goes x x → ⊥) where
    not_back : (k x : ℕ) → reach k x x ≡ false
    not_back k x = go (reach k x x) refl
      where
        go : (b : Bool) → reach k x x ≡ b → reach k x x ≡ false
        go true on = absurd (acyclic x (reach_path k x x on))
        go false off = off

    -- what is reached from a place is reached from one that leads there
    onward : (k x y z : ℕ) → ((w : ℕ) → w < n → count n (reach (suc k) w) ≤ count n (reach k w)) → goes x y ≡ true → reach k y z ≡ true → z < n → reach k x z ≡ true
    onward k x y z same step rest below =
        let inside = within x y step in
        count_same n (reach k x) (reach (suc k) x) z (reach_more k x) (same x inside.0) below (reach_then k x y z inside.1 step rest)

    path_end : (x y : ℕ) (between : List ℕ) → IsPath Goes x between y → y < n
    path_end x y [] path = (within x y path).1
    path_end x y (z ∷ between) path = path_end z y between path.1

    pub ranks_exist : (ranks : List ℕ) × AreRanksAlong Goes n ranks
    unfolding all_many many
    ranks_exist =
        let k : ℕ = settled.0 in
        let same : (w : ℕ) → w < n → count n (reach (suc k) w) ≤ count n (reach k w) =
        sum_same n (many k) (many (suc k)) (λ x. count_le n (reach k x) (reach (suc k) x) (reach_more k x)) (omega (arith, settled.1)) in
        let rank : ℕ → ℕ = λ x. count n (reach k x) in
        let ranks : List ℕ = map rank (range_with_len 0 n) in
        let long : length ranks ≡ n = length-map-range_with_len rank 0 n in
        let at : (x : ℕ) → x < n → get_or ranks x 0 ≡ rank x = λ x below. get_or-map-range_with_len rank 0 n x x 0 below (omega arith) in (
          ranks,
          record {
            count = long;
            within = All-from_get_or (λ (r : ℕ). r < n) ranks 0 (λ i lt.
                let below : i < n = omega (arith, lt, long) in
                let less = count_less n (reach k i) (λ y. true) i (λ y on. refl) below (not_back k i) refl in
                omega (arith, at i below, less, count_most n (λ y. true)));
            greater = λ x y step.
                let inside = within x y step in
                let less = count_less n (reach k y) (reach k x) y (λ z on. onward k x y z same step on (let path = reach_path k y z on in path_end y z path.0 path.1)) inside.1 (not_back k y) (reach_first k x y step) in
                omega (arith, at x inside.0, at y inside.1, less);
          },
        )
