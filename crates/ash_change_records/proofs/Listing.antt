-- What is listed of some numbers is what is at those numbers.
use Rattle.std.proofs.Common.{◌≡◌, ◌<◌, ◌+◌, ℕ, zero, suc, Bool, true, false, cond, List, [], ◌∷◌, length, map, nat_eq, slice_get, refl, sym, ap, ◌∙◌, subst, arith}
use Rattle.std.specs.Prelude.{Option, Some, None, Contains, ◌||◌}
use Rattle.std.specs.List.{AllByRecursion, cons_option}
use Rattle.std.specs.Option.{option_map, unwrap_or}
use Rattle.std.proofs.lemmas.Bool.{eqb-true}
use Rattle.std.proofs.lemmas.Option.{same_Some, slice_get_within}
use Rattle.ash_host.specs.Objects.{object_at}
use Rattle.ash_host.specs.Reach.{is_among}
use Rattle.ash_host.proofs.Membership.{is_among_yes}
use Rattle.ash_image.specs.Leading.{values_from, values_after, AreThere}
use Rattle.ash_change_records.specs.ListedChanges.{listed}

module _ {A : Type 0} (at : ℕ → Option A) where
  abbrev pub paired : ℕ → Option A → Option (ℕ × A)
  paired n o = option_map (λ (a : A). (n, a)) o

  either_way : (b : Bool) (o : Option A) → o ≡ None → cond b o None ≡ None
  either_way true o none = none
  either_way false o none = refl

  -- what is listed at a number is what is there, if the number is among them
  pub at_listed : (n : ℕ) (numbers : List ℕ) → object_at n (listed at numbers) ≡ cond (is_among numbers n) (at n) None
  at_listed n [] = refl
  at_listed n (m ∷ ms) = by (at_listed n ms) (at m) refl (nat_eq n m) refl
    where
      by : object_at n (listed at ms) ≡ cond (is_among ms n) (at n) None
          → (o : Option A) → at m ≡ o → (b : Bool) → nat_eq n m ≡ b
          → object_at n (cons_option (paired m o) (listed at ms)) ≡ cond (b || is_among ms n) (at n) None
      by rest (Some a) there true is =
          ap (λ (b : Bool). cond b (Some a) (object_at n (listed at ms))) is ∙ sym there ∙ ap at (sym (eqb-true n m is))
      by rest (Some a) there false is = ap (λ (b : Bool). cond b (Some a) (object_at n (listed at ms))) is ∙ rest
      by rest None none true is =
          let here : at n ≡ None = ap at (eqb-true n m is) ∙ none in
          rest ∙ either_way (is_among ms n) (at n) here ∙ sym here
      by rest None none false is = rest

  -- what holds where something is holds of each number that is listed
  pub each_listed : (P : ℕ → A → Type 0) → ((n : ℕ) (a : A) → at n ≡ Some a → P n a) → (numbers : List ℕ)
      → AllByRecursion (λ (e : ℕ × A). P e.0 e.1) (listed at numbers)
  each_listed P holds [] = tt
  each_listed P holds (m ∷ ms) = by (each_listed P holds ms) (at m) refl
    where
      by : AllByRecursion (λ (e : ℕ × A). P e.0 e.1) (listed at ms) → (o : Option A) → at m ≡ o → AllByRecursion (λ (e : ℕ × A). P e.0 e.1) (cons_option (paired m o) (listed at ms))
      by rest (Some a) there = (holds m a there, rest)
      by rest None none = rest

-- values that are listed at places

module _ {A : Type 0} (entries : List (ℕ × A)) where
  values_are : (k : ℕ) (before after : List A) → length after ≡ length before
      → ((i : ℕ) (v w : A) → slice_get before i ≡ Some v → slice_get after i ≡ Some w → unwrap_or (object_at (k + i) entries) v ≡ w)
      → values_from k entries before ≡ after
  unfolding values_from
  values_are k [] [] many each = refl
  values_are k [] (w ∷ ws) many each = absurd (omega (arith, many))
  values_are k (v ∷ vs) [] many each = absurd (omega (arith, many))
  values_are k (v ∷ vs) (w ∷ ws) many each =
      let at : k + 0 ≡ k = omega arith in
      let first : unwrap_or (object_at k entries) v ≡ w = subst (λ (n : ℕ). unwrap_or (object_at n entries) v ≡ w) at (each 0 v w refl refl) in
      let rest : values_from (suc k) entries vs ≡ ws = values_are (suc k) vs ws (omega (arith, many)) (λ i x y p q. next i x y (each (suc i) x y p q)) in
      ap (λ (x : A). x ∷ values_from (suc k) entries vs) first ∙ ap (λ (xs : List A). w ∷ xs) rest
    where
      next : (i : ℕ) (x y : A) → unwrap_or (object_at (k + suc i) entries) x ≡ y → unwrap_or (object_at (suc k + i) entries) x ≡ y
      next i x y h = let moved : k + suc i ≡ suc k + i = omega arith in subst (λ (n : ℕ). unwrap_or (object_at n entries) x ≡ y) moved h

module _ {A : Type 0} (places : List ℕ) (before after : List A) where
  -- values that are the same at every other place are those before, with what is listed
  pub listed_values : length after ≡ length before
      → ((p : ℕ) → (Contains places p → ⊥) → slice_get after p ≡ slice_get before p)
      → after ≡ values_after (listed (slice_get after) places) before
  listed_values many same = sym (values_are (listed (slice_get after) places) 0 before after many (λ i v w p q. from_zero i v w (one i v w p q (is_among places i) refl)))
    where
      from_zero : (i : ℕ) (v w : A) → unwrap_or (object_at i (listed (slice_get after) places)) v ≡ w → unwrap_or (object_at (0 + i) (listed (slice_get after) places)) v ≡ w
      from_zero i v w h = let at : i ≡ 0 + i = omega arith in subst (λ (n : ℕ). unwrap_or (object_at n (listed (slice_get after) places)) v ≡ w) at h

      one : (i : ℕ) (v w : A) → slice_get before i ≡ Some v → slice_get after i ≡ Some w → (b : Bool) → is_among places i ≡ b
          → unwrap_or (object_at i (listed (slice_get after) places)) v ≡ w
      one i v w p q b is =
          ap (λ (o : Option A). unwrap_or o v) (at_listed (slice_get after) i places ∙ ap (λ (c : Bool). cond c (slice_get after i) None) is) ∙ go b is
        where
          go : (c : Bool) → is_among places i ≡ c → unwrap_or (cond c (slice_get after i) None) v ≡ w
          go true is = ap (λ (o : Option A). unwrap_or o v) q
          go false is =
              same_Some v w (sym p ∙ sym (same i (λ among. let yes = is_among_yes i places among in absurd (cc))) ∙ q)

  -- and each place that is listed is there
  pub listed_there : length after ≡ length before → AreThere (listed (slice_get after) places) (length before)
  listed_there many =
      each_listed (slice_get after) (λ n a. n < length before)
      (λ n a there. let within : n < length after = slice_get_within after n a there in omega (arith, within, many)) places
