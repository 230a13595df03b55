-- A search for one of a list that passes, from the first to the last.
use Rattle.std.proofs.Common.{◌≡◌, ℕ, zero, suc, ◌+◌, ◌<◌, ◌≤◌, ◌⊎◌, List, [], ◌∷◌, length, drop, get_or, inl, inr, sym}
use Rattle.std.proofs.Common.{subst, arith, add-one, drop-cons, drop_of_length-le}

-- what has one that passes: as lists have it that begin with that one, or have it after
pub record IsAnyOf {X : Type 0} (Has : List X → Type 0) (Passes : X → Type 0) : Type 0 where
  pub first : (x : X) (xs : List X) → Passes x → Has (x ∷ xs)
  pub later : (x : X) (xs : List X) → Has xs → Has (x ∷ xs)
  pub none : Has [] → ⊥
  pub split : (x : X) (xs : List X) → Has (x ∷ xs) → Passes x ⊎ Has xs

module _ {X : Type 0} (Has : List X → Type 0) (Passes : X → Type 0) (any : IsAnyOf Has Passes) where
  -- one that passes was found
  pub found : (xs : List X) (i : ℕ) (x : X) → i < length xs → x ≡ get_or xs i x → Passes x → Has xs
  found [] i x within is passes = absurd (omega arith)
  found (y ∷ xs) zero x within is passes = any.first y xs (subst Passes is passes)
  found (y ∷ xs) (suc i) x within is passes = any.later y xs (found xs i x (omega (arith, within)) is passes)

  -- one that doesn't was passed by
  pub passed_by : (xs : List X) (i : ℕ) (x : X) → i < length xs → x ≡ get_or xs i x → (Passes x → ⊥)
      → (Has xs → Has (drop i xs)) → Has xs → Has (drop (i + 1) xs)
  passed_by xs i x within is not_it left has =
      let begins : drop i xs ≡ get_or xs i x ∷ drop (suc i) xs = drop-cons xs i x within in
      let next : Has (drop (suc i) xs) =
      elim (any.split (get_or xs i x) (drop (suc i) xs) (subst Has begins (left has))) [
        | inl it ↦ absurd (not_it (subst Passes (sym is) it))
        | inr after ↦ after
      ] in
      subst (λ (n : ℕ). Has (drop n xs)) (sym (add-one i)) next

  -- none was found
  pub missed : (xs : List X) (i : ℕ) → length xs ≤ i → (Has xs → Has (drop i xs)) → Has xs → ⊥
  missed xs i past left has = any.none (subst Has (drop_of_length-le xs past) (left has))
