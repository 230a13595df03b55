-- What is stored of a source.
use Rattle.std.proofs.Common.{◌≡◌, ◌<◌, ◌≤◌, ℕ, List, [], ◌∷◌, ◌++◌, length, take, refl, sym, ap, ◌∙◌, arith, zero, suc}
use Rattle.std.proofs.Common.{nat_lt, Bool, true, false}
use borrow.Author.Tests.{ltb-true, ltb-false}
use Rattle.ash_lines.specs.Reading.{max_prefix_bytes, source_prefix}

-- one more byte, where there is room for it

take-push : (n : ℕ) (xs : List ℕ) (x : ℕ) → length (take n xs) < n → take n (xs ++ x ∷ []) ≡ take n xs ++ x ∷ []
take-push zero xs x h = absurd (omega arith)
take-push (suc n) [] x h = take-one n x
  where
    take-one : (n x : ℕ) → take (suc n) (x ∷ []) ≡ x ∷ []
    take-one zero x = refl
    take-one (suc n) x = refl
take-push (suc n) (y ∷ xs) x h = ap (λ (ys : List ℕ). y ∷ ys) (take-push n xs x (omega arith))

take-full : (n : ℕ) (xs : List ℕ) (x : ℕ) → n ≤ length (take n xs) → take n (xs ++ x ∷ []) ≡ take n xs
take-full zero xs x h = refl
take-full (suc n) [] x h = absurd (omega arith)
take-full (suc n) (y ∷ xs) x h = ap (λ (ys : List ℕ). y ∷ ys) (take-full n xs x (omega arith))

pub prefix-push : (source : List ℕ) (byte : ℕ) → length (source_prefix source) < max_prefix_bytes → source_prefix (source ++ byte ∷ []) ≡ source_prefix source ++ byte ∷ []
unfolding source_prefix
prefix-push source byte h = take-push max_prefix_bytes source byte h

pub prefix-full : (source : List ℕ) (byte : ℕ) → max_prefix_bytes ≤ length (source_prefix source) → source_prefix (source ++ byte ∷ []) ≡ source_prefix source
unfolding source_prefix
prefix-full source byte h = take-full max_prefix_bytes source byte h

take-nil : (n : ℕ) → take {A = ℕ} n [] ≡ []
take-nil zero = refl
take-nil (suc n) = refl

pub prefix-nil : (bytes : List ℕ) → bytes ≡ [] → bytes ≡ source_prefix []
unfolding source_prefix
prefix-nil bytes e = e ∙ sym (take-nil max_prefix_bytes)

-- one more byte, stored or not
pub prefix-more : (source old new : List ℕ) (byte : ℕ) → (length old < max_prefix_bytes → new ≡ old ++ byte ∷ []) → (max_prefix_bytes ≤ length old → new ≡ old) → old ≡ source_prefix source → new ≡ source_prefix (source ++ byte ∷ [])
prefix-more source old new byte f g e = more (nat_lt (length old) max_prefix_bytes) refl
  where
    more : (t : Bool) → nat_lt (length old) max_prefix_bytes ≡ t → new ≡ source_prefix (source ++ byte ∷ [])
    more true h = f (ltb-true _ _ h) ∙ (ap (λ (x : List ℕ). x ++ byte ∷ []) e ∙ sym (prefix-push source byte (let q : length old < max_prefix_bytes = ltb-true _ _ h in rw e at q)))
    more false h = let q : max_prefix_bytes ≤ length old = ltb-false _ _ h in g q ∙ (e ∙ sym (prefix-full source byte (rw e at q)))
