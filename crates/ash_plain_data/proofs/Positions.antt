-- The first element that passes a test, found from the beginning.
use Rattle.std.proofs.Common.{◌≡◌, ◌<◌, ◌≤◌, ℕ, suc, Bool, List, Some, None, ap, map, arith, cond, ◌-◌, ◌+◌}
use Rattle.std.specs.List.{position, position_from, range_with_len}
use Rattle.std.proofs.lemmas.Iterator.Adapters.{position_from-zero}

pub position_is : {A : Type 0} (p : A → Bool) (xs : List A) → position p xs ≡ position_from p 0 xs
position_is p xs = position_from-zero p xs

pub ranged_more : (f : ℕ → ℕ) (p : ℕ → Bool) (n i : ℕ) → i < n → position_from p i (map f (range_with_len i (n - i))) ≡ cond (p (f i)) (Some i) (position_from p (i + 1) (map f (range_with_len (i + 1) (n - (i + 1)))))
ranged_more f p n i low =
    let k : n - i ≡ suc (n - (i + 1)) = omega arith in
    ap (λ (m : ℕ). position_from p i (map f (range_with_len i m))) k

pub ranged_end : (f : ℕ → ℕ) (p : ℕ → Bool) (n i : ℕ) → n ≤ i → position_from p i (map f (range_with_len i (n - i))) ≡ None
ranged_end f p n i over =
    let k : n - i ≡ 0 = omega arith in
    ap (λ (m : ℕ). position_from p i (map f (range_with_len i m))) k
