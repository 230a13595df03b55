-- The value of digits never falls as more of them are read.
use Rattle.std.proofs.Common.{ℕ, zero, suc, ◌+◌, ◌*◌, ◌<◌, ◌≤◌, List, [], ◌∷◌, length, take, get_or, fold, arith}
use Rattle.std.proofs.Math.Nat.{mul-le-mul_left}
use Rattle.std.proofs.lemmas.List.Sums.{fold_more}
use Rattle.ash_lex.specs.Bytes.{digit_value, value_in}

-- one digit more
abbrev shifted : ℕ → ℕ → ℕ → ℕ
shifted base n digit = n * base + digit_value digit

value_grows : (base n : ℕ) (digits : List ℕ) → 0 < base → n ≤ fold (shifted base) n digits
value_grows base n [] h = omega arith
value_grows base n (d ∷ ds) h =
    let once : n * 1 ≤ n * base = mul-le-mul_left n h in
    omega (arith, once, value_grows base (shifted base n d) ds h)

prefix_below : (base a n : ℕ) (digits : List ℕ) → 0 < base
    → fold (shifted base) a (take n digits) ≤ fold (shifted base) a digits
prefix_below base a zero digits h = value_grows base a digits h
prefix_below base a (suc n) [] h = omega arith
prefix_below base a (suc n) (d ∷ ds) h = prefix_below base (shifted base a d) n ds h

-- the value of the digits so far and one more is at most that of all
pub value_in-more : (base i : ℕ) (digits : List ℕ) → 0 < base → i < length digits
    → value_in base (take i digits) * base + digit_value (get_or digits i 0) ≤ value_in base digits
value_in-more base i digits h within =
    omega (arith, fold_more (shifted base) 0 digits i 0 within, prefix_below base 0 (i + 1) digits h)
