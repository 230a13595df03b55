-- The size of a number with so many digits.
use Rattle.std.proofs.Common.{◌≡◌, ◌<◌, ◌≤◌, ℕ, ◌+◌, ◌-◌, ◌*◌, true, List, [], ◌∷◌, length, drop, get_or, refl, arith}
use Rattle.std.proofs.Common.{zero, suc, add-one, drop-cons, Some}
use Rattle.std.proofs.lemmas.Grind.{common_steps}
use Rattle.std.proofs.lemmas.Bool.Decides.{nat_tests}
use Rattle.std.specs.List.{list_all}
use Rattle.ash_lines.specs.Lines.{is_digit, is_number, value_after, number_of}

-- so many times ten
abbrev pub tens : ℕ → ℕ
tens zero = 1
tens (suc n) = 10 * tens n

pub tens-rise : (n more : ℕ) → tens n ≤ tens (more + n)
tens-rise n zero = let e : 0 + n ≡ n = omega arith in rw e (omega arith)
tens-rise n (suc more) = let h = tens-rise n more in let e : suc more + n ≡ suc (more + n) = omega arith in rw e (omega arith)

pub tens-most : (n : ℕ) → n ≤ 20 → tens n ≤ 100000000000000000000
tens-most n h = let r = tens-rise n (20 - n) in let e : 20 - n + n ≡ 20 = omega arith in let q : tens n ≤ tens 20 = rw e at r in q

pub digit-at : (word : List ℕ) (i : ℕ) → list_all is_digit word ≡ true → i < length word → (48 ≤ get_or word i 0) × (get_or word i 0 ≤ 57)
digit-at [] i h l = absurd (omega arith)
digit-at (byte ∷ word) zero h l = (grind (arith, nat_tests, h), grind (arith, nat_tests, h))
digit-at (byte ∷ word) (suc i) h l = digit-at word i (grind (arith, h)) (omega arith)

-- the value of what is left, after one more digit
pub value-step : (word : List ℕ) (i number : ℕ) → i < length word → value_after number (drop i word) ≡ value_after (10 * number + (get_or word i 0 - 48)) (drop (i + 1) word)
value-step word i number h = rw (drop-cons word i 0, add-one) refl

pub value-end : (word : List ℕ) (i number : ℕ) → length word ≤ i → value_after number (drop i word) ≡ number
value-end word i number h = let e : drop i word ≡ [] = grind (arith, common_steps) in rw e refl

pub number-parts : (word : List ℕ) → is_number word ≡ true → (length word ≤ 20) × (list_all is_digit word ≡ true)
number-parts word h = (grind (arith, nat_tests, h), grind (arith, nat_tests, h))

-- one more digit
pub below-step : (number digit i : ℕ) → number < tens i → digit ≤ 57 → i < 20 → (10 * number + (digit - 48) < tens (i + 1)) × (10 * number + (digit - 48) < 100000000000000000000)
below-step number digit i h d l =
    let e : i + 1 ≡ suc i = omega arith in
    let m = tens-most (i + 1) (omega arith) in
    let q : 10 * number + (digit - 48) < tens (i + 1) = rw e (omega arith) in
    (q, omega arith)

pub some_number : (word : List ℕ) (number : ℕ) → is_number word ≡ true → number ≡ value_after 0 word → Some number ≡ number_of word
unfolding number_of
some_number word number e v = rw (e, v) refl
