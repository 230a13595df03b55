-- These definitions say what the classes of bytes are that tokens are made of.
use Rattle.std.specs.Prelude.{◌||◌, ◌&&◌, ◌+◌, ◌-◌, ◌*◌, ℕ, Bool, false, IsTrue, List, [], ◌∷◌, fold, nat_eq, nat_le}
use Rattle.std.specs.Prelude.{if◌then◌else◌}

-- A blank is a space, a tab, a carriage return or a line feed.
abbrev pub is_blank : ℕ → Bool
is_blank b = nat_eq b 32 || nat_eq b 9 || nat_eq b 13 || nat_eq b 10

-- A line feed ends a line.
abbrev pub is_line_feed : ℕ → Bool
is_line_feed b = nat_eq b 10

-- A digit is `0` to `9`.
abbrev pub is_digit : ℕ → Bool
is_digit b = nat_le 48 b && nat_le b 57

-- A hexadecimal digit is `0` to `9`, `a` to `f` or `A` to `F`.
abbrev pub is_hex_digit : ℕ → Bool
is_hex_digit b = is_digit b || (nat_le 97 b && nat_le b 102) || (nat_le 65 b && nat_le b 70)

-- A letter is `A` to `Z`, `a` to `z` or `_`.
abbrev pub is_letter : ℕ → Bool
is_letter b = (nat_le 65 b && nat_le b 90) || (nat_le 97 b && nat_le b 122) || nat_eq b 95

-- A name goes on with letters, digits and `_`.
abbrev pub is_word : ℕ → Bool
is_word b = is_letter b || is_digit b

-- The text begins with a letter, a digit or `_`.
abbrev pub begins_with_word : List ℕ → Bool
begins_with_word [] = false
begins_with_word (b ∷ bs) = is_word b

-- The text begins with a hexadecimal digit.
abbrev pub begins_with_hex_digit : List ℕ → Bool
begins_with_hex_digit [] = false
begins_with_hex_digit (b ∷ bs) = is_hex_digit b

-- Each byte passes the test.
abbrev pub Each : (ℕ → Bool) → List ℕ → Type 0
Each test [] = Unit {0}
Each test (b ∷ bs) = IsTrue (test b) × Each test bs

-- `digit_value b` is what a digit counts: `a` and `A` are ten.
abbrev pub digit_value : ℕ → ℕ
digit_value b =
    if is_digit b then b - 48
    else (if nat_le 97 b && nat_le b 102 then b - 87
    else (if nat_le 65 b && nat_le b 70 then b - 55
    else 0))

-- `value_in base digits` is the number that the digits are in the base.
abbrev pub value_in : ℕ → List ℕ → ℕ
value_in base digits = fold (λ n digit. n * base + digit_value digit) 0 digits
