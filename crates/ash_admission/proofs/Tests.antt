-- Tests of numbers and lists, and what they say.
use Rattle.std.proofs.Common.{◌≡◌, ◌<◌, ◌≤◌, ℕ, zero, suc, true, List, [], ◌∷◌, length, refl, ap, nat_lt, nat_le, arith}
use Rattle.std.specs.Prelude.{Some, Contains, slice_get, is_some}
use Rattle.std.proofs.lemmas.Bool.Decides.{nat_tests}
use Rattle.ash_host.proofs.RecordLaws.{bytes_decide}
use Rattle.std.specs.Str.{bytes_eq}

pub lt_says : (m n : ℕ) → nat_lt m n ≡ true → m < n
lt_says m n h = grind (arith, nat_tests)

pub lt_yes : (m n : ℕ) → m < n → nat_lt m n ≡ true
lt_yes m n h = grind (arith, nat_tests)

pub le_says : (m n : ℕ) → nat_le m n ≡ true → m ≤ n
le_says m n h = grind (arith, nat_tests)

pub le_yes : (m n : ℕ) → m ≤ n → nat_le m n ≡ true
le_yes m n h = grind (arith, nat_tests)

pub same_text : (a b : List ℕ) → bytes_eq a b ≡ true → a ≡ b
same_text a b h = (bytes_decide a b).0 h

pub text_itself : (a : List ℕ) → bytes_eq a a ≡ true
text_itself a = (bytes_decide a a).1 refl

-- something is at an index within
pub some_within : {A : Type 0} (xs : List A) (i : ℕ) → is_some (slice_get xs i) ≡ true → i < length xs
some_within [] i h = absurd (cc)
some_within (x ∷ xs) zero h = omega arith
some_within (x ∷ xs) (suc i) h = let rest : i < length xs = some_within xs i h in omega arith

pub within_some : {A : Type 0} (xs : List A) (i : ℕ) → i < length xs → (x : A) × (slice_get xs i ≡ Some x)
within_some [] i h = absurd (omega arith)
within_some (x ∷ xs) zero h = (x, refl)
within_some (x ∷ xs) (suc i) h = within_some xs i (omega arith)

pub got_within : {A : Type 0} (xs : List A) (i : ℕ) (x : A) → slice_get xs i ≡ Some x → i < length xs
got_within xs i x e = some_within xs i (ap is_some e)

pub none_in : {A : Type 0} (x : A) → Contains [] x → ⊥
none_in x c = let h : c.0 < 0 = c.1 in omega arith
