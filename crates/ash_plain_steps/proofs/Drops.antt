-- What is left of a list after its first so many.
use Rattle.std.proofs.Common.{◌≡◌, ◌<◌, ◌≤◌, ◌+◌, ℕ, zero, suc, List, [], ◌∷◌, length, drop, get_or, Some, None, refl, sym, ◌∙◌, ap, arith}
use Rattle.std.specs.Prelude.{slice_get}

pub got_some : {A : Type 0} (xs : List A) (i : ℕ) (x : A) → slice_get xs i ≡ Some x → drop i xs ≡ x ∷ drop (i + 1) xs
got_some [] i x e = absurd (cc)
got_some (y ∷ ys) zero x e = let same : y ≡ x = cc in ap (λ (z : _). z ∷ ys) same
got_some (y ∷ ys) (suc i) x e = got_some ys i x e ∙ ap (λ (n : ℕ). x ∷ drop n (y ∷ ys)) (let is : suc (i + 1) ≡ suc i + 1 = omega arith in is)

pub got_none : {A : Type 0} (xs : List A) (i : ℕ) → slice_get xs i ≡ None → drop i xs ≡ []
got_none [] zero e = refl
got_none [] (suc i) e = refl
got_none (y ∷ ys) zero e = absurd (cc)
got_none (y ∷ ys) (suc i) e = got_none ys i e

pub at_place : {A : Type 0} (xs : List A) (i : ℕ) (x : A) → i < length xs → x ≡ get_or xs i x → drop i xs ≡ x ∷ drop (i + 1) xs
at_place [] i x within e = absurd (omega arith)
at_place (y ∷ ys) zero x within e = ap (λ (z : _). z ∷ ys) (sym e)
at_place (y ∷ ys) (suc i) x within e = at_place ys i x (omega arith) e ∙ ap (λ (n : ℕ). x ∷ drop n (y ∷ ys)) (let is : suc (i + 1) ≡ suc i + 1 = omega arith in is)

pub past : {A : Type 0} (xs : List A) (i : ℕ) → length xs ≤ i → drop i xs ≡ []
past [] zero e = refl
past [] (suc i) e = refl
past (y ∷ ys) zero e = absurd (omega arith)
past (y ∷ ys) (suc i) e = past ys i (omega arith)
