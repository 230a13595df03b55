-- Lists of which the same is made.
use Rattle.std.proofs.Common.{◌≡◌, ◌<◌, ℕ, zero, suc, List, [], ◌∷◌, map, length, get_or, sym, ap, ◌∙◌, arith}

-- what is made of items at the same place is the same
pub same_at : {A B C : Type 0} (f : A → C) (g : B → C) (xs : List A) (ys : List B) (i : ℕ) (x : A) (y : B) → map f xs ≡ map g ys → i < length ys
    → x ≡ get_or xs i x → y ≡ get_or ys i y → f x ≡ g y
same_at f g xs [] i x y same within first second = absurd (omega (arith, within))
same_at f g [] (b ∷ ys) i x y same within first second = absurd (cc)
same_at f g (a ∷ xs) (b ∷ ys) zero x y same within first second = let heads : f a ≡ g b = cc in ap f first ∙ heads ∙ ap g (sym second)
same_at {C = C} f g (a ∷ xs) (b ∷ ys) (suc i) x y same within first second =
    let tails : map f xs ≡ map g ys = cc in
    same_at f g xs ys i x y tails (omega (arith, within)) first second
