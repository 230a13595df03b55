-- What is left of a list that is gone through.
use Rattle.std.proofs.Common.{◌≡◌, ◌<◌, ◌≤◌, ℕ, ◌+◌, List, [], ◌∷◌, length, get_or, drop, sym, ap, ◌∙◌}
use Rattle.std.proofs.lemmas.List.{drop_more, drop_all}

pub next_of : {A : Type 0} (xs : List A) (k : ℕ) (x : A) → k < length xs → x ≡ get_or xs k x
    → x ∷ drop (k + 1) xs ≡ drop k xs
next_of xs k x low is = sym (drop_more xs k x low ∙ ap (λ y. y ∷ drop (k + 1) xs) (sym is))

pub none_of : {A : Type 0} (xs : List A) (k : ℕ) → length xs ≤ k → [] ≡ drop k xs
none_of xs k over = sym (drop_all k xs over)
