-- A row that grows at its end, by a loop over a list, until it is what is made of the list.
use Rattle.std.proofs.Common.{◌≡◌, ℕ, ◌+◌, List, [], ◌∷◌, ◌++◌, length, sym, ap, ◌∙◌, ◌<◌, ◌≤◌, drop, get_or}
use Rattle.std.proofs.lemmas.List.{append_assoc, append-nil, at_drop_more, at_drop_all}

module _ {X B : Type 0} (made : List X → List B) (all : List X) (i : ℕ) (row : List B) where
  -- with what is made of one item more, the row and what is made of the others are the whole
  pub further : (item : X) (new next : List B) → i < length all → made (get_or all i item ∷ drop (i + 1) all) ≡ new ++ made (drop (i + 1) all) → next ≡ row ++ new → row ++ made (drop i all) ≡ made all → next ++ made (drop (i + 1) all) ≡ made all
  further item new next within of grown so_far =
      let others = made (drop (i + 1) all) in
      ap (λ bs. bs ++ others) grown ∙ append_assoc row new others ∙ ap (λ bs. row ++ bs) (sym (at_drop_more made all i item within ∙ of)) ∙ so_far

  -- at the end the row is the whole
  pub whole : length all ≤ i → made [] ≡ [] → row ++ made (drop i all) ≡ made all → row ≡ made all
  whole end nothing so_far =
      sym (append-nil row) ∙ ap (λ bs. row ++ bs) (sym nothing) ∙ sym (at_drop_all (λ xs. row ++ made xs) all i end) ∙ so_far
