-- Services lead to those after a request, if those that were not called stayed.
use Rattle.std.proofs.Common.{◌≡◌, ℕ, List, [], ◌∷◌, length, map, zip, slice_get, refl, sym, ap, ◌∙◌, subst, arith}
use Rattle.std.specs.Prelude.{Contains}
use Rattle.ash_image.specs.Leading.{LeadServices, AreThere, values_after}
use Rattle.ash_change_records.specs.ListedChanges.{listed}
use Rattle.ash_states.proofs.Lists.{zip_firsts, zip_seconds}
use Rattle.ash_change_records.proofs.Listing.{listed_values, listed_there}

zip_many : {A B : Type 0} (xs : List A) (ys : List B) → length ys ≡ length xs → length (zip xs ys) ≡ length ys
zip_many [] [] e = refl
zip_many [] (y ∷ ys) e = absurd (omega (arith, e))
zip_many (x ∷ xs) [] e = absurd (omega (arith, e))
zip_many (x ∷ xs) (y ∷ ys) e = omega (arith, zip_many xs ys (omega (arith, e)))

module _ (kinds : List ℕ) (before after : List (List ℕ)) (places : List ℕ) where
  pub services_lead : length before ≡ length kinds → length after ≡ length kinds
      → ((place : ℕ) → (Contains places place → ⊥) → slice_get after place ≡ slice_get before place)
      → LeadServices (listed (slice_get after) places) (zip kinds before) (zip kinds after)
  services_lead was is same =
      let many : length after ≡ length before = is ∙ sym was in
      record {
        there = subst (λ (n : ℕ). AreThere (listed (slice_get after) places) n) (sym (zip_many kinds before was)) (listed_there places before after many);
        kinds = zip_firsts kinds after is ∙ sym (zip_firsts kinds before was);
        states = zip_seconds kinds after is ∙ listed_values places before after many same
            ∙ ap (values_after (listed (slice_get after) places)) (sym (zip_seconds kinds before was));
      }
