-- Which elements are at the places that are found, and the place of one more.
use Rattle.std.proofs.Common.{◌≡◌, ℕ, suc, Bool, true, false, cond, List, [], ◌∷◌, ◌++◌, length, slice_get, Option}
use Rattle.std.proofs.Common.{Some, None, is_some, refl, sym, ap, subst, ◌∙◌, ◌||◌, map}
use Rattle.std.specs.Prelude.{find}
use Rattle.std.specs.List.{list_any}
use Rattle.std.specs.Option.{option_map, option_and_then}
use Rattle.std.specs.Str.{bytes_eq}
use Rattle.std.proofs.lemmas.Slice.Eq.{bytes_eq-Decides}
use Rattle.ash_registrations.specs.Names.{place_of}
use Rattle.ash_registrations.proofs.Mapped.{any_mapped, find_mapped}

module _ {X : Type 0} (p : X → Bool) where
  after : (x : X) (xs : List X) (o : Option ℕ)
      → option_and_then (slice_get (x ∷ xs)) (option_map suc o) ≡ option_and_then (slice_get xs) o
  after x xs None = refl
  after x xs (Some n) = refl

  -- what is at the place is what is found
  pub found_at_place : (xs : List X) → find p xs ≡ option_and_then (slice_get xs) (place_of p xs)
  found_at_place [] = refl
  found_at_place (x ∷ xs) =
      elim (p x) as (λ b. cond b (Some x) (find p xs)
      ≡ option_and_then (slice_get (x ∷ xs)) (cond b (Some 0) (option_map suc (place_of p xs)))) [
        | true ↦ refl
        | false ↦ found_at_place xs ∙ sym (after x xs (place_of p xs))
      ]

  some_after : (o : Option ℕ) → is_some (option_map suc o) ≡ is_some o
  some_after None = refl
  some_after (Some n) = refl

  -- one passes where there is a place
  pub placed_is_any : (xs : List X) → is_some (place_of p xs) ≡ list_any p xs
  placed_is_any [] = refl
  placed_is_any (x ∷ xs) =
      elim (p x) as (λ b. is_some (cond b (Some 0) (option_map suc (place_of p xs))) ≡ (b || list_any p xs)) [
        | true ↦ refl
        | false ↦ some_after (place_of p xs) ∙ placed_is_any xs
      ]

  -- one more that does not pass leaves the place
  pub place_stays : (xs : List X) (y : X) → p y ≡ false → place_of p (xs ++ y ∷ []) ≡ place_of p xs
  place_stays [] y e = ap (λ b. cond b (Some 0) None) e
  place_stays (x ∷ xs) y e = ap (λ o. cond (p x) (Some 0) (option_map suc o)) (place_stays xs y e)

  -- the first that passes is after the others
  pub place_is_last : (xs : List X) (y : X) → list_any p xs ≡ false → p y ≡ true
      → place_of p (xs ++ y ∷ []) ≡ Some (length xs)
  place_is_last [] y none e = ap (λ b. cond b (Some 0) None) e
  place_is_last (x ∷ xs) y none e =
      (elim (p x) as (λ b. (b || list_any p xs) ≡ false
      → cond b (Some 0) (option_map suc (place_of p (xs ++ y ∷ []))) ≡ Some (suc (length xs))) [
        | true ↦ λ f. cc
        | false ↦ λ f. ap (option_map suc) (place_is_last xs y f e)
      ]) none

-- an equality that fails fails the other way round
turned : (a b : List ℕ) → bytes_eq a b ≡ false → bytes_eq b a ≡ false
turned a b e =
    (elim (bytes_eq b a) as (λ v. bytes_eq b a ≡ v → bytes_eq b a ≡ false) [
      | true ↦ λ f.
          let same : b ≡ a = (bytes_eq-Decides b a).0 f in
          let t : bytes_eq a b ≡ true = (bytes_eq-Decides a b).1 (sym same) in
          cc
      | false ↦ λ f. f
    ]) refl

-- the place of a name where one more element takes a name that was free
pub place_of_new : {X : Type 0} (takes : List ℕ → X → Bool) (xs zs : List X) (y : X) (key name : List ℕ) (o : Option ℕ)
    (at : ℕ) → ((other : List ℕ) → takes other y ≡ bytes_eq other key) → list_any (takes key) xs ≡ false
    → o ≡ place_of (takes name) xs → at ≡ length xs → zs ≡ xs ++ y ∷ []
    → cond (bytes_eq key name) (Some at) o ≡ place_of (takes name) zs
place_of_new takes xs zs y key name o at names free old last more =
    (elim (bytes_eq key name) as (λ b. bytes_eq key name ≡ b
    → cond b (Some at) o ≡ place_of (takes name) (xs ++ y ∷ [])) [
      | true ↦ λ e.
          let same : key ≡ name = (bytes_eq-Decides key name).0 e in
          ap (λ (n : ℕ). Some n) last ∙ sym (place_is_last (takes name) xs y
          (subst (λ n. list_any (takes n) xs ≡ false) same free)
          (names name ∙ (bytes_eq-Decides name key).1 (sym same)))
      | false ↦ λ e. old ∙ sym (place_stays (takes name) xs y (names name ∙ turned key name e))
    ]) refl ∙ ap (place_of (takes name)) (sym more)

-- the place of a name where one more element does not take it
pub place_of_old : {X : Type 0} (test : X → Bool) (xs zs : List X) (y : X) (o : Option ℕ) → test y ≡ false
    → o ≡ place_of test xs → zs ≡ xs ++ y ∷ [] → o ≡ place_of test zs
place_of_old test xs zs y o none old more = old ∙ sym (place_stays test xs y none) ∙ ap (place_of test) (sym more)

-- what is found among what the elements represent
pub found_by : {X Y : Type 0} (p : Y → Bool) (f : X → Y) (xs : List X) (o : Option ℕ) (r : Option X)
    → o ≡ place_of (λ x. p (f x)) xs → r ≡ option_and_then (slice_get xs) o → option_map f r ≡ find p (map f xs)
found_by p f xs o r e h =
    ap (option_map f) (h ∙ ap (option_and_then (slice_get xs)) e ∙ sym (found_at_place (λ x. p (f x)) xs))
    ∙ sym (find_mapped p f xs)

-- whether one passes of what the elements represent
pub any_by : {X Y : Type 0} (p : Y → Bool) (f : X → Y) (xs : List X) (o : Option ℕ) (b : Bool)
    → o ≡ place_of (λ x. p (f x)) xs → b ≡ is_some o → b ≡ list_any p (map f xs)
any_by p f xs o b e h = h ∙ ap is_some e ∙ placed_is_any (λ x. p (f x)) xs ∙ sym (any_mapped p f xs)
