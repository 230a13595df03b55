-- Indexes of names, made from the last name on.
use Rattle.std.proofs.Common.{◌≡◌, ℕ, ◌+◌, suc, Bool, true, false, cond, List, [], ◌∷◌, length, slice_get, Option}
use Rattle.std.proofs.Common.{Some, None, refl, sym, ap, ◌∙◌, ◌<◌, map, drop, get_or, arith}
use Rattle.std.proofs.lemmas.Bool.{false≢true}
use Rattle.std.specs.Option.{option_map, option_and_then}
use Rattle.std.specs.Str.{bytes_eq}
use Rattle.std.specs.Borrow.{Bor}
use Rattle.std.proofs.lemmas.List.{drop_more}
use Rattle.std.proofs.lemmas.Map.Text.{hash_map_updates_str}
use Rattle.std.proofs.lemmas.Slice.Eq.{bytes_eq-Decides}
use Rattle.indexmap.specs.IndexMap.{IndexMap, UpdatesBy}
use Rattle.ash_registrations.specs.Names.{place_of}
use Rattle.ash_type_rules.specs.Environment.{first_from}
use Rattle.ash_check_names.specs.NameIndex.{place_in_index, IsNameIndex, texts}

-- each name has the place of the first of these names that equals it, counted from the place of the first of them
abbrev pub ArePlacesFrom : {S : Type 0} → ℕ → IndexMap (Bor (List ℕ)) ℕ S → List (List ℕ) → Type 0
ArePlacesFrom at places names = (name : List ℕ) → place_in_index places name ≡ option_map (λ k. at + k) (place_of (bytes_eq name) names)

one_on : (at : ℕ) (o : Option ℕ) → option_map (λ k. (at + 1) + k) o ≡ option_map (λ k. at + k) (option_map suc o)
one_on at None = refl
one_on at (Some k) = let e : (at + 1) + k ≡ at + suc k = omega arith in ap (λ n. Some n) e

apart : (key name : List ℕ) → bytes_eq key name ≡ false → bytes_eq name key ≡ false
apart key name h =
    (elim (bytes_eq name key) as (λ b. bytes_eq name key ≡ b → b ≡ false) [
      | true ↦ λ e. absurd (false≢true (sym h ∙ (bytes_eq-Decides key name).1 (sym ((bytes_eq-Decides name key).0 e))))
      | false ↦ λ e. refl
    ]) refl

one_before : (at : ℕ) (key name : List ℕ) (o found : Option ℕ) → found ≡ option_map (λ k. (at + 1) + k) o → cond (bytes_eq key name) (Some at) found ≡ option_map (λ k. at + k) (cond (bytes_eq name key) (Some 0) (option_map suc o))
one_before at key name o found h =
    let P : Bool → Option ℕ = λ b. option_map (λ k. at + k) (cond b (Some 0) (option_map suc o)) in
    (elim (bytes_eq key name) as (λ b. bytes_eq key name ≡ b → cond b (Some at) found ≡ P (bytes_eq name key)) [
      | true ↦ λ e.
          let same : bytes_eq name key ≡ true = (bytes_eq-Decides name key).1 (sym ((bytes_eq-Decides key name).0 e)) in
          let first : at ≡ at + 0 = omega arith in
          ap (λ n. Some n) first ∙ sym (ap P same)
      | false ↦ λ e. h ∙ one_on at o ∙ sym (ap P (apart key name e))
    ]) refl

-- a name before the others takes the place before theirs
pub placed_before : {S : Type 0} (old new : IndexMap (Bor (List ℕ)) ℕ S) (at : ℕ) (key : List ℕ) (names : List (List ℕ)) → ArePlacesFrom (at + 1) old names → UpdatesBy (λ x y. bytes_eq x.now y.now) (λ k. bytes_eq key k.now) old new (Some at) → ArePlacesFrom at new (key ∷ names)
placed_before old new at key names h updates = λ name.
    hash_map_updates_str key old new (Some at) updates name ∙ one_before at key name (place_of (bytes_eq name) names) (place_in_index old name) (h name)

none_on : (o : Option ℕ) → option_map (λ k. 0 + k) o ≡ o
none_on None = refl
none_on (Some k) = let e : 0 + k ≡ k = omega arith in ap (λ n. Some n) e

-- places from 0
pub placed_from_none : {S : Type 0} (places : IndexMap (Bor (List ℕ)) ℕ S) (names : List (List ℕ)) → ArePlacesFrom 0 places names → IsNameIndex places names
placed_from_none places names h = λ name. h name ∙ none_on (place_of (bytes_eq name) names)

module _ {X Y : Type 0} (test : Y → Bool) (view : X → Y) where
  -- the item at a place, with its number
  at_place : ℕ → List X → ℕ → Option (ℕ × Y)
  at_place i xs k = option_map (λ (x : X). (i + k, view x)) (slice_get xs k)

  at_next : (i : ℕ) (x : X) (xs : List X) (o : Option ℕ) → option_and_then (at_place (i + 1) xs) o ≡ option_and_then (at_place i (x ∷ xs)) (option_map suc o)
  unfolding at_place
  at_next i x xs None = refl
  at_next i x xs (Some n) = let e : (i + 1) + n ≡ i + suc n = omega arith in ap (λ k. option_map (λ (x : X). (k, view x)) (slice_get xs n)) e

  from : (i : ℕ) (xs : List X) → first_from test i (map view xs) ≡ option_and_then (at_place i xs) (place_of (λ x. test (view x)) xs)
  unfolding at_place
  from i [] = refl
  from i (x ∷ xs) =
      elim (test (view x)) as (λ b. cond b (Some (i, view x)) (first_from test (i + 1) (map view xs)) ≡ option_and_then (at_place i (x ∷ xs)) (cond b (Some 0) (option_map suc (place_of (λ y. test (view y)) xs)))) [
        | true ↦ let e : i ≡ i + 0 = omega arith in ap (λ k. Some (k, view x)) e
        | false ↦ from (i + 1) xs ∙ at_next i x xs (place_of (λ y. test (view y)) xs)
      ]

  at_zero : (xs : List X) (o : Option ℕ) → option_and_then (at_place 0 xs) o ≡ option_and_then (λ k. option_map (λ (x : X). (k, view x)) (slice_get xs k)) o
  unfolding at_place
  at_zero xs None = refl
  at_zero xs (Some k) = let e : 0 + k ≡ k = omega arith in ap (λ n. option_map (λ (x : X). (n, view x)) (slice_get xs k)) e

  -- the first item that passes is at its place
  pub first_placed : (xs : List X) (o : Option ℕ) → o ≡ place_of (λ x. test (view x)) xs → first_from test 0 (map view xs) ≡ option_and_then (λ k. option_map (λ (x : X). (k, view x)) (slice_get xs k)) o
  first_placed xs o e = from 0 xs ∙ at_zero xs (place_of (λ x. test (view x)) xs) ∙ ap (option_and_then (λ k. option_map (λ (x : X). (k, view x)) (slice_get xs k))) (sym e)

-- the place in a list of names is that in the list of what they name
pub place_mapped : {X : Type 0} (name : List ℕ) (named : X → List ℕ) (xs : List X) → place_of (bytes_eq name) (map named xs) ≡ place_of (λ x. bytes_eq name (named x)) xs
place_mapped name named [] = refl
place_mapped name named (x ∷ xs) = ap (λ o. cond (bytes_eq name (named x)) (Some 0) (option_map suc o)) (place_mapped name named xs)

-- the names from one on: it, and those after it
pub from_next : (names : List (Bor (List ℕ))) (i : ℕ) (d : Bor (List ℕ)) → i < length names → texts (drop i names) ≡ (get_or names i d).now ∷ texts (drop (i + 1) names)
from_next names i d h = ap texts (drop_more names i d h)
