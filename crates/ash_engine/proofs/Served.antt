-- Services of the kinds that are registered, and the states that they take.
use Rattle.std.proofs.Common.{◌≡◌, ◌+◌, ℕ, zero, suc, Bool, true, false, List, [], ◌∷◌, length, map, take, drop, nat_eq, if◌then◌else◌, slice_get, Option, Some, None, refl, sym, ap, ◌∙◌, subst, arith}
use Rattle.std.specs.Option.{option_map_or}
use Rattle.std.proofs.lemmas.Bool.Decides.{nat_tests}
use Rattle.ash_host.specs.declared.host_object.HostObject.{Ghosts}
use Rattle.ash_objects.specs.Restoring.{RestoresState, RestoresServices}
use Rattle.ash_engine.specs.RestoredBoxes.{kind_missing}

module _ {B : Type 0} (G : Ghosts B) where
  same_kind : (a b : ℕ) → nat_eq a b ≡ true → a ≡ b
  same_kind a b e = grind (arith, nat_tests)

  -- where none is missing the services are of the kinds
  pub kinds_served : (kinds : List ℕ) (services : List B) → kind_missing G kinds services ≡ None → map G.kind_of (take (length kinds) services) ≡ kinds
  kinds_served [] services e = refl
  kinds_served (kind ∷ kinds) [] e = absurd (cc)
  kinds_served (kind ∷ kinds) (service ∷ services) e = by (nat_eq (G.kind_of service) kind) refl (kinds_served kinds services) e
    where
      by : (b : Bool) → nat_eq (G.kind_of service) kind ≡ b → (kind_missing G kinds services ≡ None → map G.kind_of (take (length kinds) services) ≡ kinds) → (if b then kind_missing G kinds services else Some kind) ≡ None → map G.kind_of (service ∷ take (length kinds) services) ≡ kind ∷ kinds
      by true same more later = ap (λ (k : ℕ). k ∷ map G.kind_of (take (length kinds) services)) (same_kind (G.kind_of service) kind same) ∙ ap (λ (ks : List ℕ). kind ∷ ks) (more later)
      by false same more later = absurd (cc)

  each_restored : (states : List (List ℕ)) (before after : List B) → length before ≡ length states → length after ≡ length before
      → ((place : ℕ) (one other : B) (bytes : List ℕ) → slice_get before place ≡ Some one → slice_get after place ≡ Some other → slice_get states place ≡ Some bytes → RestoresState G one bytes other)
      → (states ≡ map G.state after) × (map G.kind_of after ≡ map G.kind_of before)
  each_restored [] [] [] many same each = (refl, refl)
  each_restored [] [] (a ∷ after) many same each = absurd (omega (arith, same))
  each_restored [] (b ∷ before) after many same each = absurd (omega (arith, many))
  each_restored (s ∷ states) [] after many same each = absurd (omega (arith, many))
  each_restored (s ∷ states) (b ∷ before) [] many same each = absurd (omega (arith, same))
  each_restored (s ∷ states) (b ∷ before) (a ∷ after) many same each =
      let here : RestoresState G b s a = each 0 b a s refl refl refl in
      let later = each_restored states before after (omega (arith, many)) (omega (arith, same)) (λ place one other bytes x y z. each (suc place) one other bytes x y z) in (
        ap (λ (x : List ℕ). x ∷ states) (sym here.has) ∙ ap (λ (xs : List (List ℕ)). G.state a ∷ xs) later.0,
        ap (λ (k : ℕ). k ∷ map G.kind_of after) here.same_kind ∙ ap (λ (ks : List ℕ). G.kind_of b ∷ ks) later.1,
      )

  -- services that took their states have these states, and are of the kinds that they were of
  pub services_restored : (states : List (List ℕ)) (before after : List B) → length before ≡ length states → RestoresServices G before states after → (states ≡ map G.state after) × (map G.kind_of after ≡ map G.kind_of before)
  services_restored states before after many r = each_restored states before after many r.many r.each

  -- one kind after another

  rest : (services : List B) (i : ℕ) (s : B) → slice_get services i ≡ Some s → drop i services ≡ s ∷ drop (i + 1) services
  rest [] i s e = absurd (cc)
  rest (x ∷ xs) zero s e = let same : x ≡ s = cc in ap (λ (y : B). y ∷ xs) same
  rest (x ∷ xs) (suc i) s e =
      let same : suc (i + 1) ≡ suc i + 1 = omega arith in
      subst (λ (n : ℕ). drop i xs ≡ s ∷ drop n (x ∷ xs)) same (rest xs i s e)

  none_left : (services : List B) (i : ℕ) → slice_get services i ≡ None → drop i services ≡ []
  none_left [] zero e = refl
  none_left [] (suc i) e = refl
  none_left (x ∷ xs) zero e = absurd (cc)
  none_left (x ∷ xs) (suc i) e = none_left xs i e

  abbrev is_of : ℕ → Option B → Bool
  is_of kind o = option_map_or (λ service. nat_eq (G.kind_of service) kind) o false

  abbrev on_from : List ℕ → List B → ℕ → ℕ → Bool → Option ℕ
  on_from kinds services i k b = if b then kind_missing G (drop (i + 1) kinds) (drop (i + 1) services) else Some k

  next_by : (kinds : List ℕ) (services : List B) (i k : ℕ) → drop i kinds ≡ k ∷ drop (i + 1) kinds → (o : Option B) → slice_get services i ≡ o → kind_missing G (drop i kinds) (drop i services) ≡ on_from kinds services i k (is_of k o)
  next_by kinds services i k e None at = ap (λ (ks : List ℕ). kind_missing G ks (drop i services)) e ∙ ap (λ (ss : List B). kind_missing G (k ∷ drop (i + 1) kinds) ss) (none_left services i at)
  next_by kinds services i k e (Some s) at = ap (λ (ks : List ℕ). kind_missing G ks (drop i services)) e ∙ ap (λ (ss : List B). kind_missing G (k ∷ drop (i + 1) kinds) ss) (rest services i s at)

  pub missing_next : (kinds : List ℕ) (services : List B) (i k : ℕ) → drop i kinds ≡ k ∷ drop (i + 1) kinds → (b : Bool) → is_of k (slice_get services i) ≡ b → kind_missing G (drop i kinds) (drop i services) ≡ on_from kinds services i k b
  missing_next kinds services i k e b is = next_by kinds services i k e (slice_get services i) refl ∙ ap (on_from kinds services i k) is
