-- Objects that know their modules by something else: the numbers, the handles and what is reached stay the same.
use Rattle.std.proofs.Common.{◌≡◌, ℕ, true, false, cond, List, [], ◌∷◌, map, nat_eq, refl, sym, ap, ◌∙◌, subst}
use Rattle.std.specs.Prelude.{Option, Some, None, is_some, Contains, option_map}
use Rattle.std.specs.Option.{option_map_or}
use Rattle.std.specs.List.Sorted.{IsStrictlyIncreasing}
use Rattle.ash_host.specs.Objects.{Plain, LiveObjects, object_at, numbers, handles, fields_of, references, AreNumbered}
use Rattle.ash_host.specs.Reach.{Root, Field, ReachableIn, NoneDangles}

module _ {M N : Type 0} (rename : Plain M → Plain N) (same : (o : Plain M) → fields_of (rename o) ≡ fields_of o) where
  abbrev pub renamed : LiveObjects M → LiveObjects N
  renamed os = map (λ (e : ℕ × Plain M). (e.0, rename e.1)) os

  pub numbers_same : (os : LiveObjects M) → numbers (renamed os) ≡ numbers os
  numbers_same [] = refl
  numbers_same (e ∷ os) = ap (λ (ns : List ℕ). e.0 ∷ ns) (numbers_same os)

  pub at_renamed : (n : ℕ) (os : LiveObjects M) → object_at n (renamed os) ≡ option_map rename (object_at n os)
  at_renamed n [] = refl
  at_renamed n (e ∷ os) =
      elim (nat_eq n e.0) as (λ b. cond b (Some (rename e.1)) (object_at n (renamed os)) ≡ option_map rename (cond b (Some e.1) (object_at n os))) [
        | true ↦ refl
        | false ↦ at_renamed n os
      ]

  some_same : (o : Option (Plain M)) → is_some (option_map rename o) ≡ is_some o
  some_same None = refl
  some_same (Some x) = refl

  pub lives_same : (n : ℕ) (os : LiveObjects M) → is_some (object_at n (renamed os)) ≡ is_some (object_at n os)
  lives_same n os = ap is_some (at_renamed n os) ∙ some_same (object_at n os)

  handles_same : (o : Option (Plain M)) → option_map_or (λ (x : Plain N). handles (fields_of x)) (option_map rename o) [] ≡ option_map_or (λ (x : Plain M). handles (fields_of x)) o []
  handles_same None = refl
  handles_same (Some x) = ap handles (same x)

  pub references_same : (n : ℕ) (os : LiveObjects M) → references (renamed os) n ≡ references os n
  references_same n os = ap (λ (o : Option (Plain N)). option_map_or (λ (x : Plain N). handles (fields_of x)) o []) (at_renamed n os) ∙ handles_same (object_at n os)

  pub reached : {IsHeld : ℕ → Type 0} (os : LiveObjects M) (n : ℕ) → ReachableIn IsHeld os n → ReachableIn IsHeld (renamed os) n
  reached os n (Root h) = Root h
  reached os n (Field {one} r f) = Field (reached os one r) (subst (λ (ns : List ℕ). Contains ns n) (sym (references_same one os)) f)

  pub numbered : (last : ℕ) (os : LiveObjects M) → AreNumbered last os → AreNumbered last (renamed os)
  numbered last os h = record {
    in_order = subst (λ (ns : List ℕ). IsStrictlyIncreasing ns) (sym (numbers_same os)) h.in_order;
    given = λ n lives. h.given n (sym (lives_same n os) ∙ lives);
  }

  pub none_dangles : (held : List ℕ) (os : LiveObjects M) → NoneDangles (Contains held) os → NoneDangles (Contains held) (renamed os)
  none_dangles held os h = record {
    held = λ n i. lives_same n os ∙ h.held n i;
    fields = λ one other r. lives_same other os ∙ h.fields one other (subst (λ (ns : List ℕ). Contains ns other) (references_same one os) r);
  }
