-- The objects of a table by their numbers, one after the other.
use Rattle.std.proofs.Common.{◌≡◌, ℕ, List, [], ◌∷◌, Option, Some, refl, sym, ap, ◌∙◌, subst}
use Rattle.std.specs.List.{AllByRecursion, cons_option, filter_map}
use Rattle.std.specs.Option.{option_map}
use Rattle.ash_host.specs.Objects.{object_at, numbers, Lives, IsInOrder}
use Rattle.ash_slots.specs.declared.body.Body.{Body}
use Rattle.ash_objects.specs.Table.{Living}
use Rattle.ash_objects.specs.Restoring.{bodies_of}
use Rattle.ash_states.proofs.Lists.{each_at}

module _ {B : Type 0} where
  abbrev body_at : List (ℕ × Living B) → ℕ → Option (ℕ × Body B)
  body_at objects n = option_map (λ (o : Living B). (n, o.body)) (object_at n objects)

  -- what is at these numbers
  abbrev pub bodies_at : List (ℕ × Living B) → List ℕ → List (ℕ × Body B)
  bodies_at objects ns = filter_map (body_at objects) ns

  found : (objects es : List (ℕ × Living B)) → AllByRecursion (λ (e : ℕ × Living B). object_at e.0 objects ≡ Some e.1) es → bodies_at objects (numbers es) ≡ bodies_of es
  found objects [] at = refl
  found objects (e ∷ es) at =
      ap (λ (o : Option (Living B)). cons_option (option_map (λ (x : Living B). (e.0, x.body)) o) (bodies_at objects (numbers es))) at.0
      ∙ ap (λ (bs : List (ℕ × Body B)). (e.0, (e.1).body) ∷ bs) (found objects es at.1)

  alive : (objects es : List (ℕ × Living B)) → AllByRecursion (λ (e : ℕ × Living B). object_at e.0 objects ≡ Some e.1) es → AllByRecursion (λ (n : ℕ). Lives objects n) (numbers es)
  alive objects [] at = tt
  alive objects (e ∷ es) at = (subst (λ (o : Option (Living B)). Rattle.std.specs.Prelude.IsSome o) (sym at.0) refl, alive objects es at.1)

  -- all are at their numbers
  pub all_found : (objects : List (ℕ × Living B)) → IsInOrder objects → bodies_at objects (numbers objects) ≡ bodies_of objects
  all_found objects order = found objects objects (each_at objects order)

  pub all_alive : (objects : List (ℕ × Living B)) → IsInOrder objects → AllByRecursion (λ (n : ℕ). Lives objects n) (numbers objects)
  all_alive objects order = alive objects objects (each_at objects order)
