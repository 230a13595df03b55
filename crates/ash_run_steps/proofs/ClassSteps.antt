-- Classes of objects are the meaning's.
use Rattle.std.proofs.Common.{◌≡◌, ℕ, Bool, true, false, cond, refl, sym, ap, ◌∙◌, nat_eq}
use Rattle.std.specs.Prelude.{Option, Some, None, option_map}
use Rattle.std.specs.Option.{option_and_then}
use Rattle.std.specs.Str.{bytes_eq}
use Rattle.std.proofs.lemmas.Bool.{eqb-true, eq-eqb}
use Rattle.std.proofs.lemmas.Slice.Eq.{bytes_eq-Decides}
use Rattle.ash_host.specs.declared.host_object.HostObject.{Ghosts}
use Rattle.ash_host.specs.Objects.{object_at}
use Rattle.ash_meaning.specs.Runs.{Done}
use Rattle.ash_slots.specs.declared.body.Body.{Body}
use Rattle.ash_slots.specs.declared.body.Body.TheVariants as bodies
use Rattle.ash_objects.specs.Table.{Living, Table, body_of}
use Rattle.ash_object_ranks.specs.ShownTables.{body_shown, objects_shown}
use Rattle.ash_object_ranks.proofs.ShownTables.{living_shown, shown_at}
use Rattle.ash_run_steps.specs.Becoming.{Becomes}
use Rattle.ash_run_steps.specs.ClassPlaces.{IsAlone, place_in, place_in_slot, class_place}
use Rattle.ash_run_steps.specs.Guarded.{give}
use Rattle.ash_run_steps.specs.RunStates.{State, Names, shown}
use Rattle.ash_run_steps.proofs.Composed.{becomes_by}

module _ {B : Type 0} (G : Ghosts B) (names : Names) (owner : ℕ) (alone : IsAlone names owner) where
  same_owner : (slot : ℕ) → bytes_eq (names.modules slot) (names.modules owner) ≡ nat_eq slot owner
  same_owner slot = go (bytes_eq (names.modules slot) (names.modules owner)) (nat_eq slot owner) refl refl
    where
      go : (a b : Bool) → bytes_eq (names.modules slot) (names.modules owner) ≡ a → nat_eq slot owner ≡ b → a ≡ b
      go true true one other = refl
      go false false one other = refl
      go true false one other =
          let here = alone slot ((bytes_eq-Decides (names.modules slot) (names.modules owner)).0 one) in
          let yes = eq-eqb slot owner here in
          absurd (cc)
      go false true one other =
          let here = eqb-true slot owner other in
          let yes = (bytes_eq-Decides (names.modules slot) (names.modules owner)).1 (ap names.modules here) in
          absurd (cc)

  place_shown : (body : Body B) → place_in (names.modules owner) (body_shown G names.modules body) ≡ place_in_slot owner body
  place_shown (bodies.Script script) = ap (λ (b : Bool). cond b (Some script.class) None) (same_owner script.module)
  place_shown (bodies.Array array) = refl
  place_shown (bodies.Host box) = refl

  places_shown : (n : ℕ) (table : Table B) → option_and_then (place_in (names.modules owner)) (object_at n (objects_shown G names.modules table.objects))
      ≡ option_and_then (place_in_slot owner) (body_of n table)
  places_shown n table =
      ap (option_and_then (place_in (names.modules owner))) (shown_at G names.modules n table.objects) ∙ go (object_at n table.objects)
    where
      go : (o : Option (Living B)) → option_and_then (place_in (names.modules owner)) (option_map (living_shown G names.modules) o)
          ≡ option_and_then (place_in_slot owner) (option_map (λ (x : Living B). x.body) o)
      go None = refl
      go (Some x) = place_shown x.body

  pub place_gives : (n : ℕ) (place : Option ℕ) (s : State B) → place ≡ option_and_then (place_in_slot owner) (body_of n s.table)
      → Becomes G names (class_place (names.modules owner) n) s (give place) s
  place_gives n place s at =
      becomes_by G names (class_place (names.modules owner) n) s (give place) s refl refl
      (λ rest. ap (λ (o : Option ℕ). Some (Done o (shown G names rest s))) (at ∙ sym (places_shown n s.table)))
