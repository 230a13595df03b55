-- Tables as plain data.
use Rattle.std.proofs.Common.{◌≡◌, ℕ, List, [], refl, sym, ap, ◌∙◌, subst}
use Rattle.std.specs.Prelude.{Option, Some, None, IsSomeAnd, Contains, option_map, is_some}
use Rattle.std.specs.Option.{option_map_or}
use Rattle.ash_host.specs.declared.host_object.HostObject.{Ghosts}
use Rattle.ash_host.specs.declared.word.Word.{Word}
use Rattle.ash_host.specs.Objects.{Plain, object_at, handles, fields_of, is_host, Refers}
use Rattle.ash_slots.specs.declared.body.Body.{Body}
use Rattle.ash_slots.specs.declared.body.Body.TheVariants as bodies
use Rattle.ash_slots.specs.Bodies.{words_of, is_boxed}
use Rattle.ash_objects.specs.Table.{Living}
use Rattle.ash_objects.specs.Sweeping.{RefersTo}
use Rattle.ash_objects.proofs.Marks.{object_at-mapped}
use Rattle.ash_soundness.proofs.Values.{none_in}
use Rattle.ash_object_ranks.specs.ShownTables.{SlotNames, body_shown, objects_shown}
use Rattle.ash_object_ranks.specs.SweepLaws.{TablesHaveRanks}

module _ {B : Type 0} (G : Ghosts B) (names : SlotNames) where
  abbrev pub living_shown : Living B → Plain (List ℕ)
  living_shown object = body_shown G names object.body

  pub words_shown : (body : Body B) → fields_of (body_shown G names body) ≡ words_of body
  words_shown (bodies.Script script) = refl
  words_shown (bodies.Array array) = refl
  words_shown (bodies.Host box) = refl

  pub host_shown : (body : Body B) → is_host (body_shown G names body) ≡ is_boxed body
  host_shown (bodies.Script script) = refl
  host_shown (bodies.Array array) = refl
  host_shown (bodies.Host box) = refl

  pub shown_at : (number : ℕ) (objects : List (ℕ × Living B)) → object_at number (objects_shown G names objects) ≡ option_map living_shown (object_at number objects)
  shown_at number objects = object_at-mapped living_shown number objects

  lives_mapped : (o : Option (Living B)) → is_some (option_map living_shown o) ≡ is_some o
  lives_mapped None = refl
  lives_mapped (Some object) = refl

  pub lives_shown : (number : ℕ) (objects : List (ℕ × Living B)) → is_some (object_at number (objects_shown G names objects)) ≡ is_some (object_at number objects)
  lives_shown number objects = ap is_some (shown_at number objects) ∙ lives_mapped (object_at number objects)

  abbrev references_in : Option (Plain (List ℕ)) → List ℕ
  references_in o = option_map_or (λ (object : Plain (List ℕ)). handles (fields_of object)) o []

  refers_from : (other : ℕ) (o : Option (Living B)) → IsSomeAnd o (λ object. Contains (handles (words_of object.body)) other) → Contains (references_in (option_map living_shown o)) other
  refers_from other None refers = absurd refers
  refers_from other (Some object) refers = subst (λ (ws : List Word). Contains (handles ws) other) (sym (words_shown object.body)) refers

  refers_back : (other : ℕ) (o : Option (Living B)) → Contains (references_in (option_map living_shown o)) other → IsSomeAnd o (λ object. Contains (handles (words_of object.body)) other)
  refers_back other None refers = absurd (none_in other refers)
  refers_back other (Some object) refers = subst (λ (ws : List Word). Contains (handles ws) other) (words_shown object.body) refers

  -- a word of a table's object is a handle exactly where it is one of the object as plain data

  pub refers_shown : (objects : List (ℕ × Living B)) (one other : ℕ) → RefersTo objects one other → Refers (objects_shown G names objects) one other
  refers_shown objects one other refers = subst (λ (o : Option (Plain (List ℕ))). Contains (references_in o) other) (sym (shown_at one objects)) (refers_from other (object_at one objects) refers)

  pub refers_of_shown : (objects : List (ℕ × Living B)) (one other : ℕ) → Refers (objects_shown G names objects) one other → RefersTo objects one other
  refers_of_shown objects one other refers = refers_back other (object_at one objects) (subst (λ (o : Option (Plain (List ℕ))). Contains (references_in o) other) (shown_at one objects) refers)

  pub tables_have_ranks : TablesHaveRanks G names
  tables_have_ranks table rank top ranks = record {
    below = λ number lives. ranks.below number (lives_shown number table.objects ∙ lives);
    falls = λ one other refers. ranks.falls one other (refers_shown table.objects one other refers);
  }
