-- What objects take from a pool, one after the other.
use Rattle.std.proofs.Common.{◌≡◌, ℕ, List, [], ◌∷◌, ◌++◌, refl, sym, subst, ap, ◌∙◌, arith, Option, Some, None, length, zero, suc, nat_eq, ◌+◌, drop}
use Rattle.std.specs.Prelude.{IsSome, slice_get, map}
use Rattle.std.specs.Option.{option_map, option_and_then}
use Rattle.std.specs.List.{remove, position}
use Rattle.ash_host.specs.declared.host_object.HostObject.{Ghosts}
use Rattle.ash_slots.specs.declared.body.Body.{Body}
use Rattle.ash_slots.specs.declared.body.Body.TheVariants.{Script, Array, Host}
use Rattle.ash_slots.specs.SlotResponses.{box_of}
use Rattle.ash_slots.specs.Store.{SlotEntry}
use Rattle.ash_objects.specs.declared.restoring.SavedObject.{SavedObject}
use Rattle.ash_objects.specs.declared.restoring.SavedHostObject.{SavedHostObject}
use Rattle.ash_objects.specs.Restoring.{Drawn, Short, Enough, kind_wanted, draw_box, draw_others, draw_then, draw_boxes, with_box_first, RestoresBox, RestoresBoxes, IsBody, AreBodies, with_drawn, AreFit, AreInserted}
use Rattle.ash_objects.proofs.Marks.{appended}

module _ {B : Type 0} where
  -- what some objects took before the others
  abbrev pub with_boxes : List (Option B) → Drawn B → Drawn B
  with_boxes boxes (Short kind) = Short kind
  with_boxes boxes (Enough others left) = Enough (boxes ++ others) left

  pub boxes_more : (boxes : List (Option B)) (box : Option B) (d : Drawn B) → with_boxes boxes (with_box_first box d)
      ≡ with_boxes (boxes ++ box ∷ []) d
  boxes_more boxes box (Short kind) = refl
  boxes_more boxes box (Enough others left) =
      ap (λ (l : List (Option B)). Enough l left) (sym (appended boxes others box))

  pub no_boxes : (d : Drawn B) → with_boxes [] d ≡ d
  no_boxes (Short kind) = refl
  no_boxes (Enough others left) = refl

  -- one object's turn
  pub then_none : (G : Ghosts B) (wanted : Option ℕ) (pool : List B) (others : List B → Drawn B) → wanted ≡ None
      → draw_then G wanted pool others ≡ with_box_first None (others pool)
  then_none G wanted pool others is = ap (λ (k : Option ℕ). draw_then G k pool others) is

  pub then_short : (G : Ghosts B) (wanted : Option ℕ) (kind : ℕ) (pool : List B) (others : List B → Drawn B)
      → wanted ≡ Some kind → position (λ box. nat_eq (G.kind_of box) kind) pool ≡ None
      → draw_then G wanted pool others ≡ Short kind
  then_short G wanted kind pool others is none =
      ap (λ (k : Option ℕ). draw_then G k pool others) is
      ∙ ap (λ (p : Option ℕ). draw_others kind (option_and_then (λ place. option_map (λ box. (box, remove pool place)) (slice_get pool place)) p) others) none

  pub then_found : (G : Ghosts B) (wanted : Option ℕ) (kind place : ℕ) (box : B) (pool left : List B) (others : List B
      → Drawn B) → wanted ≡ Some kind → position (λ box. nat_eq (G.kind_of box) kind) pool ≡ Some place
      → slice_get pool place ≡ Some box → left ≡ remove pool place → draw_then G wanted pool others
      ≡ with_box_first (Some box) (others left)
  then_found G wanted kind place box pool left others is first there rest =
      ap (λ (k : Option ℕ). draw_then G k pool others) is
      ∙ ap (λ (p : Option ℕ). draw_others kind (option_and_then (λ place. option_map (λ box. (box, remove pool place)) (slice_get pool place)) p) others) first
      ∙ ap (λ (o : Option B). draw_others kind (option_map (λ box. (box, remove pool place)) o) others) there
      ∙ ap (λ (l : List B). with_box_first (Some box) (others l)) (sym rest)

  -- the turn of the object at a place
  pub draw_turn : (G : Ghosts B) (objects : List SavedObject) (k : ℕ) (object : SavedObject) (pool : List B)
      → drop k objects ≡ object ∷ drop (k + 1) objects → draw_boxes G (drop k objects) pool
      ≡ draw_then G (kind_wanted object) pool (λ left. draw_boxes G (drop (k + 1) objects) left)
  draw_turn G objects k object pool is = ap (λ (os : List SavedObject). draw_boxes G os pool) is

  -- one object more took what it had to, or found no box
  pub drawn_more : (G : Ghosts B) (objects : List SavedObject) (k : ℕ) (object : SavedObject) (boxes more : List (Option B))
      (taken : Option B) (pool left : List B) (d : Drawn B) → drop k objects ≡ object ∷ drop (k + 1) objects
      → d ≡ with_boxes boxes (draw_boxes G (drop k objects) pool)
      → ((others : List B → Drawn B) → draw_then G (kind_wanted object) pool others
      ≡ with_box_first taken (others left)) → more ≡ boxes ++ taken ∷ []
      → d ≡ with_boxes more (draw_boxes G (drop (k + 1) objects) left)
  drawn_more G objects k object boxes more taken pool left d next drawn is all =
      drawn
      ∙ ap (λ (x : Drawn B). with_boxes boxes x) (draw_turn G objects k object pool next ∙ is (λ rest. draw_boxes G (drop (k + 1) objects) rest))
      ∙ boxes_more boxes taken (draw_boxes G (drop (k + 1) objects) left)
      ∙ ap (λ (bs : List (Option B)). with_boxes bs (draw_boxes G (drop (k + 1) objects) left)) (sym all)

  pub drawn_short : (G : Ghosts B) (objects : List SavedObject) (k : ℕ) (object : SavedObject) (boxes : List (Option B))
      (kind : ℕ) (pool : List B) (d : Drawn B) → drop k objects ≡ object ∷ drop (k + 1) objects
      → d ≡ with_boxes boxes (draw_boxes G (drop k objects) pool)
      → ((others : List B → Drawn B) → draw_then G (kind_wanted object) pool others ≡ Short kind) → d ≡ Short kind
  drawn_short G objects k object boxes kind pool d next drawn is =
      drawn ∙ ap (λ (x : Drawn B). with_boxes boxes x) (draw_turn G objects k object pool next ∙ is (λ rest. draw_boxes G (drop (k + 1) objects) rest))

  -- each host object took a box
  pub fit_drawn : (G : Ghosts B) (objects : List SavedObject) (pool : List B) (boxes : List (Option B)) (left : List B)
      → draw_boxes G objects pool ≡ Enough boxes left → AreFit objects boxes
  fit_drawn G [] pool boxes left h = let none : [] ≡ boxes = cc in subst (λ (bs : List (Option B)). AreFit [] bs) none tt
  fit_drawn G (object ∷ objects) pool boxes left h =
      go (λ rest bs l is. fit_drawn G objects rest bs l is) object.body refl h
    where
      step : (box : Option B) (d : Drawn B) → IsSome (with_drawn object.body box)
          → ((bs : List (Option B)) (l : List B) → d ≡ Enough bs l → AreFit objects bs) → with_box_first box d
          ≡ Enough boxes left → AreFit (object ∷ objects) boxes
      step box (Short kind) some later h = absurd (cc)
      step box (Enough bs l) some later h = let is : box ∷ bs ≡ boxes = cc in subst (λ (ys : List (Option B)). AreFit (object ∷ objects) ys) is (some, later bs l refl)

      taking : ((rest : List B) (bs : List (Option B)) (l : List B) → draw_boxes G objects rest ≡ Enough bs l
          → AreFit objects bs) → (kind : ℕ) (t : Option (B × List B))
          → ((box : B) → IsSome (with_drawn object.body (Some box)))
          → draw_others kind t (λ rest. draw_boxes G objects rest) ≡ Enough boxes left
          → AreFit (object ∷ objects) boxes
      taking later kind None some h = absurd (cc)
      taking later kind (Some t) some h = step (Some t.0) (draw_boxes G objects t.1) (some t.0) (later t.1) h

      at : (body : Body SavedHostObject) → object.body ≡ body → draw_boxes G (object ∷ objects) pool ≡ Enough boxes left
          → draw_then G (option_map (λ saved. saved.kind) (box_of body)) pool (λ rest. draw_boxes G objects rest)
          ≡ Enough boxes left
      at body is h =
          subst (λ (b : Body SavedHostObject). draw_then G (option_map (λ saved. saved.kind) (box_of b)) pool
          (λ rest. draw_boxes G objects rest) ≡ Enough boxes left) is h

      go : ((rest : List B) (bs : List (Option B)) (l : List B) → draw_boxes G objects rest ≡ Enough bs l
          → AreFit objects bs) → (body : Body SavedHostObject) → object.body ≡ body → draw_boxes G (object ∷ objects) pool
          ≡ Enough boxes left → AreFit (object ∷ objects) boxes
      go later (Script script) is h =
          step None (draw_boxes G objects pool)
          (subst (λ (b : Body SavedHostObject). IsSome (with_drawn {B = B} b None)) (sym is) refl) (later pool)
          (at (Script script) is h)
      go later (Array array) is h =
          step None (draw_boxes G objects pool)
          (subst (λ (b : Body SavedHostObject). IsSome (with_drawn {B = B} b None)) (sym is) refl) (later pool)
          (at (Array array) is h)
      go later (Host saved) is h =
          taking later saved.kind (draw_box G saved.kind pool)
          (λ box. subst (λ (b : Body SavedHostObject). IsSome (with_drawn b (Some box))) (sym is) refl)
          (at (Host saved) is h)

  pub fit_length : (objects : List SavedObject) (boxes : List (Option B)) → AreFit objects boxes
      → length boxes ≡ length objects
  fit_length [] [] fit = refl
  fit_length [] (box ∷ boxes) fit = absurd fit
  fit_length (object ∷ objects) [] fit = absurd fit
  fit_length (object ∷ objects) (box ∷ boxes) fit = ap suc (fit_length objects boxes fit.1)

  -- what a box became is something where the box was
  restored_fit : (G : Ghosts B) (body : Body SavedHostObject) (one other : Option B) → RestoresBox G body one other
      → IsSome (with_drawn body one) → IsSome (with_drawn body other)
  restored_fit G (Script script) one other back some = refl
  restored_fit G (Array array) one other back some = refl
  restored_fit G (Host saved) None other back some = absurd (cc)
  restored_fit G (Host saved) (Some box) other back some =
      subst (λ (o : Option B). IsSome (with_drawn (Host saved) o)) (sym back.1) refl

  -- an object and what became of what it took
  body_joined : (G : Ghosts B) (body : Body SavedHostObject) (one other : Option B) (out : Body B)
      → RestoresBox G body one other → with_drawn body other ≡ Some out → IsBody G body one out
  body_joined G (Script script) one other out back is = cc
  body_joined G (Array array) one other out back is = cc
  body_joined G (Host saved) None other out back is =
      let none : with_drawn (Host saved) other ≡ None = ap (λ (o : Option B). with_drawn (Host saved) o) back in absurd (cc)
  body_joined G (Host saved) (Some box) other out back is =
      let some : with_drawn (Host saved) other ≡ Some (Host back.0) = ap (λ (o : Option B). with_drawn (Host saved) o) back.1 in
      let same : out ≡ Host back.0 = cc in
      (back.0, same, back.2)

  -- the same after the first of them
  boxes_after : (G : Ghosts B) (object : SavedObject) (objects : List SavedObject) (one other : Option B)
      (before after : List (Option B)) → RestoresBoxes G (object ∷ objects) (one ∷ before) (other ∷ after)
      → RestoresBoxes G objects before after
  boxes_after G object objects one other before after back = let all = back.many in record {
    many = omega (arith, all);
    each = λ place. back.each (suc place);
  }

  -- the boxes still fit once they are restored
  pub fit_restored : (G : Ghosts B) (objects : List SavedObject) (before after : List (Option B)) → AreFit objects before
      → RestoresBoxes G objects before after → AreFit objects after
  fit_restored G [] [] [] fit back = tt
  fit_restored G [] [] (other ∷ after) fit back = let many = back.many in absurd (cc)
  fit_restored G [] (one ∷ before) after fit back = absurd fit
  fit_restored G (object ∷ objects) [] after fit back = absurd fit
  fit_restored G (object ∷ objects) (one ∷ before) [] fit back = let many = back.many in absurd (cc)
  fit_restored G (object ∷ objects) (one ∷ before) (other ∷ after) fit back = (
    restored_fit G object.body one other (back.each zero object one other refl refl refl) fit.0,
    fit_restored G objects before after fit.1 (boxes_after G object objects one other before after back),
  )

  -- what the objects are in the table is what they were stored as
  pub bodies_put : (G : Ghosts B) (objects : List SavedObject) (before after : List (Option B))
      (entries : List (ℕ × SlotEntry B)) → AreFit objects before → RestoresBoxes G objects before after
      → AreInserted objects after entries → AreBodies G objects before (map (λ e. (e.0, (e.1.item).body)) entries)
  bodies_put G [] [] [] [] fit back put = tt
  bodies_put G [] (one ∷ before) after entries fit back put = absurd fit
  bodies_put G [] [] [] (e ∷ entries) fit back put = absurd put
  bodies_put G [] [] (other ∷ after) entries fit back put = absurd put
  bodies_put G (object ∷ objects) [] after entries fit back put = absurd fit
  bodies_put G (object ∷ objects) (one ∷ before) [] entries fit back put = absurd put
  bodies_put G (object ∷ objects) (one ∷ before) (other ∷ after) [] fit back put = absurd put
  bodies_put G (object ∷ objects) (one ∷ before) (other ∷ after) (e ∷ entries) fit back put = (
    put.0,
    body_joined G object.body one other (e.1.item).body (back.each zero object one other refl refl refl) put.1,
    bodies_put G objects before after entries fit.1 (boxes_after G object objects one other before after back) put.3,
  )
