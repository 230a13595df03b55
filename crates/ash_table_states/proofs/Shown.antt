-- Objects of a table as a state has them, and as an image has them.
use Rattle.std.proofs.Common.{◌≡◌, ℕ, List, [], ◌∷◌, map, nat_eq, true, refl, sym, ap, ◌∙◌, subst}
use Rattle.std.specs.Prelude.{Option, Some, None, slice_get}
use Rattle.std.specs.Option.{option_map, option_and_then}
use Rattle.std.specs.List.{AllZip, remove, position}
use Rattle.std.proofs.lemmas.Bool.{eqb-true}
use Rattle.std.proofs.lemmas.List.Quantifiers.{position-Some}
use Rattle.std.proofs.lemmas.Option.{get_or_from_slice_get}
use Rattle.ash_host.specs.declared.host_object.HostObject.{Ghosts}
use Rattle.ash_host.specs.declared.element.ElementTag.{ElementTag}
use Rattle.ash_host.specs.declared.element.ElementTag.TheVariants as tags
use Rattle.ash_host.specs.ElementTags.{element_of}
use Rattle.ash_host.specs.Objects.{Elements, Plain, LiveObjects, Host as PlainHost, Array as PlainArray}
use Rattle.ash_slots.specs.declared.body.Body.{Body}
use Rattle.ash_slots.specs.declared.body.Body.TheVariants.{Script, Array, Host}
use Rattle.ash_slots.specs.SlotResponses.{box_of}
use Rattle.ash_objects.specs.declared.restoring.SavedObject.{SavedObject}
use Rattle.ash_objects.specs.declared.restoring.SavedHostObject.{SavedHostObject}
use Rattle.ash_objects.specs.Table.{Living}
use Rattle.ash_objects.specs.Restoring.{Drawn, Short, Enough, kind_wanted, draw_box, draw_others, draw_boxes, with_box_first, IsBody, AreBodies, bodies_of}
use Rattle.ash_object_ranks.specs.ShownTables.{SlotNames, elements_shown, body_shown, objects_shown}
use Rattle.ash_states.specs.Images.{element_named, plain_named, entry_named}
use Rattle.ash_states.specs.Indexes.{element_indexed, plain_indexed, entry_indexed}
use Rattle.ash_table_states.specs.SavedObjects.{body_saved, entry_saved}
use Rattle.ash_table_states.specs.WrittenObjects.{element_written, body_written, objects_written}

-- as an image has them

element_same : (index : ℕ → ℕ) (names : SlotNames) (by : List ℕ → ℕ) (tag : ElementTag) → ((slot : ℕ) → index slot ≡ by (names slot))
    → element_written index tag ≡ element_indexed by (elements_shown names tag)
element_same index names by tags.Bool same = refl
element_same index names by tags.Int same = refl
element_same index names by tags.Uint same = refl
element_same index names by tags.Int64 same = refl
element_same index names by tags.Uint64 same = refl
element_same index names by (tags.Class slot place) same = ap (λ (n : ℕ). Rattle.ash_host.specs.Objects.Handles n place) (same slot)
element_same index names by (tags.Kind kind) same = refl

module _ {B : Type 0} (G : Ghosts B) where
  body_same : (index : ℕ → ℕ) (names : SlotNames) (by : List ℕ → ℕ) (body : Body B) → ((slot : ℕ) → index slot ≡ by (names slot))
      → body_written G index body ≡ plain_indexed by (body_shown G names body)
  body_same index names by (Script script) same = ap (λ (n : ℕ). Rattle.ash_host.specs.Objects.Script n script.class script.fields) (same script.module)
  body_same index names by (Array array) same = ap (λ (of : Elements ℕ). PlainArray of array.elements) (element_same index names by array.element same)
  body_same index names by (Host box) same = refl

  -- if indexes are those of names, what is written is what is shown
  pub written_same : (index : ℕ → ℕ) (names : SlotNames) (by : List ℕ → ℕ) (objects : List (ℕ × Living B)) → ((slot : ℕ) → index slot ≡ by (names slot))
      → objects_written G index (bodies_of objects) ≡ map (entry_indexed by) (objects_shown G names objects)
  written_same index names by [] same = refl
  written_same index names by (e ∷ objects) same =
      ap (λ (o : Plain ℕ). (e.0, o) ∷ objects_written G index (bodies_of objects)) (body_same index names by (e.1).body same)
      ∙ ap (λ (os : LiveObjects ℕ). (e.0, plain_indexed by (body_shown G names (e.1).body)) ∷ os) (written_same index names by objects same)

-- names that are the same for each slot

element_named_same : (f g : ℕ → List ℕ) → ((slot : ℕ) → f slot ≡ g slot) → (tag : ElementTag) → elements_shown f tag ≡ element_named g (element_of tag)
element_named_same f g same tags.Bool = refl
element_named_same f g same tags.Int = refl
element_named_same f g same tags.Uint = refl
element_named_same f g same tags.Int64 = refl
element_named_same f g same tags.Uint64 = refl
element_named_same f g same (tags.Class slot place) = ap (λ (n : List ℕ). Rattle.ash_host.specs.Objects.Handles n place) (same slot)
element_named_same f g same (tags.Kind kind) = refl

module _ {B : Type 0} (G : Ghosts B) where
  -- a box of the kind that an object wants; none if it wants none
  abbrev pub IsOfKind : Option ℕ → Option B → Type 0
  IsOfKind (Some kind) (Some box) = G.kind_of box ≡ kind
  IsOfKind None None = Unit {0}
  IsOfKind None (Some box) = ⊥
  IsOfKind (Some kind) None = ⊥

  abbrev pub IsTaken : SavedObject → Option B → Type 0
  IsTaken object box = IsOfKind (kind_wanted object) box

  -- the box that is drawn is of its kind
  pub kind_drawn : (kind : ℕ) (pool : List B) (taken : B × List B) → draw_box G kind pool ≡ Some taken → G.kind_of taken.0 ≡ kind
  kind_drawn kind pool taken is = by (position (λ box. nat_eq (G.kind_of box) kind) pool) refl is
    where
      at : (place : ℕ) (o : Option B) → position (λ box. nat_eq (G.kind_of box) kind) pool ≡ Some place → slice_get pool place ≡ o
          → option_map (λ box. (box, remove pool place)) o ≡ Some taken → G.kind_of taken.0 ≡ kind
      at place None found there is = absurd (cc)
      at place (Some box) found there is =
          let same : box ≡ taken.0 = cc in
          let passes = (position-Some (λ x. nat_eq (G.kind_of x) kind) pool place box found).1 in
          let here = get_or_from_slice_get pool place box box there in
          let of : nat_eq (G.kind_of box) kind ≡ true = ap (λ (x : B). nat_eq (G.kind_of x) kind) (sym here) ∙ passes in
          ap G.kind_of (sym same) ∙ eqb-true (G.kind_of box) kind of

      by : (p : Option ℕ) → position (λ box. nat_eq (G.kind_of box) kind) pool ≡ p
          → option_and_then (λ place. option_map (λ box. (box, remove pool place)) (slice_get pool place)) p ≡ Some taken → G.kind_of taken.0 ≡ kind
      by None found is = absurd (cc)
      by (Some place) found is = at place (slice_get pool place) found refl is

  -- each host object took a box of its kind
  pub kinds_drawn : (objects : List SavedObject) (pool : List B) (boxes : List (Option B)) (left : List B) → draw_boxes G objects pool ≡ Enough boxes left
      → AllZip IsTaken objects boxes
  kinds_drawn [] pool boxes left h = let none : [] ≡ boxes = cc in subst (λ (bs : List (Option B)). AllZip IsTaken [] bs) none tt
  kinds_drawn (object ∷ objects) pool boxes left h = by (kind_wanted object) refl (λ rest bs l is. kinds_drawn objects rest bs l is) h
    where
      Later : Type 0
      Later = (rest : List B) (bs : List (Option B)) (l : List B) → draw_boxes G objects rest ≡ Enough bs l → AllZip IsTaken objects bs

      step : (box : Option B) (d : Drawn B) → IsTaken object box → ((bs : List (Option B)) (l : List B) → d ≡ Enough bs l → AllZip IsTaken objects bs)
          → with_box_first box d ≡ Enough boxes left → AllZip IsTaken (object ∷ objects) boxes
      step box (Short kind) of later h = absurd (cc)
      step box (Enough bs l) of later h =
          let is : box ∷ bs ≡ boxes = cc in
          subst (λ (ys : List (Option B)). AllZip IsTaken (object ∷ objects) ys) is (of, later bs l refl)

      taking : (kind : ℕ) (t : Option (B × List B)) → kind_wanted object ≡ Some kind → draw_box G kind pool ≡ t → Later
          → draw_others kind t (λ rest. draw_boxes G objects rest) ≡ Enough boxes left → AllZip IsTaken (object ∷ objects) boxes
      taking kind None wanted is later h = absurd (cc)
      taking kind (Some t) wanted is later h =
          step (Some t.0) (draw_boxes G objects t.1) (subst (λ (w : Option ℕ). IsOfKind w (Some t.0)) (sym wanted) (kind_drawn kind pool t is)) (later t.1) h

      by : (w : Option ℕ) → kind_wanted object ≡ w → Later → Rattle.ash_objects.specs.Restoring.draw_then G w pool (λ rest. draw_boxes G objects rest) ≡ Enough boxes left
          → AllZip IsTaken (object ∷ objects) boxes
      by None wanted later h =
          step None (draw_boxes G objects pool) (subst (λ (w : Option ℕ). IsOfKind w None) (sym wanted) tt) (later pool) h
      by (Some kind) wanted later h = taking kind (draw_box G kind pool) wanted refl later h

  -- what a restored object shows is what was saved
  body_named : (f g : ℕ → List ℕ) → ((slot : ℕ) → f slot ≡ g slot) → (saved : Body SavedHostObject) (box : Option B) (body : Body B)
      → IsOfKind (option_map (λ s. s.kind) (box_of saved)) box → IsBody G saved box body
      → body_shown G f body ≡ plain_named g (body_saved saved)
  body_named f g same (Script script) box body of is =
      ap (body_shown G f) is ∙ ap (λ (n : List ℕ). Rattle.ash_host.specs.Objects.Script n script.class script.fields) (same script.module)
  body_named f g same (Array array) box body of is =
      ap (body_shown G f) is ∙ ap (λ (e : Elements (List ℕ)). PlainArray e array.elements) (element_named_same f g same array.element)
  body_named f g same (Host saved) None body of is = absurd is
  body_named f g same (Host saved) (Some before) body of (after, is, restored) =
      ap (body_shown G f) is
      ∙ ap (λ (kind : ℕ). PlainHost kind (G.state after)) (restored.same_kind ∙ of)
      ∙ ap (λ (state : List ℕ). PlainHost saved.kind state) restored.has

  pub bodies_named : (f g : ℕ → List ℕ) → ((slot : ℕ) → f slot ≡ g slot) → (saved : List SavedObject) (boxes : List (Option B)) (objects : List (ℕ × Living B))
      → AllZip IsTaken saved boxes → AreBodies G saved boxes (bodies_of objects)
      → objects_shown G f objects ≡ map (entry_named g) (map entry_saved saved)
  bodies_named f g same [] [] [] of are = refl
  bodies_named f g same [] [] (e ∷ objects) of are = absurd are
  bodies_named f g same [] (box ∷ boxes) objects of are = absurd are
  bodies_named f g same (one ∷ saved) [] objects of are = absurd are
  bodies_named f g same (one ∷ saved) (box ∷ boxes) [] of are = absurd are
  bodies_named f g same (one ∷ saved) (box ∷ boxes) (e ∷ objects) of are =
      ap (λ (n : ℕ). (n, body_shown G f (e.1).body) ∷ objects_shown G f objects) are.0
      ∙ ap (λ (o : Plain (List ℕ)). (one.number, o) ∷ objects_shown G f objects) (body_named f g same one.body box (e.1).body of.0 are.1)
      ∙ ap (λ (os : LiveObjects (List ℕ)). (one.number, plain_named g (body_saved one.body)) ∷ os) (bodies_named f g same saved boxes objects of.1 are.2)
