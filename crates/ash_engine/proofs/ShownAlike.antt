-- Objects of modules that are known, shown by other names.
use Rattle.std.proofs.Common.{◌≡◌, ℕ, Bool, true, false, cond, List, [], ◌∷◌, map, refl, sym, ap, ◌∙◌, subst, nat_eq, arith}
use Rattle.std.specs.Prelude.{Option, Some, None, IsSome, is_some}
use Rattle.std.specs.List.{AllByRecursion}
use Rattle.std.proofs.lemmas.Bool.Decides.{nat_tests}
use Rattle.ash_host.specs.declared.host_object.HostObject.{Ghosts}
use Rattle.ash_host.specs.declared.element.ElementTag.{ElementTag}
use Rattle.ash_host.specs.declared.element.ElementTag.TheVariants as tags
use Rattle.ash_host.specs.declared.word.Word.{Word}
use Rattle.ash_host.specs.Objects.{Elements, Plain, Script, Array, Host, Handles, LiveObjects, object_at, IsInOrder}
use Rattle.ash_host.proofs.Order.{in_order_after}
use Rattle.ash_integers.specs.declared.int_type.IntType.TheVariants as ints
use Rattle.ash_typed.specs.declared.types.Element as typed_element
use Rattle.ash_typed.specs.declared.types.Element.TheVariants as elements
use Rattle.ash_meaning.specs.Classes.{Program, element_of}
use Rattle.ash_slots.specs.declared.body.Body.{Body}
use Rattle.ash_slots.specs.declared.body.Body.TheVariants as bodies
use Rattle.ash_slots.proofs.Changing.{none_later}
use Rattle.ash_objects.specs.Table.{Living}
use Rattle.ash_object_ranks.specs.ShownTables.{SlotNames, elements_shown, body_shown, objects_shown}
use Rattle.ash_soundness.specs.WellFormed.{Known, IsKnownFor, IsArray, IsObject, is_script, is_array, is_host, AreObjects}

-- what holds of each object by its number holds of each in the list
module _ {X : Type 0} (P : X → Type 0) where
  later_at : (n : ℕ) (x : X) (e : ℕ × X) (l : List (ℕ × X)) → IsInOrder (e ∷ l) → object_at n l ≡ Some x → object_at n (e ∷ l) ≡ Some x
  later_at n x e l o at = go (nat_eq n e.0) refl
    where
      go : (b : Bool) → nat_eq n e.0 ≡ b → cond b (Some e.1) (object_at n l) ≡ Some x
      go true here = let none = none_later n e l o here in absurd (cc)
      go false here = at

  pub each_object : (l : List (ℕ × X)) → IsInOrder l → ((n : ℕ) (x : X) → object_at n l ≡ Some x → P x) → AllByRecursion (λ (e : ℕ × X). P e.1) l
  each_object [] o each = tt
  each_object (e ∷ l) o each =
      let own : nat_eq e.0 e.0 ≡ true = grind (arith, nat_tests) in (
        each e.0 e.1 (ap (λ (b : Bool). cond b (Some e.1) (object_at e.0 l)) own),
        each_object l (in_order_after e l o) (λ n x at. each n x (later_at n x e l o at)),
      )

module _ {B : Type 0} (G : Ghosts B) (known : Known) (one other : SlotNames) (agree : (slot : ℕ) → IsSome (known (one slot)) → other slot ≡ one slot) where
  handles_alike : (slot index : ℕ) (p : Program) (e : typed_element.Element) → IsKnownFor known p e → Handles (one slot) index ≡ element_of p e
      → Handles (other slot) index ≡ Handles (one slot) index
  handles_alike slot index p elements.Bool k is = absurd (cc)
  handles_alike slot index p (elements.Integer ints.Int) k is = absurd (cc)
  handles_alike slot index p (elements.Integer ints.Uint) k is = absurd (cc)
  handles_alike slot index p (elements.Integer ints.Int64) k is = absurd (cc)
  handles_alike slot index p (elements.Integer ints.Uint64) k is = absurd (cc)
  handles_alike slot index p (elements.Class class) k is =
      let name : one slot ≡ p.name = cc in
      ap (λ (n : List ℕ). Handles n index) (agree slot (subst (λ (n : List ℕ). IsSome (known n)) (sym name) (ap is_some k)))
  handles_alike slot index p (elements.Interface interface) k is =
      let name : one slot ≡ p.name = cc in
      ap (λ (n : List ℕ). Handles n index) (agree slot (subst (λ (n : List ℕ). IsSome (known n)) (sym name) (ap is_some k)))
  handles_alike slot index p (elements.Host kind) k is = absurd (cc)

  elements_alike : (tag : ElementTag) (p : Program) (e : typed_element.Element) → IsKnownFor known p e → elements_shown one tag ≡ element_of p e
      → elements_shown other tag ≡ elements_shown one tag
  elements_alike tags.Bool p e k is = refl
  elements_alike tags.Int p e k is = refl
  elements_alike tags.Uint p e k is = refl
  elements_alike tags.Int64 p e k is = refl
  elements_alike tags.Uint64 p e k is = refl
  elements_alike (tags.Class slot index) p e k is = handles_alike slot index p e k is
  elements_alike (tags.Kind kind) p e k is = refl

  body_alike : (all : LiveObjects (List ℕ)) (body : Body B) → IsObject known all (body_shown G one body) → body_shown G other body ≡ body_shown G one body
  body_alike all (bodies.Script script) (is_script h) = ap (λ (n : List ℕ). Script n script.class script.fields) (agree script.module (ap is_some h.known))
  body_alike all (bodies.Array array) (is_array h) = ap (λ (of : Elements (List ℕ)). Array of array.elements) (elements_alike array.element h.program h.element h.known h.is)
  body_alike all (bodies.Host box) h = refl

  list_alike : (all : LiveObjects (List ℕ)) (l : List (ℕ × Living B)) → AllByRecursion (λ (e : ℕ × Plain (List ℕ)). IsObject known all e.1) (objects_shown G one l)
      → objects_shown G other l ≡ objects_shown G one l
  list_alike all [] h = refl
  list_alike all (e ∷ l) h = (λ i. (e.0, body_alike all (e.1).body h.0 i) ∷ list_alike all l h.1 i)

  -- objects of modules that are known are shown alike by names that agree on these
  pub shown_alike : (l : List (ℕ × Living B)) → IsInOrder (objects_shown G one l) → AreObjects known (objects_shown G one l) → objects_shown G other l ≡ objects_shown G one l
  shown_alike l o h = list_alike (objects_shown G one l) l (each_object (IsObject known (objects_shown G one l)) (objects_shown G one l) o h.each)
