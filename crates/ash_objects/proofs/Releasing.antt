-- Uncounting the handles among words.
use Rattle.std.proofs.Common.{◌≡◌, ℕ, Bool, true, false, cond, List, [], ◌∷◌, refl, ap, ◌∙◌, nat_eq, arith, Option, Some, None, length, ◌+◌, ◌≤◌, ◌<◌, subst}
use Rattle.std.specs.Prelude.{IfSome, sum_by}
use Rattle.std.specs.Option.{option_map_or}
use Rattle.std.proofs.lemmas.Bool.{eq-eqb}
use Rattle.std.proofs.lemmas.List.Sums.{sum_by-cons}
use Rattle.ash_host.specs.declared.word.Word.{Word}
use Rattle.ash_host.specs.Objects.{object_at, IsInOrder, handles_to, handle}
use Rattle.ash_slots.specs.Store.{SlotEntry, change_at}
use Rattle.ash_objects.specs.Counting.{fields_in, release_all, face_at}
use Rattle.ash_slots.specs.SlotCounting.{counted, decremented, change_handle}
use Rattle.ash_objects.specs.Collecting.{mark_of}
use Rattle.ash_objects.proofs.Handles.{hits}
use Rattle.ash_objects.proofs.Fields.{handle_face, handle_fields, handle_order, handle_length, handle_each, less_handle}
use Rattle.ash_objects.proofs.Referring.{handles-cons}

-- a sum over entries, after a change that leaves what is summed
pub sum_entries-change : {A : Type 0} (g : ℕ × A → ℕ) (n : ℕ) (f : A → A) → ((k : ℕ) (x : A) → g (k, f x) ≡ g (k, x))
    → (l : List (ℕ × A)) → sum_by g (change_at n f l) ≡ sum_by g l
sum_entries-change g n f same [] = refl
sum_entries-change {A} g n f same (e ∷ l) =
    let now = sum_by-cons g (e.0, cond (nat_eq n e.0) (f e.1) e.1) (change_at n f l) in
    let was = sum_by-cons g e l in
    omega (arith, now, was, each (nat_eq n e.0), sum_entries-change g n f same l)
  where
    each : (b : Bool) → g (e.0, cond b (f e.1) e.1) ≡ g e
    each true = same e.0 e.1
    each false = refl

module _ {B : Type 0} where
  -- the handle that is first among words that are counted is counted
  pub covers_first : (w : Word) (ws : List Word) (l : List (ℕ × SlotEntry B))
      → ((m : ℕ) → handles_to m (w ∷ ws) ≤ counted m l) → IfSome (handle w) (λ k. 0 < counted k l)
  covers_first w ws l covers = go (handle w) refl
    where
      go : (h : Option ℕ) → handle w ≡ h → IfSome h (λ k. 0 < counted k l)
      go None is = tt
      go (Some k) is =
          let hit : hits (handle w) k ≡ 1 = ap (λ (h : Option ℕ). hits h k) is ∙ ap (λ (b : Bool). cond {A = ℕ} b 1 0) (eq-eqb k k refl) in
          omega (arith, hit, handles-cons k w ws, covers k)

  pub covers_rest : (w : Word) (ws : List Word) (l : List (ℕ × SlotEntry B))
      → ((m : ℕ) → handles_to m (w ∷ ws) ≤ counted m l) → (m : ℕ)
      → handles_to m ws ≤ counted m (change_handle decremented (handle w) l)
  covers_rest w ws l covers m =
      omega (arith, less_handle (handle w) m l (covers_first w ws l covers), handles-cons m w ws, covers m)

  -- what uncounting the handles among words leaves of each object
  pub released_face : (ws : List Word) (m : ℕ) (l : List (ℕ × SlotEntry B)) → face_at m (release_all ws l) ≡ face_at m l
  released_face [] m l = refl
  released_face (w ∷ ws) m l =
      released_face ws m (change_handle decremented (handle w) l) ∙ handle_face decremented (λ p. refl) (handle w) m l

  pub released_fields : (ws : List Word) (m : ℕ) (l : List (ℕ × SlotEntry B)) → fields_in m (release_all ws l)
      ≡ fields_in m l
  released_fields [] m l = refl
  released_fields (w ∷ ws) m l =
      released_fields ws m (change_handle decremented (handle w) l) ∙ handle_fields decremented (λ p. refl) (handle w) m l

  pub released_order : (ws : List Word) (l : List (ℕ × SlotEntry B)) → IsInOrder l → IsInOrder (release_all ws l)
  released_order [] l o = o
  released_order (w ∷ ws) l o =
      released_order ws (change_handle decremented (handle w) l) (handle_order decremented (λ p. refl) (handle w) l o)

  pub released_length : (ws : List Word) (l : List (ℕ × SlotEntry B)) → length (release_all ws l) ≡ length l
  released_length [] l = refl
  released_length (w ∷ ws) l =
      released_length ws (change_handle decremented (handle w) l) ∙ handle_length decremented (λ p. refl) (handle w) l

  pub released_marks : (measure : ℕ × Bool → ℕ) (ws : List Word) (l : List (ℕ × SlotEntry B))
      → sum_by (λ e. measure (mark_of e)) (release_all ws l) ≡ sum_by (λ e. measure (mark_of e)) l
  released_marks measure [] l = refl
  released_marks measure (w ∷ ws) l = released_marks measure ws (change_handle decremented (handle w) l) ∙ one (handle w)
    where
      one : (h : Option ℕ) → sum_by (λ e. measure (mark_of e)) (change_handle decremented h l)
          ≡ sum_by (λ e. measure (mark_of e)) l
      one None = refl
      one (Some k) = sum_entries-change (λ e. measure (mark_of e)) k decremented (λ j x. refl) l

  pub released_each : (P : SlotEntry B → Type 0) (ws : List Word) (l : List (ℕ × SlotEntry B))
      → ((m : ℕ) → handles_to m ws ≤ counted m l) → ((p : SlotEntry B) → 0 < (p.item).count → P p → P (decremented p))
      → ((m : ℕ) → IfSome (object_at m l) P) → (m : ℕ) → IfSome (object_at m (release_all ws l)) P
  released_each P [] l covers keeps each = each
  released_each P (w ∷ ws) l covers keeps each = released_each P ws (change_handle decremented (handle w) l) (covers_rest w ws l covers) keeps (handle_each decremented (λ p. refl) P (handle w) l (λ p k h is. keeps p (some p k h is)) each)
    where
      some : (p : SlotEntry B) (k : ℕ) → handle w ≡ Some k → object_at k l ≡ Some p → 0 < (p.item).count
      some p k h is =
          let counts : 0 < counted k l = subst (λ (v : Option ℕ). IfSome v (λ j. 0 < counted j l)) h (covers_first w ws l covers) in
          let mine = ap (λ (v : Option (SlotEntry B)). option_map_or (λ object. (object.item).count) v 0) is in
          omega (arith, counts, mine)

  -- each count falls by the handles
  pub released_counted : (ws : List Word) (m : ℕ) (l : List (ℕ × SlotEntry B))
      → ((k : ℕ) → handles_to k ws ≤ counted k l) → counted m (release_all ws l) + handles_to m ws ≡ counted m l
  released_counted [] m l covers = omega arith
  released_counted (w ∷ ws) m l covers =
      let first = less_handle (handle w) m l (covers_first w ws l covers) in
      let rest = released_counted ws m (change_handle decremented (handle w) l) (covers_rest w ws l covers) in
      omega (arith, first, rest, handles-cons m w ws)
