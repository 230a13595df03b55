-- Objects that are put into their slots, the last first.
use Rattle.std.proofs.Common.{◌≡◌, ℕ, Bool, true, false, cond, List, [], ◌∷◌, refl, sym, subst, ap, ◌∙◌, nat_eq, arith, Option, Some, None, length, zero, suc, ◌+◌, ◌≤◌, ◌++◌, take, drop}
use Rattle.std.specs.Prelude.{IsSome, IfSome, slice_get}
use Rattle.std.specs.Option.{option_map}
use Rattle.std.specs.Ordering.{nat_cmp, match_ordering}
use Rattle.std.specs.List.Sorted.{IsStrictlyIncreasing, IsStrictlySortedBy}
use Rattle.std.proofs.lemmas.Bool.{eq-eqb}
use Rattle.std.proofs.lemmas.List.{drop-map, length-append, length-take, take_all, drop_all}
use Rattle.std.proofs.lemmas.Map.Keys.{sorted_from_strictly_increasing}
use Rattle.ash_host.specs.Objects.{object_at, numbers, IsInOrder, with_at}
use Rattle.ash_host.proofs.Order.{none_after, in_order_after}
use Rattle.ash_slots.specs.declared.body.Body.{Body}
use Rattle.ash_slots.specs.declared.body.Body.TheVariants.{Script, Array, Host}
use Rattle.ash_slots.specs.Bodies.{words_of}
use Rattle.ash_slots.specs.Store.{SlotEntry}
use Rattle.ash_objects.specs.declared.restoring.SavedObject.{SavedObject}
use Rattle.ash_objects.specs.declared.restoring.SavedHostObject.{SavedHostObject}
use Rattle.ash_objects.specs.Restoring.{stored_in, with_drawn, AreFit, IsFresh, AreInserted}
use Rattle.ash_objects.proofs.Pointwise.{IsPopped, popped}
use Rattle.ash_objects.proofs.Drawing.{fit_length}

-- an entry before all others is put before them
pub with_at_first : {A : Type 0} (n : ℕ) (p : A) (l : List (ℕ × A)) → IsStrictlySortedBy nat_cmp (n ∷ numbers l)
    → with_at n p l ≡ (n, p) ∷ l
unfolding IsStrictlySortedBy
with_at_first n p [] s = refl
with_at_first n p (f ∷ l) s = ap (λ o. match_ordering o ((n, p) ∷ f ∷ l) ((f.0, p) ∷ l) (f ∷ with_at n p l)) s.0.0

-- what comes after some of the objects is in order
pub order_drop : {A : Type 0} (k : ℕ) (l : List (ℕ × A)) → IsInOrder l → IsInOrder (drop k l)
order_drop zero l o = o
order_drop (suc k) [] o = o
order_drop (suc k) (e ∷ l) o = order_drop k l (in_order_after e l o)

module _ {B : Type 0} where
  -- words of what was put
  pub words_joined : (body : Body SavedHostObject) (taken : Option B) (out : Body B) → with_drawn body taken ≡ Some out
      → words_of out ≡ words_of body
  words_joined (Script script) taken out is = let same : out ≡ Script script = cc in ap (λ (b : Body B). words_of b) same
  words_joined (Array array) taken out is = let same : out ≡ Array array = cc in ap (λ (b : Body B). words_of b) same
  words_joined (Host saved) None out is = absurd (cc)
  words_joined (Host saved) (Some box) out is = let same : out ≡ Host box = cc in ap (λ (b : Body B). words_of b) same

  pub put_numbers : (objects : List SavedObject) (boxes : List (Option B)) (l : List (ℕ × SlotEntry B))
      → AreInserted objects boxes l → numbers l ≡ numbers (stored_in objects)
  put_numbers [] [] [] put = refl
  put_numbers [] [] (e ∷ l) put = absurd put
  put_numbers [] (box ∷ boxes) l put = absurd put
  put_numbers (object ∷ objects) [] l put = absurd put
  put_numbers (object ∷ objects) (box ∷ boxes) [] put = absurd put
  put_numbers (object ∷ objects) (box ∷ boxes) (e ∷ l) put =
      ap (λ (n : ℕ). n ∷ numbers l) put.0 ∙ ap (λ (ns : List ℕ). object.number ∷ ns) (put_numbers objects boxes l put.3)

  pub put_length : (objects : List SavedObject) (boxes : List (Option B)) (l : List (ℕ × SlotEntry B))
      → AreInserted objects boxes l → length l ≡ length objects
  put_length [] [] [] put = refl
  put_length [] [] (e ∷ l) put = absurd put
  put_length [] (box ∷ boxes) l put = absurd put
  put_length (object ∷ objects) [] l put = absurd put
  put_length (object ∷ objects) (box ∷ boxes) [] put = absurd put
  put_length (object ∷ objects) (box ∷ boxes) (e ∷ l) put = ap suc (put_length objects boxes l put.3)

  pub put_words : (m : ℕ) (objects : List SavedObject) (boxes : List (Option B)) (l : List (ℕ × SlotEntry B))
      → AreInserted objects boxes l → option_map (λ p. words_of (p.item).body) (object_at m l)
      ≡ option_map (λ body. words_of body) (object_at m (stored_in objects))
  put_words m [] [] [] put = refl
  put_words m [] [] (e ∷ l) put = absurd put
  put_words m [] (box ∷ boxes) l put = absurd put
  put_words m (object ∷ objects) [] l put = absurd put
  put_words m (object ∷ objects) (box ∷ boxes) [] put = absurd put
  put_words m (object ∷ objects) (box ∷ boxes) (e ∷ l) put =
      ap (λ (k : ℕ). option_map (λ p. words_of (p.item).body) (cond (nat_eq m k) (Some e.1) (object_at m l))) put.0
      ∙ go (nat_eq m object.number) (put_words m objects boxes l put.3)
    where
      go : (b : Bool) → option_map (λ p. words_of (p.item).body) (object_at m l)
          ≡ option_map (λ body. words_of body) (object_at m (stored_in objects))
          → option_map (λ p. words_of (p.item).body) (cond b (Some e.1) (object_at m l))
          ≡ option_map (λ body. words_of body) (cond b (Some object.body) (object_at m (stored_in objects)))
      go true later = ap Some (words_joined object.body box (e.1.item).body put.1)
      go false later = later

  pub put_fresh : (m : ℕ) (objects : List SavedObject) (boxes : List (Option B)) (l : List (ℕ × SlotEntry B))
      → AreInserted objects boxes l → IfSome (object_at m l) IsFresh
  put_fresh m [] [] [] put = tt
  put_fresh m [] [] (e ∷ l) put = absurd put
  put_fresh m [] (box ∷ boxes) l put = absurd put
  put_fresh m (object ∷ objects) [] l put = absurd put
  put_fresh m (object ∷ objects) (box ∷ boxes) [] put = absurd put
  put_fresh m (object ∷ objects) (box ∷ boxes) (e ∷ l) put = go (nat_eq m e.0) (put_fresh m objects boxes l put.3)
    where
      go : (b : Bool) → IfSome (object_at m l) IsFresh → IfSome (cond b (Some e.1) (object_at m l)) IsFresh
      go true later = put.2
      go false later = later

  -- an object that is put before all others
  pub put_first : (objects : List SavedObject) (boxes : List (Option B)) (k : ℕ) (object : SavedObject) (box : Option B)
      (p : SlotEntry B) (l : List (ℕ × SlotEntry B)) → IsInOrder (stored_in objects)
      → drop k objects ≡ object ∷ drop (k + 1) objects → drop k boxes ≡ box ∷ drop (k + 1) boxes
      → AreInserted (drop (k + 1) objects) (drop (k + 1) boxes) l → with_drawn object.body box ≡ Some (p.item).body
      → IsFresh p → AreInserted (drop k objects) (drop k boxes) (with_at object.number p l)
  put_first objects boxes k object box p l order os bs put is fresh =
      subst (λ (es : List (ℕ × SlotEntry B)). AreInserted (drop k objects) (drop k boxes) es) (sym (with_at_first object.number p l sorted)) (rw (os, bs) (refl, is, fresh, put))
    where
      ordered : IsInOrder (stored_in (object ∷ drop (k + 1) objects))
      ordered =
          subst (λ (xs : List SavedObject). IsInOrder (stored_in xs)) os
          (subst (λ (es : List (ℕ × Body SavedHostObject)). IsInOrder es)
          (drop-map (λ object. (object.number, object.body)) k objects) (order_drop k (stored_in objects) order))

      sorted : IsStrictlySortedBy nat_cmp (object.number ∷ numbers l)
      sorted =
          subst (λ (ns : List ℕ). IsStrictlySortedBy nat_cmp (object.number ∷ ns))
          (sym (put_numbers (drop (k + 1) objects) (drop (k + 1) boxes) l put))
          (sorted_from_strictly_increasing (numbers (stored_in (object ∷ drop (k + 1) objects))) ordered)

  pub put_absent : (objects : List SavedObject) (boxes : List (Option B)) (k : ℕ) (object : SavedObject)
      (l : List (ℕ × SlotEntry B)) → IsInOrder (stored_in objects) → drop k objects ≡ object ∷ drop (k + 1) objects
      → AreInserted (drop (k + 1) objects) (drop (k + 1) boxes) l → object_at object.number l ≡ None
  put_absent objects boxes k object l order os put = go (object_at object.number l) refl
    where
      ordered : IsInOrder (stored_in (object ∷ drop (k + 1) objects))
      ordered =
          subst (λ (xs : List SavedObject). IsInOrder (stored_in xs)) os
          (subst (λ (es : List (ℕ × Body SavedHostObject)). IsInOrder es)
          (drop-map (λ object. (object.number, object.body)) k objects) (order_drop k (stored_in objects) order))

      rises : IsStrictlyIncreasing (object.number ∷ numbers l)
      rises =
          subst (λ (ns : List ℕ). IsStrictlyIncreasing (object.number ∷ ns))
          (sym (put_numbers (drop (k + 1) objects) (drop (k + 1) boxes) l put)) ordered

      go : (v : Option (SlotEntry B)) → object_at object.number l ≡ v → object_at object.number l ≡ None
      go None is = is
      go (Some p) is =
          let apart : nat_eq object.number object.number ≡ false = none_after (object.number, p) l object.number rises (subst (λ (v : Option (SlotEntry B)). IsSome v) (sym is) refl) in
          let same = eq-eqb object.number object.number refl in
          absurd (cc)

  pub fit_at : (objects : List SavedObject) (boxes : List (Option B)) (k : ℕ) (object : SavedObject) (box : Option B)
      → AreFit objects boxes → slice_get objects k ≡ Some object → slice_get boxes k ≡ Some box
      → IsSome (with_drawn object.body box)
  fit_at [] [] k object box fit one two = absurd (cc)
  fit_at [] (b ∷ boxes) k object box fit one two = absurd fit
  fit_at (o ∷ objects) [] k object box fit one two = absurd fit
  fit_at (o ∷ objects) (b ∷ boxes) zero object box fit one two =
      let first : o ≡ object = cc in
      let second : b ≡ box = cc in
      rw (← first, ← second) fit.0
  fit_at (o ∷ objects) (b ∷ boxes) (suc k) object box fit one two = fit_at objects boxes k object box fit.1 one two

  -- How far the putting of objects has come, the last first: what is left of them and of what they took,
  -- and what is there.
  pub record PutState (objects : List SavedObject) (boxes : List (Option B)) (os : List SavedObject) (bs : List (Option B)) (l : List (ℕ × SlotEntry B)) : Type 0 where
    pub left : os ≡ take (length os) objects
    pub right : bs ≡ take (length os) boxes
    pub within : length os ≤ length objects
    pub put : AreInserted (drop (length os) objects) (drop (length os) boxes) l

  pub put_begin : (objects : List SavedObject) (boxes : List (Option B)) (l : List (ℕ × SlotEntry B)) → AreFit objects boxes
      → l ≡ [] → PutState objects boxes objects boxes l
  put_begin objects boxes l fit none = record {
    left = sym (take_all (length objects) objects (omega arith));
    right = let many = fit_length objects boxes fit in sym (take_all (length objects) boxes (omega (arith, many)));
    within = omega arith;
    put = let many = fit_length objects boxes fit in rw (none, drop_all (length objects) objects (omega arith), drop_all (length objects) boxes (omega (arith, many))) tt;
  }

  -- there is a box for each object
  pub put_box : (objects : List SavedObject) (boxes : List (Option B)) (os os' : List SavedObject) (bs : List (Option B))
      (object : SavedObject) (l : List (ℕ × SlotEntry B)) → AreFit objects boxes → PutState objects boxes os bs l
      → os ≡ os' ++ object ∷ [] → length bs ≡ 0 → ⊥
  put_box objects boxes os os' bs object l fit s is none =
      let many = fit_length objects boxes fit in
      let long = ap length is ∙ length-append os' (object ∷ []) in
      let all = ap length s.right ∙ length-take (length os) boxes in
      let nothing = none in
      let inside = s.within in
      absurd (omega (arith, many, long, all, nothing, inside))

  -- one object more is put
  module _ (objects : List SavedObject) (boxes : List (Option B)) (os os' : List SavedObject) (bs bs' : List (Option B)) (object : SavedObject) (box : Option B) (l : List (ℕ × SlotEntry B)) (order : IsInOrder (stored_in objects)) (fit : AreFit objects boxes) (s : PutState objects boxes os bs l) (one : os ≡ os' ++ object ∷ []) (two : bs ≡ bs' ++ box ∷ []) where
    first : IsPopped objects os' object
    first = popped objects os' object (length os) (sym s.left ∙ one)

    second : IsPopped boxes bs' box
    second = popped boxes bs' box (length os) (sym s.right ∙ two)

    long : length os ≡ length os' + 1
    long = ap length one ∙ length-append os' (object ∷ [])

    same : length bs' ≡ length os'
    same =
        let many = fit_length objects boxes fit in
        let all = ap length s.right ∙ length-take (length os) boxes in
        let some = ap length two ∙ length-append bs' (box ∷ []) in
        let inside = s.within in
        omega (arith, many, all, some, inside, long)

    next : drop (length os') boxes ≡ box ∷ drop (length os' + 1) boxes
    next = subst (λ (n : ℕ). drop n boxes ≡ box ∷ drop (n + 1) boxes) same second.next

    after : AreInserted (drop (length os' + 1) objects) (drop (length os' + 1) boxes) l
    after = subst (λ (n : ℕ). AreInserted (drop n objects) (drop n boxes) l) long s.put

    pub put_fits : IsSome (with_drawn object.body box)
    put_fits =
        fit_at objects boxes (length os') object box fit first.there
        (subst (λ (n : ℕ). slice_get boxes n ≡ Some box) same second.there)

    pub put_new : object_at object.number l ≡ None
    put_new = put_absent objects boxes (length os') object l order first.next after

    pub put_more : (p : SlotEntry B) → with_drawn object.body box ≡ Some (p.item).body → IsFresh p
        → PutState objects boxes os' bs' (with_at object.number p l)
    put_more p is fresh = record {
      left = first.left;
      right = subst (λ (n : ℕ). bs' ≡ take n boxes) same second.left;
      within = let inside = first.within in omega (arith, inside);
      put = put_first objects boxes (length os') object box p l order first.next next after is fresh;
    }

  -- all are put
  pub put_end : (objects : List SavedObject) (boxes : List (Option B)) (os : List SavedObject) (bs : List (Option B))
      (l : List (ℕ × SlotEntry B)) → length os ≡ 0 → PutState objects boxes os bs l → AreInserted objects boxes l
  put_end objects boxes os bs l none s = subst (λ (n : ℕ). AreInserted (drop n objects) (drop n boxes) l) none s.put
