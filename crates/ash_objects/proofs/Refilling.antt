-- What other elements leave of an array and of the table.
use Rattle.std.proofs.Common.{◌≡◌, ℕ, Bool, true, false, cond, List, [], ◌∷◌, refl, sym, subst, ap, ◌∙◌, nat_eq, arith, Option, Some, None, length, ◌+◌, ◌-◌, ◌*◌, ◌≤◌, ◌<◌, take, drop, replicate}
use Rattle.std.specs.Prelude.{IsSomeAnd, IsSome, IfSome}
use Rattle.std.specs.Option.{option_map, option_map_or, option_and_then}
use Rattle.std.proofs.lemmas.Bool.{eq-eqb}
use Rattle.std.proofs.lemmas.List.{take-append-drop, length-append, length-replicate}
use Rattle.std.proofs.lemmas.List.Sums.{sum_by-append}
use Rattle.std.proofs.lemmas.List.Folds.{sum_by-replicate}
use Rattle.ash_host.specs.declared.word.Word.{Word}
use Rattle.ash_host.specs.Objects.{object_at, IsInOrder, handles_to, is_handle_to, handle}
use Rattle.ash_slots.specs.declared.body.Body.{Body}
use Rattle.ash_slots.specs.declared.body.Body.TheVariants.{Script, Array, Host}
use Rattle.ash_slots.specs.declared.body.Array as arrays
use Rattle.ash_host.specs.declared.element.ElementTag.{ElementTag}
use Rattle.ash_slots.specs.declared.entry.Occupant.{Occupant}
use Rattle.ash_host.specs.declared.element.ElementTag.TheVariants as elements
use Rattle.ash_host.specs.ElementTags.{initial_of}
use Rattle.ash_slots.specs.Bodies.{words_of}
use Rattle.ash_slots.specs.SlotArrays.{array_of, with_words, stored_array, refilled, lengthened}
use Rattle.ash_objects.specs.Arrays.{array_at, elements_of, elements_at, with_elements}
use Rattle.ash_slots.specs.Store.{SlotEntry, IsIn, with_item, change_at}
use Rattle.ash_objects.specs.Table.{Living, Table, body_of}
use Rattle.ash_objects.specs.Counting.{face, face_at, holding, fields_in, living_in, AreCounted, AreGiven, IsTable, release_all}
use Rattle.ash_slots.specs.SlotCounting.{counted, decremented, change_handle}
use Rattle.ash_slots.proofs.Changing.{object_at-change, length-change, in_order-change, sum-change, change_over}
use Rattle.ash_slots.proofs.Options.{some_of}
use Rattle.ash_objects.proofs.Counts.{numbers-living, each-change, given-change}
use Rattle.ash_objects.proofs.Fields.{view_face, counted_same, in_face}
use Rattle.ash_objects.proofs.Releasing.{released_face, released_fields, released_order, released_length, released_each, released_counted}
use Rattle.ash_objects.proofs.Views.{body_view, body_item}

-- where it is enough to know what is there
pub each_some : {A : Type 0} (P : A → Type 0) (v : Option A) → ((x : A) → v ≡ Some x → P x) → IfSome v P
each_some P None h = tt
each_some P (Some x) h = h x refl

take_short : {A : Type 0} (k : ℕ) (ws : List A) → length (take k ws) ≤ length ws
take_short k ws =
    let both = sym (length-append (take k ws) (drop k ws)) ∙ ap length (take-append-drop k ws) in
    omega (arith, both)

-- no initial value is a handle
initial_none : (m : ℕ) (e : ElementTag) → is_handle_to m (initial_of e) ≡ false
initial_none m elements.Bool = refl
initial_none m elements.Int = refl
initial_none m elements.Uint = refl
initial_none m elements.Int64 = refl
initial_none m elements.Uint64 = refl
initial_none m (elements.Class _ _) = refl
initial_none m (elements.Kind _) = refl

-- the handles among elements that were added, and among those that stay and those that go
handles_longer : (m many : ℕ) (array : arrays.Array) → handles_to m (lengthened many array)
    ≡ handles_to m array.elements
handles_longer m many array =
    let f : Word → ℕ = λ x. cond {A = ℕ} (is_handle_to m x) 1 0 in
    let k = many - length array.elements in
    let both = sum_by-append f array.elements (replicate k (initial_of array.element)) in
    let added = sum_by-replicate f k (initial_of array.element) ∙ ap (λ (b : Bool). k * cond {A = ℕ} b 1 0) (initial_none m array.element) in
    omega (arith, both, added)

handles_split : (m k : ℕ) (ws : List Word) → handles_to m (take k ws) + handles_to m (drop k ws) ≡ handles_to m ws
handles_split m k ws =
    let f : Word → ℕ = λ x. cond {A = ℕ} (is_handle_to m x) 1 0 in
    sym (sum_by-append f (take k ws) (drop k ws)) ∙ ap (λ (l : List Word). handles_to m l) (take-append-drop k ws)

module _ {B : Type 0} where
  words_array : (body : Body B) (array : arrays.Array) → array_of body ≡ Some array → words_of body ≡ array.elements
  words_array (Script script) array h = cc
  words_array (Array own) array h = let same : own ≡ array = cc in ap (λ (y : arrays.Array). y.elements) same
  words_array (Host box) array h = cc

  pub words_filled : (ws : List Word) (body : Body B) (array : arrays.Array) → array_of body ≡ Some array
      → words_of (with_words ws body) ≡ ws
  words_filled ws (Script script) array h = cc
  words_filled ws (Array own) array h = refl
  words_filled ws (Host box) array h = cc

  pub words_twice : (ws others : List Word) (body : Body B) → with_words ws (with_words others body)
      ≡ with_words ws body
  words_twice ws others (Script script) = refl
  words_twice ws others (Array own) = refl
  words_twice ws others (Host box) = refl

  short_filled : (ws : List Word) → length ws ≤ 4096 → (body : Body B) → length (words_of body) ≤ 4096
      → length (words_of (with_words ws body)) ≤ 4096
  short_filled ws few (Script script) h = h
  short_filled ws few (Array own) h = few
  short_filled ws few (Host box) h = h

  pub in_refilled : (n slot : ℕ) (ws : List Word) (l : List (ℕ × SlotEntry B)) → IsIn n slot l
      → IsIn n slot (change_at n (refilled ws) l)
  in_refilled n slot ws l h = subst (λ (v : Option (SlotEntry B)). IsSomeAnd v (λ object. object.slot ≡ slot)) (sym (object_at-change n (refilled ws) n l)) (go (nat_eq n n) (object_at n l) h)
    where
      go : (b : Bool) (v : Option (SlotEntry B)) → IsSomeAnd v (λ object. object.slot ≡ slot)
          → IsSomeAnd (cond b (option_map (refilled ws) v) v) (λ object. object.slot ≡ slot)
      go b None h = absurd h
      go true (Some p) h = h
      go false (Some p) h = h

  -- what a contract sees of an array is what is there
  pub array_view : (n : ℕ) (l : List (ℕ × SlotEntry B))
      → option_and_then array_of (option_map (λ object. object.body) (object_at n (living_in l))) ≡ stored_array n l
  array_view n l = ap (λ (v : Option (Body B)). option_and_then array_of v) (body_view n l) ∙ go (object_at n l)
    where
      go : (v : Option (SlotEntry B)) → option_and_then array_of (option_map (λ object. (object.item).body) v)
          ≡ option_and_then (λ object. array_of (object.item).body) v
      go None = refl
      go (Some p) = refl

  -- and so are its elements
  pub elements_view : (n : ℕ) (l : List (ℕ × SlotEntry B)) (it : Occupant B)
      → IsSomeAnd (object_at n l) (λ object. object.item ≡ it)
      → option_and_then elements_of (option_map (λ object. object.body) (object_at n (living_in l)))
      ≡ elements_of it.body
  elements_view n l it mine =
      ap (λ (v : Option (Body B)). option_and_then elements_of v) (body_view n l ∙ body_item n l it mine)

  pub found_array : (n : ℕ) (l : List (ℕ × SlotEntry B))
      → IsSome (option_and_then array_of (option_map (λ object. object.body) (object_at n (living_in l))))
      → (array : arrays.Array) × (stored_array n l ≡ Some array)
  found_array n l h = some_of (stored_array n l) (subst (λ (v : Option arrays.Array). IsSome v) (array_view n l) h)

  face_refilled : (n m : ℕ) (ws : List Word) (l : List (ℕ × SlotEntry B)) → face_at m (change_at n (refilled ws) l)
      ≡ cond (nat_eq n m) (option_map (with_elements ws) (face_at m l)) (face_at m l)
  face_refilled n m ws l = ap (λ (v : Option (SlotEntry B)). option_map face v) (object_at-change n (refilled ws) m l) ∙ each (nat_eq n m) (object_at m l)
    where
      each : (b : Bool) (v : Option (SlotEntry B)) → option_map face (cond b (option_map (refilled ws) v) v)
          ≡ cond b (option_map (with_elements ws) (option_map face v)) (option_map face v)
      each false v = refl
      each true None = refl
      each true (Some p) = refl

  array_face : (n : ℕ) (l : List (ℕ × SlotEntry B))
      → stored_array n l ≡ option_and_then (λ x. array_of x.body) (face_at n l)
  array_face n l = go (object_at n l)
    where
      go : (v : Option (SlotEntry B)) → option_and_then (λ object. array_of (object.item).body) v
          ≡ option_and_then (λ x. array_of x.body) (option_map face v)
      go None = refl
      go (Some p) = refl

  pub array_refilled : (n : ℕ) (ws : List Word) (l : List (ℕ × SlotEntry B)) (array : arrays.Array) → stored_array n l ≡ Some array → stored_array n (change_at n (refilled ws) l) ≡ Some (record array { elements = ws })
  array_refilled n ws l array there =
      ap (λ (v : Option (SlotEntry B)). option_and_then (λ object. array_of (object.item).body) v) (object_at-change n (refilled ws) n l ∙ ap (λ (b : Bool). cond b (option_map (refilled ws) (object_at n l)) (object_at n l)) (eq-eqb n n refl))
      ∙ go (object_at n l) there
    where
      body : (b : Body B) → array_of b ≡ Some array → array_of (with_words ws b) ≡ Some (record array { elements = ws })
      body (Script script) h = cc
      body (Array own) h = let same : own ≡ array = cc in ap (λ (a : arrays.Array). Some (record a { elements = ws })) same
      body (Host box) h = cc

      go : (v : Option (SlotEntry B)) → option_and_then (λ object. array_of (object.item).body) v ≡ Some array → option_and_then (λ object. array_of (object.item).body) (option_map (refilled ws) v) ≡ Some (record array { elements = ws })
      go None h = cc
      go (Some p) h = body (p.item).body h

  fields_refilled : (n m : ℕ) (ws : List Word) (l : List (ℕ × SlotEntry B)) → IsInOrder l → (array : arrays.Array)
      → stored_array n l ≡ Some array → fields_in m (change_at n (refilled ws) l) + handles_to m array.elements
      ≡ fields_in m l + handles_to m ws
  fields_refilled n m ws l o array there =
      let sums = sum-change (holding m) n (refilled ws) l o in
      let at = go (object_at n l) there in
      let was = at.0 in
      let now = at.1 in
      omega (arith, sums, was, now)
    where
      go : (v : Option (SlotEntry B)) → option_and_then (λ object. array_of (object.item).body) v ≡ Some array
          → (option_map_or (holding m) v 0 ≡ handles_to m array.elements)
          × (option_map_or (λ x. holding m (refilled ws x)) v 0 ≡ handles_to m ws)
      go None h = cc
      go (Some p) h = (
        ap (λ (k : List Word). handles_to m k) (words_array (p.item).body array h),
        ap (λ (k : List Word). handles_to m k) (words_filled ws (p.item).body array h),
      )

  given_released : (last : ℕ) (ws : List Word) (l : List (ℕ × SlotEntry B)) → AreGiven last l
      → AreGiven last (release_all ws l)
  given_released last [] l given = given
  given_released last (w ∷ ws) l given = given_released last ws (change_handle decremented (handle w) l) (go (handle w))
    where
      go : (h : Option ℕ) → AreGiven last (change_handle decremented h l)
      go None = given
      go (Some k) = given-change last k decremented l given

  idle_waits : (p : SlotEntry B) → 0 < (p.item).count → ((decremented p).item).count ≡ 0 → (decremented p).waiting ≡ true
  idle_waits p some none =
      let one : (p.item).count ≡ 1 = omega arith in
      ap (λ (b : Bool). cond b true p.waiting) (eq-eqb (p.item).count 1 one)

  -- The elements of an array were taken out, those that go were uncounted, and others were put in.
  module _ (n : ℕ) (array : arrays.Array) (cut ws : List Word) (split : (m : ℕ) → handles_to m ws + handles_to m cut ≡ handles_to m array.elements) (few : length ws ≤ 4096) (l : List (ℕ × SlotEntry B)) (o : IsInOrder l) (s : AreCounted l) (there : stored_array n l ≡ Some array) where
    abbrev pub emptied : List (ℕ × SlotEntry B)
    emptied = change_at n (refilled []) l

    abbrev pub after_refill : List (ℕ × SlotEntry B)
    after_refill = change_at n (refilled ws) (release_all cut (change_at n (refilled []) l))

    fields_emptied : (m : ℕ) → fields_in m emptied + handles_to m array.elements ≡ fields_in m l
    fields_emptied m =
        let all = fields_refilled n m [] l o array there in
        let none : handles_to m [] ≡ 0 = refl in
        omega (arith, all, none)

    counted_emptied : (m : ℕ) → counted m emptied ≡ counted m l
    counted_emptied m = counted_same n (refilled []) (λ p. refl) m l

    pub covers_cut : (m : ℕ) → handles_to m cut ≤ counted m emptied
    covers_cut m = omega (arith, split m, fields_emptied m, s.covered m, counted_emptied m)

    pub array_released : stored_array n (release_all cut emptied) ≡ Some (record array { elements = [] })
    array_released =
        array_face n (release_all cut emptied)
        ∙ ap (λ (v : Option (Living B)). option_and_then (λ x. array_of x.body) v) (released_face cut n emptied)
        ∙ sym (array_face n emptied)
        ∙ array_refilled n [] l array there

    pub in_released : (slot : ℕ) → IsIn n slot l → IsIn n slot (release_all cut emptied)
    in_released slot h =
        in_face n slot (release_all cut emptied) emptied (released_face cut n emptied) (in_refilled n slot [] l h)

    order_released : IsInOrder (release_all cut emptied)
    order_released = released_order cut emptied (in_order-change n (refilled []) l o)

    count_after : (m : ℕ) → counted m after_refill + handles_to m cut ≡ counted m l
    count_after m =
        let same = counted_same n (refilled ws) (λ p. refl) m (release_all cut emptied) in
        omega (arith, same, released_counted cut m emptied covers_cut, counted_emptied m)

    fields_after : (m : ℕ) → fields_in m after_refill + handles_to m cut ≡ fields_in m l
    fields_after m =
        let put = fields_refilled n m ws (release_all cut emptied) order_released (record array { elements = [] }) array_released in
        let none : handles_to m [] ≡ 0 = refl in
        omega (arith, put, none, released_fields cut m emptied, fields_emptied m, split m)

    order_after : IsInOrder after_refill
    order_after = in_order-change n (refilled ws) (release_all cut emptied) order_released

    length_after : length after_refill ≡ length l
    length_after =
        length-change n (refilled ws) (release_all cut emptied) ∙ released_length cut emptied
        ∙ length-change n (refilled []) l

    -- what a contract sees of the store after it
    pub view_refill : living_in after_refill ≡ change_at n (with_elements ws) (living_in l)
    view_refill =
        view_face l after_refill n (with_elements ws) (λ k x. refl) o order_after
        (λ m.
        face_refilled n m ws (release_all cut emptied)
        ∙ ap (λ (v : Option (Living B)). cond (nat_eq n m) (option_map (with_elements ws) v) v) (released_face cut m emptied ∙ face_refilled n m [] l)
        ∙ twice (nat_eq n m) (face_at m l))
        (λ m. omega (arith, count_after m, fields_after m, s.covered m))
      where
        twice : (b : Bool) (v : Option (Living B))
            → cond b (option_map (with_elements ws) (cond b (option_map (with_elements []) v) v))
            (cond b (option_map (with_elements []) v) v) ≡ cond b (option_map (with_elements ws) v) v
        twice false v = refl
        twice true None = refl
        twice true (Some x) = ap (λ (b : Body B). Some (record { slot = x.slot; holds = x.holds; touched = true; body = b })) (words_twice ws [] x.body)

    waiting_after : (m : ℕ) → IfSome (object_at m after_refill) (λ p. (p.item).count ≡ 0 → p.waiting ≡ true)
    waiting_after =
        each-change (λ p. (p.item).count ≡ 0 → p.waiting ≡ true) n (refilled ws) (release_all cut emptied) (λ p is was. was)
        (released_each (λ p. (p.item).count ≡ 0 → p.waiting ≡ true) cut emptied covers_cut (λ p some was. idle_waits p some)
        (each-change (λ p. (p.item).count ≡ 0 → p.waiting ≡ true) n (refilled []) l (λ p is was. was) s.waiting))

    short_after : (m : ℕ) → IfSome (object_at m after_refill) (λ p. length (words_of (p.item).body) ≤ 4096)
    short_after =
        each-change (λ p. length (words_of (p.item).body) ≤ 4096) n (refilled ws) (release_all cut emptied) (λ p is was. short_filled ws few (p.item).body was)
        (released_each (λ p. length (words_of (p.item).body) ≤ 4096) cut emptied covers_cut (λ p some was. was)
        (each-change (λ p. length (words_of (p.item).body) ≤ 4096) n (refilled []) l (λ p is was. short_filled [] (omega arith) (p.item).body was) s.short))

    -- and it is a table still
    pub table_refill : (last settled : ℕ) → IsTable l last settled → IsTable after_refill last settled
    table_refill last settled t = record {
      in_order = order_after;
      counted = record {
        covered = λ m. omega (arith, count_after m, fields_after m, s.covered m);
        bounded = λ m. omega (arith, count_after m, fields_after m, s.bounded m);
        waiting = waiting_after;
        short = short_after;
        few = omega (arith, length_after, s.few);
      };
      given =
          given-change last n (refilled ws) (release_all cut emptied)
          (given_released last cut emptied (given-change last n (refilled []) l t.given));
      cleared = t.cleared;
    }

  -- an array is no longer than it may be
  pub array_short : (n : ℕ) (l : List (ℕ × SlotEntry B)) → AreCounted l → (array : arrays.Array)
      → stored_array n l ≡ Some array → length array.elements ≤ 4096
  array_short n l s array there = go (object_at n l) (s.short n) there
    where
      go : (v : Option (SlotEntry B)) → IfSome v (λ object. length (words_of (object.item).body) ≤ 4096)
          → option_and_then (λ object. array_of (object.item).body) v ≡ Some array → length array.elements ≤ 4096
      go None short h = cc
      go (Some p) short h = let same = ap length (words_array (p.item).body array h) in omega (arith, same, short)

  module _ (n len : ℕ) (array : arrays.Array) (l : List (ℕ × SlotEntry B)) (last settled : ℕ) (t : IsTable l last settled) (there : stored_array n l ≡ Some array) where
    short_cut : length (take len array.elements) ≤ 4096
    short_cut = omega (arith, take_short len array.elements, array_short n l t.counted array there)

    -- elements were cut off
    pub covers_shorter : (m : ℕ) → handles_to m (drop len array.elements) ≤ counted m (change_at n (refilled []) l)
    covers_shorter =
        covers_cut n array (drop len array.elements) (take len array.elements)
        (λ m. handles_split m len array.elements) short_cut l t.in_order t.counted there

    pub array_shorter : IsSome (stored_array n (release_all (drop len array.elements) (change_at n (refilled []) l)))
    array_shorter =
        subst (λ (v : Option arrays.Array). IsSome v)
        (sym (array_released n array (drop len array.elements) (take len array.elements)
        (λ m. handles_split m len array.elements) short_cut l t.in_order t.counted there)) refl

    pub in_shorter : (slot : ℕ) → IsIn n slot l
        → IsIn n slot (release_all (drop len array.elements) (change_at n (refilled []) l))
    in_shorter =
        in_released n array (drop len array.elements) (take len array.elements)
        (λ m. handles_split m len array.elements) short_cut l t.in_order t.counted there

    pub view_shorter : living_in
        (change_at n (refilled (take len array.elements))
        (release_all (drop len array.elements) (change_at n (refilled []) l)))
        ≡ change_at n (with_elements (take len array.elements)) (living_in l)
    view_shorter =
        view_refill n array (drop len array.elements) (take len array.elements)
        (λ m. handles_split m len array.elements) short_cut l t.in_order t.counted there

    pub table_shorter : IsTable
        (change_at n (refilled (take len array.elements))
        (release_all (drop len array.elements) (change_at n (refilled []) l))) last settled
    table_shorter =
        table_refill n array (drop len array.elements) (take len array.elements)
        (λ m. handles_split m len array.elements) short_cut l t.in_order t.counted there last settled t

    -- initial values were added
    module _ (few : len ≤ 4096) where
      short_longer : length (lengthened len array) ≤ 4096
      short_longer =
          let k = len - length array.elements in
          let both = length-append array.elements (replicate k (initial_of array.element)) in
          omega (arith, both, length-replicate k (initial_of array.element), array_short n l t.counted array there, few)

      split_longer : (m : ℕ) → handles_to m (lengthened len array) + handles_to m [] ≡ handles_to m array.elements
      split_longer m =
          let none : handles_to m [] ≡ 0 = refl in
          omega (arith, handles_longer m len array, none)

      at_once : change_at n (refilled (lengthened len array)) (change_at n (refilled []) l)
          ≡ change_at n (refilled (lengthened len array)) l
      at_once = change_over n (refilled (lengthened len array)) (refilled []) (refilled (lengthened len array)) (λ p. ap (λ (b : Body B). with_item (record { count = (p.item).count; touched = true; body = b }) p) (words_twice (lengthened len array) [] (p.item).body)) l

      pub view_longer : living_in (change_at n (refilled (lengthened len array)) l)
          ≡ change_at n (with_elements (lengthened len array)) (living_in l)
      view_longer =
          ap living_in (sym at_once)
          ∙ view_refill n array [] (lengthened len array) split_longer short_longer l t.in_order t.counted there

      pub table_longer : IsTable (change_at n (refilled (lengthened len array)) l) last settled
      table_longer =
          subst (λ (k : List (ℕ × SlotEntry B)). IsTable k last settled) at_once
          (table_refill n array [] (lengthened len array) split_longer short_longer l t.in_order t.counted there
          last settled t)

  pub elements_array : (n : ℕ) (t : Table B) (array : arrays.Array) → array_at n t ≡ Some array
      → elements_at n t ≡ Some array.elements
  elements_array n t array there = go (body_of n t) there
    where
      go : (v : Option (Body B)) → option_and_then array_of v ≡ Some array → option_and_then elements_of v
          ≡ Some array.elements
      go None h = cc
      go (Some (Script script)) h = cc
      go (Some (Array own)) h = let same : own ≡ array = cc in ap (λ (a : arrays.Array). Some a.elements) same
      go (Some (Host box)) h = cc

  pub order_view : (l : List (ℕ × SlotEntry B)) → IsInOrder l → IsInOrder (living_in l)
  order_view l o = rw (numbers-living l l) o
