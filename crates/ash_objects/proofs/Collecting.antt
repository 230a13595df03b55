-- What collecting leaves, step by step.
use Rattle.std.proofs.Common.{◌≡◌, ℕ, Bool, true, false, cond, List, [], ◌∷◌, ◌++◌, refl, sym, subst, ap, ◌∙◌, nat_eq, arith, Option, Some, None, length, suc, ◌+◌, ◌*◌, ◌≤◌, ◌<◌, min}
use Rattle.std.specs.Prelude.{IsSomeAnd, IsSome, IfSome, sum_by}
use Rattle.std.specs.Option.{option_map, option_map_or, unwrap_or}
use Rattle.std.specs.Map.{remove_entry}
use Rattle.std.proofs.lemmas.Bool.{eqb-true, eq-eqb}
use Rattle.std.proofs.lemmas.List.Sums.{sum_by-cons, sum_by_push}
use Rattle.std.proofs.lemmas.List.{length-append}
use Rattle.std.proofs.lemmas.Map.Entries.{sum_by-remove_entry}
use Rattle.ash_host.specs.declared.word.Word.{Word}
use Rattle.ash_host.specs.Objects.{object_at, IsInOrder, Lives, handles_to}
use Rattle.ash_slots.specs.declared.entry.Occupant.{Occupant}
use Rattle.ash_slots.specs.declared.entry.Entry.{Entry}
use Rattle.ash_slots.specs.Bodies.{words_of, is_boxed}
use Rattle.ash_slots.specs.Store.{SlotEntry, AreStored, IsIn, IsIdle, change_in, with_waiting}
use Rattle.ash_objects.specs.Counting.{holding, fields_in, AreCounted, face, face_at, release_all}
use Rattle.ash_slots.specs.SlotCounting.{counted, decremented}
use Rattle.ash_objects.specs.Collecting.{mark_of, entry_mark, HaveGone}
use Rattle.ash_objects.proofs.Fields.{in_face}
use Rattle.ash_slots.proofs.Removing.{object_at-removed}
use Rattle.ash_objects.proofs.Referring.{lives_face}
use Rattle.ash_objects.proofs.Releasing.{released_face, released_fields, released_order, released_length, released_marks, released_each, released_counted}
use Rattle.ash_objects.proofs.Popping.{at_seen, seen_face, seen_counted, seen_order, seen_sum, seen_fields, seen_length}

-- a sum over entries without one of them
sum_entries-removed : {A : Type 0} (g : ℕ × A → ℕ) (n : ℕ) (x : A) (l : List (ℕ × A)) → object_at n l ≡ Some x
    → sum_by g (remove_entry (nat_eq n) l) + g (n, x) ≡ sum_by g l
sum_entries-removed g n x [] h = cc
sum_entries-removed {A} g n x (e ∷ l) h =
    go (nat_eq n e.0) refl h (λ later. sum_entries-removed g n x l later)
  where
    go : (b : Bool) → nat_eq n e.0 ≡ b → cond b (Some e.1) (object_at n l) ≡ Some x
        → (object_at n l ≡ Some x → sum_by g (remove_entry (nat_eq n) l) + g (n, x) ≡ sum_by g l)
        → sum_by g (cond b l (e ∷ remove_entry (nat_eq n) l)) + g (n, x) ≡ sum_by g (e ∷ l)
    go true is at later =
        let value : e.1 ≡ x = cc in
        let same : g e ≡ g (n, x) = ap (λ (k : ℕ). g (k, e.1)) (sym (eqb-true n e.0 is)) ∙ ap (λ (v : A). g (n, v)) value in
        omega (arith, same, sum_by-cons g e l)
    go false is at later = omega (arith, later at, sum_by-cons g e l, sum_by-cons g e (remove_entry (nat_eq n) l))

length-removed : {A : Type 0} (n : ℕ) (x : A) (l : List (ℕ × A)) → object_at n l ≡ Some x
    → length (remove_entry (nat_eq n) l) + 1 ≡ length l
length-removed n x [] h = cc
length-removed {A} n x (e ∷ l) h =
    go (nat_eq n e.0) h (λ later. length-removed n x l later)
  where
    go : (b : Bool) → cond b (Some e.1) (object_at n l) ≡ Some x
        → (object_at n l ≡ Some x → length (remove_entry (nat_eq n) l) + 1 ≡ length l)
        → length (cond b l (e ∷ remove_entry (nat_eq n) l)) + 1 ≡ suc (length l)
    go true at later = omega arith
    go false at later = omega (arith, later at)

module _ {B : Type 0} where
  -- what is counted nowhere has no count
  pub idle_zero : (slot : ℕ) (v : Option (SlotEntry B))
      → IsSomeAnd v (λ object. (object.slot ≡ slot) × ((object.item).count ≡ 0))
      → option_map_or (λ object. (object.item).count) v 0 ≡ 0
  idle_zero slot None e = refl
  idle_zero slot (Some p) e = e.1

  -- before anything went
  pub none_went : (l : List (ℕ × SlotEntry B)) → IsInOrder l → AreCounted l → HaveGone l l []
  none_went l o s = record {
    in_order = o;
    covered = s.covered;
    balance = λ m lives. refl;
    waiting = s.waiting;
    stay = λ m lives. refl;
    go = λ m none. let zero_count = ap (λ (v : Option (SlotEntry B)). option_map_or (λ object. (object.item).count) v 0) none in omega (arith, zero_count);
    whole = λ measure. omega arith;
    many = omega arith;
  }

  -- the handles of an object that is taken out are counted
  pub taken_covers : (l : List (ℕ × SlotEntry B)) (n : ℕ) (it : Occupant B) → IsInOrder l
      → ((m : ℕ) → fields_in m l ≤ counted m l) → IsSomeAnd (object_at n l) (λ object. object.item ≡ it)
      → counted n l ≡ 0 → (m : ℕ) → handles_to m (words_of it.body) ≤ counted m (remove_entry (nat_eq n) l)
  taken_covers l n it o covered mine none m =
      let sums = sum_by-remove_entry (holding m) (nat_eq n) l in
      omega (arith, sums, held (object_at n l) mine, counts, covered m)
    where
      held : (v : Option (SlotEntry B)) → IsSomeAnd v (λ object. object.item ≡ it)
          → unwrap_or (option_map (holding m) v) 0 ≡ handles_to m (words_of it.body)
      held None h = absurd h
      held (Some p) h = ap (λ (i : Occupant B). handles_to m (words_of i.body)) h

      counts : counted m (remove_entry (nat_eq n) l) ≡ counted m l
      counts = ap (λ (v : Option (SlotEntry B)). option_map_or (λ object. (object.item).count) v 0) (object_at-removed n m l o) ∙ go (nat_eq n m) refl
        where
          go : (b : Bool) → nat_eq n m ≡ b
              → option_map_or (λ object. (object.item).count) (cond b None (object_at m l)) 0 ≡ counted m l
          go true is = sym none ∙ ap (λ (k : ℕ). counted k l) (eqb-true n m is)
          go false is = refl

  -- an object that is counted stays
  pub skipped : (old l : List (ℕ × SlotEntry B)) (slot : ℕ) (taken : List (Entry B)) → HaveGone old l taken
      → (IsIdle slot (change_in slot (with_waiting false) l) → ⊥)
      → HaveGone old (change_in slot (with_waiting false) l) taken
  skipped old l slot taken h busy = record {
    in_order = seen_order false slot l h.in_order;
    covered = λ m. omega (arith, seen_fields false slot m l, seen_counted false slot l m, h.covered m);
    balance = λ m lives. omega (arith, seen_fields false slot m l, seen_counted false slot l m, h.balance m (lived m lives));
    waiting = waits;
    stay = λ m lives. seen_face false slot l m ∙ h.stay m (lived m lives);
    go = λ m none. h.go m (gone m none);
    whole = λ measure. let same = seen_sum false slot (λ e. measure (mark_of e)) (λ k p. refl) l in omega (arith, same, h.whole measure);
    many = omega (arith, seen_length false slot l, h.many);
  }
    where
      lived : (m : ℕ) → Lives (change_in slot (with_waiting false) l) m → Lives l m
      lived m lives = lives_face m l (change_in slot (with_waiting false) l) (sym (seen_face false slot l m)) lives

      gone : (m : ℕ) → object_at m (change_in slot (with_waiting false) l) ≡ None → object_at m l ≡ None
      gone m none = go (object_at m l) (sym (at_seen false slot l m) ∙ none)
        where
          go : (v : Option (SlotEntry B))
              → option_map (λ object. cond (nat_eq slot object.slot) (with_waiting false object) object) v ≡ None
              → v ≡ None
          go None e = refl
          go (Some p) e = absurd (cc)

      waits : (m : ℕ) → IfSome (object_at m (change_in slot (with_waiting false) l)) (λ object. (object.item).count
          ≡ 0 → object.waiting ≡ true)
      waits m = subst (λ (v : Option (SlotEntry B)). IfSome v (λ object. (object.item).count ≡ 0 → object.waiting ≡ true)) (sym (at_seen false slot l m)) (go (object_at m l) refl (h.waiting m))
        where
          each : (p : SlotEntry B) → object_at m l ≡ Some p → ((p.item).count ≡ 0 → p.waiting ≡ true) → (b : Bool)
              → nat_eq slot p.slot ≡ b → ((cond b (with_waiting false p) p).item).count ≡ 0
              → (cond b (with_waiting false p) p).waiting ≡ true
          each p is was false apart none = was none
          each p is was true same none =
              let there : object_at m (change_in slot (with_waiting false) l) ≡ Some (with_waiting false p) = at_seen false slot l m ∙ ap (λ (v : Option (SlotEntry B)). option_map (λ object. cond (nat_eq slot object.slot) (with_waiting false object) object) v) is ∙ ap (λ (b : Bool). Some (cond b (with_waiting false p) p)) same in
              absurd (busy (m, subst (λ (v : Option (SlotEntry B)). IsSomeAnd v (λ object. (object.slot ≡ slot) × ((object.item).count ≡ 0))) (sym there) (sym (eqb-true slot p.slot same), none)))

          go : (v : Option (SlotEntry B)) → object_at m l ≡ v
              → IfSome v (λ object. (object.item).count ≡ 0 → object.waiting ≡ true)
              → IfSome (option_map (λ object. cond (nat_eq slot object.slot) (with_waiting false object) object) v)
              (λ object. (object.item).count ≡ 0 → object.waiting ≡ true)
          go None is was = tt
          go (Some p) is was = each p is was (nat_eq slot p.slot) refl

  -- an object that waits still
  pub put_back : (old l : List (ℕ × SlotEntry B)) (slot : ℕ) (taken : List (Entry B)) → HaveGone old l taken
      → HaveGone old (change_in slot (with_waiting true) l) taken
  put_back old l slot taken h = record {
    in_order = seen_order true slot l h.in_order;
    covered = λ m. omega (arith, seen_fields true slot m l, seen_counted true slot l m, h.covered m);
    balance = λ m lives. omega (arith, seen_fields true slot m l, seen_counted true slot l m, h.balance m (lived m lives));
    waiting = waits;
    stay = λ m lives. seen_face true slot l m ∙ h.stay m (lived m lives);
    go = λ m none. h.go m (gone m none);
    whole = λ measure. let same = seen_sum true slot (λ e. measure (mark_of e)) (λ k p. refl) l in omega (arith, same, h.whole measure);
    many = omega (arith, seen_length true slot l, h.many);
  }
    where
      lived : (m : ℕ) → Lives (change_in slot (with_waiting true) l) m → Lives l m
      lived m lives = lives_face m l (change_in slot (with_waiting true) l) (sym (seen_face true slot l m)) lives

      gone : (m : ℕ) → object_at m (change_in slot (with_waiting true) l) ≡ None → object_at m l ≡ None
      gone m none = go (object_at m l) (sym (at_seen true slot l m) ∙ none)
        where
          go : (v : Option (SlotEntry B))
              → option_map (λ object. cond (nat_eq slot object.slot) (with_waiting true object) object) v ≡ None
              → v ≡ None
          go None e = refl
          go (Some p) e = absurd (cc)

      waits : (m : ℕ) → IfSome (object_at m (change_in slot (with_waiting true) l)) (λ object. (object.item).count
          ≡ 0 → object.waiting ≡ true)
      waits m = subst (λ (v : Option (SlotEntry B)). IfSome v (λ object. (object.item).count ≡ 0 → object.waiting ≡ true)) (sym (at_seen true slot l m)) (go (object_at m l) (h.waiting m))
        where
          each : (p : SlotEntry B) → ((p.item).count ≡ 0 → p.waiting ≡ true) → (b : Bool)
              → ((cond b (with_waiting true p) p).item).count ≡ 0 → (cond b (with_waiting true p) p).waiting ≡ true
          each p was false none = was none
          each p was true none = refl

          go : (v : Option (SlotEntry B)) → IfSome v (λ object. (object.item).count ≡ 0 → object.waiting ≡ true)
              → IfSome (option_map (λ object. cond (nat_eq slot object.slot) (with_waiting true object) object) v)
              (λ object. (object.item).count ≡ 0 → object.waiting ≡ true)
          go None was = tt
          go (Some p) was = each p was (nat_eq slot p.slot)

  -- an object that is taken out
  module _ (old l : List (ℕ × SlotEntry B)) (slot : ℕ) (taken : List (Entry B)) (entry : Entry B) (h : HaveGone old l taken) (s : AreStored l) (idle : IsIdle slot (change_in slot (with_waiting false) l)) (here : IsIn entry.number slot (change_in slot (with_waiting false) l)) (mine : IsSomeAnd (object_at entry.number (change_in slot (with_waiting false) l)) (λ object. object.item ≡ entry.item)) (order : IsInOrder (remove_entry (nat_eq entry.number) (change_in slot (with_waiting false) l))) where
    n : ℕ
    n = entry.number

    abbrev l1 : List (ℕ × SlotEntry B)
    l1 = change_in slot (with_waiting false) l

    abbrev ws : List Word
    ws = words_of (entry.item).body

    abbrev l2 : List (ℕ × SlotEntry B)
    l2 = remove_entry (nat_eq entry.number) (change_in slot (with_waiting false) l)

    abbrev l3 : List (ℕ × SlotEntry B)
    l3 =
        release_all (words_of (entry.item).body)
        (remove_entry (nat_eq entry.number) (change_in slot (with_waiting false) l))

    -- the one object in the slot
    in_slot : (m : ℕ) → IsIn m slot l1 → IsIn m slot l
    in_slot m is = in_face m slot l l1 (sym (seen_face false slot l m)) is

    idle_in : (m : ℕ) (v : Option (SlotEntry B))
        → IsSomeAnd v (λ object. (object.slot ≡ slot) × ((object.item).count ≡ 0))
        → IsSomeAnd v (λ object. object.slot ≡ slot)
    idle_in m None e = absurd e
    idle_in m (Some p) e = e.0

    idle_is : idle.0 ≡ entry.number
    idle_is =
        s.apart slot idle.0 entry.number (in_slot idle.0 (idle_in idle.0 (object_at idle.0 l1) idle.1))
        (in_slot entry.number here)

    zero_count : counted entry.number l1 ≡ 0
    zero_count = ap (λ (k : ℕ). counted k l1) (sym idle_is) ∙ idle_zero slot (object_at idle.0 l1) idle.1

    -- the object itself
    it : (p : SlotEntry B) × (object_at entry.number l1 ≡ Some p) × (p.item ≡ entry.item)
    it = go (object_at entry.number l1) refl mine
      where
        go : (v : Option (SlotEntry B)) → object_at entry.number l1 ≡ v
            → IsSomeAnd v (λ object. object.item ≡ entry.item) → (p : SlotEntry B) × (object_at entry.number l1 ≡ Some p)
            × (p.item ≡ entry.item)
        go None is e = absurd e
        go (Some p) is e = (p, is, e)

    at_taken : (m : ℕ) → object_at m l2 ≡ cond (nat_eq entry.number m) None (object_at m l1)
    at_taken m = object_at-removed entry.number m l1 (seen_order false slot l h.in_order)

    taken_counted : (m : ℕ) → counted m l2 ≡ counted m l
    taken_counted m = ap (λ (v : Option (SlotEntry B)). option_map_or (λ object. (object.item).count) v 0) (at_taken m) ∙ go (nat_eq entry.number m) refl ∙ seen_counted false slot l m
      where
        go : (b : Bool) → nat_eq entry.number m ≡ b
            → option_map_or (λ object. (object.item).count) (cond b None (object_at m l1)) 0 ≡ counted m l1
        go true is = sym zero_count ∙ ap (λ (k : ℕ). counted k l1) (eqb-true entry.number m is)
        go false is = refl

    taken_fields : (m : ℕ) → fields_in m l2 + handles_to m ws ≡ fields_in m l
    taken_fields m =
        let sums = sum_by-remove_entry (holding m) (nat_eq entry.number) l1 in
        let there = ap (λ (v : Option (SlotEntry B)). unwrap_or (option_map (holding m) v) 0) it.1 in
        let words = ap (λ (i : Occupant B). handles_to m (words_of i.body)) it.2 in
        omega (arith, sums, there, words, seen_fields false slot m l)

    covers : (m : ℕ) → handles_to m ws ≤ counted m l2
    covers m = omega (arith, taken_fields m, taken_counted m, h.covered m)

    count_now : (m : ℕ) → counted m l3 + handles_to m ws ≡ counted m l
    count_now m = omega (arith, released_counted ws m l2 covers, taken_counted m)

    fields_now : (m : ℕ) → fields_in m l3 + handles_to m ws ≡ fields_in m l
    fields_now m = omega (arith, released_fields ws m l2, taken_fields m)

    some_other : (m : ℕ) (b : Bool) → IsSome (cond b None (object_at m l1)) → b ≡ false
    some_other m true e = cc
    some_other m false e = refl

    -- what lives still is another, and lived
    lives_taken : (m : ℕ) → Lives l3 m → Lives l2 m
    lives_taken m lives = lives_face m l2 l3 (sym (released_face ws m l2)) lives

    apart_now : (m : ℕ) → Lives l3 m → nat_eq entry.number m ≡ false
    apart_now m lives =
        some_other m (nat_eq entry.number m)
        (subst (λ (v : Option (SlotEntry B)). IsSome v) (at_taken m) (lives_taken m lives))

    at_other : (m : ℕ) → nat_eq entry.number m ≡ false → object_at m l2 ≡ object_at m l1
    at_other m apart = at_taken m ∙ ap (λ (b : Bool). cond {A = Option (SlotEntry B)} b None (object_at m l1)) apart

    face_now : (m : ℕ) → Lives l3 m → face_at m l3 ≡ face_at m l
    face_now m lives =
        released_face ws m l2 ∙ ap (λ (v : Option (SlotEntry B)). option_map face v) (at_other m (apart_now m lives))
        ∙ seen_face false slot l m

    lived_now : (m : ℕ) → Lives l3 m → Lives l m
    lived_now m lives = lives_face m l l3 (sym (face_now m lives)) lives

    -- what is left waits where nothing counts it
    waits_taken : (m : ℕ) → IfSome (object_at m l2) (λ object. (object.item).count ≡ 0 → object.waiting ≡ true)
    waits_taken m = subst (λ (v : Option (SlotEntry B)). IfSome v (λ object. (object.item).count ≡ 0 → object.waiting ≡ true)) (sym (at_taken m)) (go (nat_eq entry.number m) refl)
      where
        slots : (p : SlotEntry B) → object_at m l ≡ Some p → nat_eq slot p.slot ≡ true → entry.number ≡ m
        slots p is same =
            s.apart slot entry.number m (in_slot entry.number here)
            (subst (λ (v : Option (SlotEntry B)). IsSomeAnd v (λ object. object.slot ≡ slot)) (sym is)
            (sym (eqb-true slot p.slot same)))

        each : (p : SlotEntry B) → object_at m l ≡ Some p → nat_eq entry.number m ≡ false
            → ((p.item).count ≡ 0 → p.waiting ≡ true) → (b : Bool) → nat_eq slot p.slot ≡ b
            → ((cond b (with_waiting false p) p).item).count ≡ 0 → (cond b (with_waiting false p) p).waiting ≡ true
        each p is apart was false other none = was none
        each p is apart was true same none = let yes = eq-eqb entry.number m (slots p is same) in absurd (cc)

        through : (v : Option (SlotEntry B)) → object_at m l ≡ v → nat_eq entry.number m ≡ false
            → IfSome v (λ object. (object.item).count ≡ 0 → object.waiting ≡ true)
            → IfSome (option_map (λ object. cond (nat_eq slot object.slot) (with_waiting false object) object) v)
            (λ object. (object.item).count ≡ 0 → object.waiting ≡ true)
        through None is apart was = tt
        through (Some p) is apart was = each p is apart was (nat_eq slot p.slot) refl

        go : (b : Bool) → nat_eq entry.number m ≡ b
            → IfSome (cond b None (object_at m l1)) (λ object. (object.item).count ≡ 0 → object.waiting ≡ true)
        go true is = tt
        go false is =
            subst (λ (v : Option (SlotEntry B)). IfSome v (λ object. (object.item).count ≡ 0 → object.waiting ≡ true))
            (sym (at_seen false slot l m)) (through (object_at m l) refl is (h.waiting m))

    less_waits : (p : SlotEntry B) → 0 < (p.item).count → ((p.item).count ≡ 0 → p.waiting ≡ true)
        → ((decremented p).item).count ≡ 0 → (decremented p).waiting ≡ true
    less_waits p some was none =
        let one : (p.item).count ≡ 1 = omega arith in
        ap (λ (b : Bool). cond b true p.waiting) (eq-eqb (p.item).count 1 one)

    -- what is no longer there was not held
    gone_now : (m : ℕ) → object_at m l3 ≡ None → counted m old ≤ fields_in m old
    gone_now m none = go (nat_eq entry.number m) refl
      where
        none_taken : (v u : Option (SlotEntry B)) → option_map face v ≡ option_map face u → v ≡ None → u ≡ None
        none_taken v None e is = refl
        none_taken v (Some p) e is = let both : Some (face p) ≡ None = sym e ∙ ap (λ (w : Option (SlotEntry B)). option_map face w) is in absurd (cc)

        none2 : object_at m l2 ≡ None
        none2 = none_taken (object_at m l3) (object_at m l2) (released_face ws m l2) none

        lived : Lives l entry.number
        lived =
            lives_face entry.number l l1 (sym (seen_face false slot l entry.number))
            (subst (λ (v : Option (SlotEntry B)). IsSome v) (sym it.1) refl)

        go : (b : Bool) → nat_eq entry.number m ≡ b → counted m old ≤ fields_in m old
        go true is =
            let same : entry.number ≡ m = eqb-true entry.number m is in
            let balance = h.balance entry.number lived in
            let zero_before : counted entry.number l ≡ 0 = sym (seen_counted false slot l entry.number) ∙ zero_count in
            let one = ap (λ (k : ℕ). counted k old) same in
            let two = ap (λ (k : ℕ). fields_in k old) same in
            omega (arith, balance, zero_before, one, two)
        go false is =
            h.go m (none_taken (object_at m l1) (object_at m l) (seen_face false slot l m) (sym (at_other m is) ∙ none2))

    pub one_more : HaveGone old
        (release_all (words_of (entry.item).body)
        (remove_entry (nat_eq entry.number) (change_in slot (with_waiting false) l))) (taken ++ entry ∷ [])
    one_more = record {
      in_order = released_order ws l2 order;
      covered = λ m. omega (arith, count_now m, fields_now m, h.covered m);
      balance = λ m lives. omega (arith, count_now m, fields_now m, h.balance m (lived_now m lives));
      waiting =
          released_each (λ object. (object.item).count ≡ 0
          → object.waiting ≡ true) ws l2 covers less_waits waits_taken;
      stay = λ m lives. face_now m lives ∙ h.stay m (lived_now m lives);
      go = gone_now;
      whole = λ measure.
          let pushed = sum_by_push (λ e. measure (entry_mark e)) taken entry in
          let removed = sum_entries-removed (λ e. measure (mark_of e)) entry.number it.0 l1 it.1 in
          let same = ap (λ (i : Occupant B). measure (entry.number, is_boxed i.body)) it.2 in
          let before = seen_sum false slot (λ e. measure (mark_of e)) (λ k p. refl) l in
          let after = released_marks measure ws l2 in
          omega (arith, pushed, removed, same, before, after, h.whole measure);
      many =
          let longer = length-append taken (entry ∷ []) in
          let removed = length-removed entry.number it.0 l1 it.1 in
          omega (arith, longer, removed, seen_length false slot l, released_length ws l2, h.many);
    }

-- each step is nearer the end
pub smaller_taken : (a b r p q : ℕ) → a + 1 ≡ b → a * (r + 1) + min p r < b * (r + 1) + min q r
smaller_taken a b r p q is =
    let more : b * (r + 1) ≡ a * (r + 1) + (r + 1) = ap (λ (k : ℕ). k * (r + 1)) (sym is) ∙ grown a r in
    omega (arith, more)
  where
    grown : (a r : ℕ) → (a + 1) * (r + 1) ≡ a * (r + 1) + (r + 1)
    grown a r = omega arith

pub smaller_popped : (a r p q : ℕ) → p + 1 ≡ q → q ≤ r → a * (r + 1) + min p r < a * (r + 1) + min q r
smaller_popped a r p q is within = omega arith
