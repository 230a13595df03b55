-- All objects of a state in their slots, and their counts.
use Rattle.std.proofs.Common.{◌≡◌, ℕ, true, false, List, [], refl, sym, subst, ap, ◌∙◌, arith, Option, Some, None, length, ◌≤◌, get_or, map}
use Rattle.std.specs.Prelude.{IsSome, IfSome, All}
use Rattle.std.specs.Option.{option_map, option_map_or}
use Rattle.std.specs.List.Sorted.{IsStrictlyIncreasing}
use Rattle.ash_host.specs.declared.word.Word.{Word}
use Rattle.ash_host.specs.Objects.{object_at, numbers, Lives, IsInOrder, AreNumbered, handle}
use Rattle.ash_host.proofs.Order.{same_in_order}
use Rattle.ash_slots.specs.declared.body.Body.{Body}
use Rattle.ash_slots.specs.Bodies.{words_of}
use Rattle.ash_slots.specs.Store.{SlotEntry}
use Rattle.ash_slots.specs.SlotCounting.{counted}
use Rattle.ash_objects.specs.declared.restoring.SavedObject.{SavedObject}
use Rattle.ash_objects.specs.declared.restoring.SavedHostObject.{SavedHostObject}
use Rattle.ash_objects.specs.Table.{Living}
use Rattle.ash_objects.specs.Counting.{fields_in, living, living_in, words_at, AllLive, AreGiven, IsTable, face, face_at}
use Rattle.ash_objects.specs.Restoring.{stored_in, IsFresh, AreInserted, refer_objects, bodies_of}
use Rattle.ash_objects.proofs.Counts.{object_at-living, numbers-living}
use Rattle.ash_objects.proofs.Marks.{object_at-mapped, in_order-mapped}
use Rattle.ash_objects.proofs.Referring.{words_at_face}
use Rattle.ash_objects.proofs.Recounting.{all_numbers, referred_face, referred_fields, referred_order, referred_length, referred_waits, referred_all}
use Rattle.ash_objects.proofs.Putting.{put_numbers, put_length, put_words, put_fresh}

module _ {B : Type 0} where
  -- All objects of a state, put into slots.
  module _ (objects : List SavedObject) (boxes : List (Option B)) (l : List (ℕ × SlotEntry B)) (last : ℕ) (put : AreInserted objects boxes l) (numbered : AreNumbered last (stored_in objects)) (few : length objects ≤ 4096) (short : (m : ℕ) → IfSome (object_at m (stored_in objects)) (λ body. length (words_of body) ≤ 4096)) (alive : (m : ℕ) → IfSome (object_at m (stored_in objects)) (λ body. All (λ word. IfSome (handle word) (Lives (stored_in objects))) (words_of body))) where
    pub stock_order : IsInOrder l
    stock_order =
        subst (λ (ns : List ℕ). IsStrictlyIncreasing ns) (sym (put_numbers objects boxes l put)) numbered.in_order

    -- what lives there is stored, and the other way round
    lives_there : (m : ℕ) → Lives (stored_in objects) m → Lives l m
    lives_there m h = go (object_at m l) (object_at m (stored_in objects)) (put_words m objects boxes l put) h
      where
        go : (v : Option (SlotEntry B)) (u : Option (Body SavedHostObject)) → option_map (λ p. words_of (p.item).body) v
            ≡ option_map (λ body. words_of body) u → IsSome u → IsSome v
        go v None same h = absurd (cc)
        go None (Some body) same h = absurd (cc)
        go (Some p) (Some body) same h = refl

    lives_here : (m : ℕ) → Lives l m → Lives (stored_in objects) m
    lives_here m h = go (object_at m l) (object_at m (stored_in objects)) (put_words m objects boxes l put) h
      where
        go : (v : Option (SlotEntry B)) (u : Option (Body SavedHostObject)) → option_map (λ p. words_of (p.item).body) v
            ≡ option_map (λ body. words_of body) u → IsSome v → IsSome u
        go None u same h = absurd (cc)
        go (Some p) None same h = absurd (cc)
        go (Some p) (Some body) same h = refl

    -- what holds of the words that were stored holds of those that are there
    words_hold : (P : List Word → Type 0) → P [] → (m : ℕ)
        → IfSome (object_at m (stored_in objects)) (λ body. P (words_of body)) → P (words_at m l)
    words_hold P none m h = go (object_at m l) (object_at m (stored_in objects)) (put_words m objects boxes l put) h
      where
        go : (v : Option (SlotEntry B)) (u : Option (Body SavedHostObject)) → option_map (λ p. words_of (p.item).body) v
            ≡ option_map (λ body. words_of body) u → IfSome u (λ body. P (words_of body))
            → P (option_map_or (λ object. words_of (object.item).body) v [])
        go None u same h = none
        go (Some p) None same h = absurd (cc)
        go (Some p) (Some body) same h = let ws : words_of (p.item).body ≡ words_of body = cc in subst P (sym ws) h

    alive_there : (h : Option ℕ) → IfSome h (Lives (stored_in objects)) → IfSome h (Lives l)
    alive_there None h = tt
    alive_there (Some n) h = lives_there n h

    pub stock_alive : (m : ℕ) → AllLive l (words_at m l)
    stock_alive m =
        let stored : All (λ word. IfSome (handle word) (Lives (stored_in objects))) (words_at m l) = words_hold (λ ws. All (λ word. IfSome (handle word) (Lives (stored_in objects))) ws) (λ k d within. absurd (omega arith)) m (alive m) in
        λ k d within. alive_there (handle (get_or (words_at m l) k d)) (stored k d within)

    pub stock_short : (m : ℕ) → length (words_at m l) ≤ 4096
    stock_short m = words_hold (λ ws. length ws ≤ 4096) (omega arith) m (short m)

    pub stock_uncounted : (m : ℕ) → counted m l ≡ 0
    stock_uncounted m = go (object_at m l) (put_fresh m objects boxes l put)
      where
        go : (v : Option (SlotEntry B)) → IfSome v IsFresh → option_map_or (λ object. (object.item).count) v 0 ≡ 0
        go None h = refl
        go (Some p) h = h.uncounted

    -- what is asked of the numbers to count the handles of all
    pub stock_there : All (λ number. Lives l number × AllLive l (words_at number l)
        × (length (words_at number l) ≤ 4096)) (numbers l)
    stock_there =
        all_numbers (λ number. Lives l number × AllLive l (words_at number l)
        × (length (words_at number l) ≤ 4096)) l stock_order (λ n h. (h, stock_alive n, stock_short n))

    abbrev pub stocked : List (ℕ × SlotEntry B)
    stocked = refer_objects (numbers l) l

    stocked_counted : (m : ℕ) → counted m stocked ≡ fields_in m stocked
    stocked_counted m =
        omega (arith, referred_all m l stock_order stock_uncounted stock_alive, referred_fields (numbers l) m l)

    stocked_waits : (m : ℕ) → IfSome (object_at m stocked) (λ p. p.waiting ≡ true)
    stocked_waits = referred_waits (numbers l) l (λ m. go (object_at m l) (put_fresh m objects boxes l put))
      where
        go : (v : Option (SlotEntry B)) → IfSome v IsFresh → IfSome v (λ p. p.waiting ≡ true)
        go None h = tt
        go (Some p) h = h.waits

    -- what a contract sees of each object but its holds
    seen : (P : Living B → Type 0) → ((p : SlotEntry B) → IsFresh p → P (face p)) → (m : ℕ) → IfSome (face_at m stocked) P
    seen P each m =
        subst (λ (v : Option (Living B)). IfSome v P) (sym (referred_face (numbers l) m l)) (go (object_at m l) (put_fresh m objects boxes l put))
      where
        go : (v : Option (SlotEntry B)) → IfSome v IsFresh → IfSome (option_map face v) P
        go None h = tt
        go (Some p) h = each p h

    stocked_short : (m : ℕ) → IfSome (object_at m stocked) (λ p. length (words_of (p.item).body) ≤ 4096)
    stocked_short m =
        go (object_at m stocked) refl
      where
        go : (v : Option (SlotEntry B)) → object_at m stocked ≡ v → IfSome v (λ p. length (words_of (p.item).body) ≤ 4096)
        go None is = tt
        go (Some p) is =
            let mine = ap (λ (v : Option (SlotEntry B)). option_map_or (λ object. words_of (object.item).body) v []) is in
            let words : words_of (p.item).body ≡ words_at m l = sym mine ∙ words_at_face m stocked l (referred_face (numbers l) m l) in
            let many = ap length words in
            omega (arith, many, stock_short m)

    stocked_given : AreGiven last stocked
    stocked_given m h = numbered.given m (lives_here m (go (object_at m stocked) (object_at m l) (referred_face (numbers l) m l) h))
      where
        go : (v u : Option (SlotEntry B)) → option_map face v ≡ option_map face u → IsSome v → IsSome u
        go None u same h = absurd (cc)
        go (Some p) None same h = absurd (cc)
        go (Some p) (Some q) same h = refl

    -- they are the objects of a table
    pub stock_table : IsTable stocked last last
    stock_table = record {
      in_order = referred_order (numbers l) l stock_order;
      counted = record {
        covered = λ m. omega (arith, stocked_counted m);
        bounded = λ m. omega (arith, stocked_counted m);
        waiting = λ m. waits (object_at m stocked) (stocked_waits m);
        short = stocked_short;
        few = omega (arith, referred_length (numbers l) l, put_length objects boxes l put, few);
      };
      given = stocked_given;
      cleared = omega arith;
    }
      where
        waits : (v : Option (SlotEntry B)) → IfSome v (λ p. p.waiting ≡ true)
            → IfSome v (λ p. (p.item).count ≡ 0 → p.waiting ≡ true)
        waits None h = tt
        waits (Some p) h = λ none. h

    -- what a contract sees of them: their bodies, no hold and no mark
    pub stock_bodies : bodies_of (living_in stocked) ≡ map (λ e. (e.0, (e.1.item).body)) l
    stock_bodies =
        same_in_order (bodies_of (living_in stocked)) (map (λ e. (e.0, (e.1.item).body)) l) (in_order-mapped (λ x. x.body) (living_in stocked) (subst (λ (ns : List ℕ). IsStrictlyIncreasing ns) (sym (numbers-living stocked stocked)) (referred_order (numbers l) l stock_order))) (in_order-mapped (λ p. (p.item).body) l stock_order)
        (λ m.
        object_at-mapped (λ x. x.body) m (living_in stocked)
        ∙ ap (λ (v : Option (Living B)). option_map (λ x. x.body) v) (object_at-living m stocked stocked)
        ∙ inner (fields_in m stocked) (object_at m stocked)
        ∙ ap (λ (v : Option (Living B)). option_map (λ x. x.body) v) (referred_face (numbers l) m l)
        ∙ outer (object_at m l)
        ∙ sym (object_at-mapped (λ p. (p.item).body) m l))
      where
        inner : (k : ℕ) (v : Option (SlotEntry B)) → option_map (λ (x : Living B). x.body) (option_map (living k) v)
            ≡ option_map (λ (x : Living B). x.body) (option_map face v)
        inner k None = refl
        inner k (Some p) = refl

        outer : (v : Option (SlotEntry B)) → option_map (λ (x : Living B). x.body) (option_map face v)
            ≡ option_map (λ (p : SlotEntry B). (p.item).body) v
        outer None = refl
        outer (Some p) = refl

    pub stock_held : (m : ℕ) → option_map_or (λ object. object.holds) (object_at m (living_in stocked)) 0 ≡ 0
    stock_held m =
        ap (λ (v : Option (Living B)). option_map_or (λ object. object.holds) v 0) (object_at-living m stocked stocked)
        ∙ go (object_at m stocked) refl
      where
        go : (v : Option (SlotEntry B)) → object_at m stocked ≡ v
            → option_map_or (λ object. object.holds) (option_map (living (fields_in m stocked)) v) 0 ≡ 0
        go None is = refl
        go (Some p) is =
            let mine = ap (λ (v : Option (SlotEntry B)). option_map_or (λ object. (object.item).count) v 0) is in
            omega (arith, mine, stocked_counted m)

    pub stock_unmarked : (m : ℕ) → IfSome (object_at m (living_in stocked)) (λ object. object.touched ≡ false)
    stock_unmarked m =
        subst (λ (v : Option (Living B)). IfSome v (λ object. object.touched ≡ false)) (sym (object_at-living m stocked stocked)) (go (object_at m stocked) (seen (λ object. object.touched ≡ false) (λ p h. h.unmarked) m))
      where
        go : (v : Option (SlotEntry B)) → IfSome (option_map face v) (λ object. object.touched ≡ false)
            → IfSome (option_map (living (fields_in m stocked)) v) (λ object. object.touched ≡ false)
        go None h = tt
        go (Some p) h = h
