-- What a sweep is once all that nothing counts was taken out.
use Rattle.std.proofs.Common.{◌≡◌, ℕ, Bool, true, false, cond, List, [], ◌∷◌, ◌++◌, refl, sym, subst, ap, ◌∙◌, nat_eq, arith, Option, Some, None, length, zero, suc, ◌+◌, ◌-◌, ◌≤◌, ◌<◌, ◌^◌, ◌⊎◌, inl, inr, map, not, nat_le}
use Rattle.std.specs.Prelude.{IsSomeAnd, IsSome, IfSome, Contains, filter, sum_by}
use Rattle.std.specs.Option.{option_map, option_map_or, is_none}
use Rattle.std.specs.Map.{keys_of, values_of}
use Rattle.std.specs.List.Sorted.{IsStrictlyIncreasing}
use Rattle.std.proofs.lemmas.Bool.{eqb-true}
use Rattle.std.proofs.lemmas.List.{append-nil}
use Rattle.std.proofs.lemmas.List.Sums.{sum_by-cons}
use Rattle.std.proofs.lemmas.List.Filters.{sum_by-filter_both}
use Rattle.std.proofs.lemmas.List.Kept.{IsStrictlyIncreasing-filter}
use Rattle.std.proofs.lemmas.Map.Entries.{lookup-filter-keys}
use Rattle.ash_host.specs.declared.event.Event.{Event}
use Rattle.ash_host.specs.declared.event.Event.TheVariants.{Dropped}
use Rattle.ash_host.specs.Objects.{object_at, numbers, IsInOrder, Lives, handles, handles_to}
use Rattle.ash_host.specs.Reach.{Reachable, Root, Field}
use Rattle.ash_host.proofs.Membership.{is_among_yes, is_among_says, numbers-filter}
use Rattle.ash_host.proofs.CountLaws.{handles_counted, counted_handles}
use Rattle.ash_host.proofs.Order.{same_in_order, object_here, object_later, none_after, in_order_after}
use Rattle.ash_slots.specs.declared.entry.Entry.{Entry}
use Rattle.ash_slots.specs.Bodies.{words_of, is_boxed}
use Rattle.ash_slots.specs.Store.{SlotEntry, NoneWaits}
use Rattle.ash_objects.specs.Table.{Living, Table, fields_holding, holds_of}
use Rattle.ash_objects.specs.Counting.{holding, fields_in, living, living_among, living_in, face, face_at, AreCounted, IsTable}
use Rattle.ash_slots.specs.SlotCounting.{counted}
use Rattle.ash_objects.specs.Collecting.{mark_of, HaveGone, AreInOrder, marked_since, marked_drops}
use Rattle.ash_objects.specs.Sweeping.{RefersTo, gone_from, gone_since, drops, Collects, RanksFall, LeavesReachable}
use Rattle.ash_objects.proofs.Counts.{object_at-living, numbers-living, count_is}
use Rattle.ash_objects.proofs.Fields.{with_holds, living_face, words_face, one-le-sum}
use Rattle.ash_objects.proofs.Marks.{sum-mapped, object_at-mapped, in_order-mapped}
use Rattle.ash_objects.proofs.Referring.{lives_face}

module _ {B : Type 0} where
  -- the marks of what a contract sees
  abbrev pub living_mark : ℕ × Living B → ℕ × Bool
  living_mark e = (e.0, is_boxed (e.1).body)

  -- the events of what a contract sees
  pub since_is : (settled : ℕ) (gone : List (ℕ × Living B)) → gone_since settled gone
      ≡ marked_since settled (map living_mark gone)
  since_is settled [] = refl
  since_is settled (e ∷ gone) = ap (λ (l : List ℕ). cond (nat_le e.0 settled) (e.0 ∷ l) l) (since_is settled gone)

  pub drops_is : (gone : List (ℕ × Living B)) → drops gone ≡ marked_drops (map living_mark gone)
  drops_is [] = refl
  drops_is (e ∷ gone) = go (is_boxed (e.1).body) (drops_is gone)
    where
      go : (b : Bool) → drops gone ≡ marked_drops (map living_mark gone)
          → map (λ number. Dropped number)
          (keys_of (cond b (e ∷ filter (λ f. is_boxed (f.1).body) gone) (filter (λ f. is_boxed (f.1).body) gone)))
          ≡ map (λ number. Dropped number)
          (keys_of (cond b ((e.0, is_boxed (e.1).body) ∷ filter (λ f. f.1) (map living_mark gone))
          (filter (λ f. f.1) (map living_mark gone))))
      go true later = ap (λ (l : List Event). Dropped e.0 ∷ l) later
      go false later = later

  sum_living : (measure : ℕ × Bool → ℕ) (all l : List (ℕ × SlotEntry B))
      → sum_by (λ e. measure (living_mark e)) (living_among all l) ≡ sum_by (λ e. measure (mark_of e)) l
  sum_living measure all [] = refl
  sum_living measure all (e ∷ l) =
      let now = sum_by-cons (λ (x : ℕ × Living B). measure (living_mark x)) (e.0, living (fields_in e.0 all) e.1) (living_among all l) in
      omega (arith, now, sum_by-cons (λ (x : ℕ × SlotEntry B). measure (mark_of x)) e l, sum_living measure all l)

  none_seen : (m : ℕ) (l : List (ℕ × SlotEntry B)) → object_at m (living_in l) ≡ None → object_at m l ≡ None
  none_seen m l h = go (object_at m l) (sym (object_at-living m l l) ∙ h)
    where
      go : (v : Option (SlotEntry B)) → option_map (living (fields_in m l)) v ≡ None → v ≡ None
      go None e = refl
      go (Some p) e = absurd (cc)

  lives_seen : (m : ℕ) (l : List (ℕ × SlotEntry B)) → Lives (living_in l) m → Lives l m
  lives_seen m l h = go (object_at m l) (subst (λ (v : Option (Living B)). IsSome v) (object_at-living m l l) h)
    where
      go : (v : Option (SlotEntry B)) → IsSome (option_map (living (fields_in m l)) v) → IsSome v
      go None e = e
      go (Some p) e = refl

  seen_at : (m : ℕ) (l : List (ℕ × SlotEntry B)) → object_at m (living_in l)
      ≡ option_map (with_holds (counted m l - fields_in m l)) (face_at m l)
  seen_at m l = object_at-living m l l ∙ living_face m l (fields_in m l)

  module _ (l now : List (ℕ × SlotEntry B)) (taken : List (Entry B)) (o : IsInOrder l) (s : AreCounted l) (h : HaveGone l now taken) where
    lived : (m : ℕ) → Lives now m → Lives l m
    lived m lives = lives_face m l now (sym (h.stay m lives)) lives

    unchanged : (m : ℕ) → Lives now m → object_at m (living_in now) ≡ object_at m (living_in l)
    unchanged m lives =
        let holds : counted m now - fields_in m now ≡ counted m l - fields_in m l = omega (arith, h.balance m lives, h.covered m, s.covered m) in
        seen_at m now ∙ ap (λ (k : ℕ). option_map (with_holds k) (face_at m now)) holds ∙ ap (λ (v : Option (Living B)). option_map (with_holds (counted m l - fields_in m l)) v) (h.stay m lives) ∙ sym (seen_at m l)

    bound_now : (m : ℕ) → counted m now ≤ fields_in m now + 2 ^ 127
    bound_now m = go (object_at m now) refl
      where
        go : (v : Option (SlotEntry B)) → object_at m now ≡ v → counted m now ≤ fields_in m now + 2 ^ 127
        go None is = let zero_count = ap (λ (u : Option (SlotEntry B)). option_map_or (λ object. (object.item).count) u 0) is in omega (arith, zero_count)
        go (Some p) is = let balance = h.balance m (subst (λ (u : Option (SlotEntry B)). IsSome u) (sym is) refl) in omega (arith, balance, s.bounded m)

    short_now : (m : ℕ) → IfSome (object_at m now) (λ object. length (words_of (object.item).body) ≤ 4096)
    short_now m = go (object_at m now) refl
      where
        some : (v : Option (SlotEntry B)) → IsSome v → IfSome v (λ object. length (words_of (object.item).body) ≤ 4096)
            → IsSomeAnd v (λ object. length (words_of (object.item).body) ≤ 4096)
        some None lives small = cc
        some (Some p) lives small = small

        go : (v : Option (SlotEntry B)) → object_at m now ≡ v
            → IfSome v (λ object. length (words_of (object.item).body) ≤ 4096)
        go None is = tt
        go (Some p) is =
            let lives : Lives now m = subst (λ (u : Option (SlotEntry B)). IsSome u) (sym is) refl in
            let there = words_face (λ ws. length ws ≤ 4096) m now l (h.stay m lives) (some (object_at m l) (lived m lives) (s.short m)) in
            subst (λ (u : Option (SlotEntry B)). IsSomeAnd u (λ object. length (words_of (object.item).body) ≤ 4096)) is there

    pub sound_now : AreCounted now
    sound_now = record {
      covered = h.covered;
      bounded = bound_now;
      waiting = h.waiting;
      short = short_now;
      few = omega (arith, h.many, s.few);
    }

    pub table_now : (last settled : ℕ) → IsTable l last settled → IsTable now last settled
    table_now last settled t = record {
      in_order = h.in_order;
      counted = sound_now;
      given = λ m lives. t.given m (lived m lives);
      cleared = t.cleared;
    }

    -- the objects that went, in order
    is_left : ℕ → Bool
    is_left m = not (is_none (object_at m (living_in now)))

    seen_order : (k : List (ℕ × SlotEntry B)) → IsInOrder k → IsInOrder (living_in k)
    seen_order k p = rw (numbers-living k k) p

    filtered_order : (p : ℕ → Bool) → IsInOrder (filter (λ e. p e.0) (living_in l))
    filtered_order p =
        subst IsStrictlyIncreasing (sym (numbers-filter p (living_in l)))
        (IsStrictlyIncreasing-filter p (numbers (living_in l)) (seen_order l o))

    boxed_at : (m : ℕ) (k : List (ℕ × SlotEntry B))
        → option_map (λ (x : Living B). is_boxed x.body) (object_at m (living_in k))
        ≡ option_map (λ (x : Living B). is_boxed x.body) (face_at m k)
    boxed_at m k = ap (λ (v : Option (Living B)). option_map (λ (x : Living B). is_boxed x.body) v) (seen_at m k) ∙ go (face_at m k)
      where
        go : (v : Option (Living B))
            → option_map (λ (x : Living B). is_boxed x.body) (option_map (with_holds (counted m k - fields_in m k)) v)
            ≡ option_map (λ (x : Living B). is_boxed x.body) v
        go None = refl
        go (Some x) = refl

    -- what is left has the marks that it had
    kept_marks : map living_mark (filter (λ e. is_left e.0) (living_in l)) ≡ map living_mark (living_in now)
    unfolding is_left
    kept_marks =
        same_in_order (map living_mark (filter (λ e. is_left e.0) (living_in l))) (map living_mark (living_in now)) (in_order-mapped (λ (x : Living B). is_boxed x.body) (filter (λ e. is_left e.0) (living_in l)) (filtered_order is_left)) (in_order-mapped (λ (x : Living B). is_boxed x.body) (living_in now) (seen_order now h.in_order))
        (λ m.
        object_at-mapped (λ (x : Living B). is_boxed x.body) m (filter (λ e. is_left e.0) (living_in l))
        ∙ ap (λ (v : Option (Living B)). option_map (λ (x : Living B). is_boxed x.body) v) (lookup-filter-keys (nat_eq m) is_left (is_left m) (λ k e. ap is_left (sym (eqb-true m k e))) (living_in l))
        ∙ each m (object_at m (living_in now)) refl
        ∙ sym (object_at-mapped (λ (x : Living B). is_boxed x.body) m (living_in now)))
      where
        each : (m : ℕ) (v : Option (Living B)) → object_at m (living_in now) ≡ v
            → option_map (λ (x : Living B). is_boxed x.body)
            (cond (not (is_none (object_at m (living_in now)))) (object_at m (living_in l)) None)
            ≡ option_map (λ (x : Living B). is_boxed x.body) (object_at m (living_in now))
        each m None is =
            ap (λ (u : Option (Living B)). option_map (λ (x : Living B). is_boxed x.body) (cond (not (is_none u)) (object_at m (living_in l)) None)) is
            ∙ sym (ap (λ (u : Option (Living B)). option_map (λ (x : Living B). is_boxed x.body) u) is)
        each m (Some x) is =
            let lives : Lives now m = lives_seen m now (subst (λ (u : Option (Living B)). IsSome u) (sym is) refl) in
            ap (λ (u : Option (Living B)). option_map (λ (y : Living B). is_boxed y.body) (cond (not (is_none u)) (object_at m (living_in l)) None)) is
            ∙ ap (λ (u : Option (Living B)). option_map (λ (y : Living B). is_boxed y.body) u) (sym (unchanged m lives))

    pub gone_marks : AreInOrder taken (map living_mark (gone_from (living_in l) (living_in now)))
    unfolding is_left
    gone_marks = record {
      in_order =
          in_order-mapped (λ (x : Living B). is_boxed x.body) (gone_from (living_in l) (living_in now))
          (filtered_order (λ m. is_none (object_at m (living_in now))));
      same = λ measure.
          let f : ℕ × Living B → ℕ = λ e. measure (living_mark e) in
          let parts = sum_by-filter_both (λ (e : ℕ × Living B). is_none (object_at e.0 (living_in now))) (λ (e : ℕ × Living B). is_left e.0) (λ e. refl) f (living_in l) in
          let all = sum_living measure l l in
          let rest = sum_living measure now now in
          let gone = sum-mapped living_mark measure (gone_from (living_in l) (living_in now)) in
          let kept = sum-mapped living_mark measure (filter (λ e. is_left e.0) (living_in l)) in
          let still = sum-mapped living_mark measure (living_in now) in
          let same = ap (λ (k : List (ℕ × Bool)). sum_by measure k) kept_marks in
          omega (arith, parts, all, rest, gone, kept, still, same, h.whole measure);
    }

    module _ (done : NoneWaits now) where
      some_count : (m : ℕ) → Lives now m → 0 < counted m now
      some_count m lives = go (object_at m now) refl (h.waiting m) (done m) lives
        where
          each : (p : SlotEntry B) (n : ℕ) → (p.item).count ≡ n → ((p.item).count ≡ 0 → p.waiting ≡ true)
              → p.waiting ≡ false → 0 < (p.item).count
          each p zero is waits rests = let yes = waits is in absurd (cc)
          each p (suc n) is waits rests = omega (arith, is)

          go : (v : Option (SlotEntry B)) → object_at m now ≡ v
              → IfSome v (λ object. (object.item).count ≡ 0 → object.waiting ≡ true)
              → IfSome v (λ object. object.waiting ≡ false) → IsSome v → 0 < counted m now
          go None is waits rests lives = cc
          go (Some p) is waits rests lives =
              let mine = ap (λ (u : Option (SlotEntry B)). option_map_or (λ object. (object.item).count) u 0) is in
              omega (arith, mine, each p (p.item).count refl waits rests)

      no_holds : (m : ℕ) → object_at m (living_in now) ≡ None
          → option_map_or (λ object. object.holds) (object_at m (living_in l)) 0 ≡ 0
      no_holds m none = ap (λ (v : Option (Living B)). option_map_or (λ object. object.holds) v 0) (seen_at m l) ∙ go (face_at m l)
        where
          go : (v : Option (Living B))
              → option_map_or (λ object. object.holds) (option_map (with_holds (counted m l - fields_in m l)) v) 0 ≡ 0
          go None = refl
          go (Some x) = omega (arith, h.go m (none_seen m now none))

      no_reference : (one other : ℕ) → object_at other (living_in now) ≡ None → Lives (living_in now) one
          → RefersTo (living_in l) one other → ⊥
      no_reference one other none lives refers =
          let alive = lives_seen one now lives in
          let there = subst (λ (v : Option (Living B)). IsSomeAnd v (λ object. Contains (handles (words_of object.body)) other)) (sym (unchanged one alive) ∙ seen_at one now) refers in
          go (object_at one now) refl there
        where
          go : (v : Option (SlotEntry B)) → object_at one now ≡ v
              → IsSomeAnd (option_map (with_holds (counted one now - fields_in one now)) (option_map face v))
              (λ object. Contains (handles (words_of object.body)) other) → ⊥
          go None is h' = h'
          go (Some p) is h' =
              let some = handles_counted other (words_of (p.item).body) (is_among_yes other (handles (words_of (p.item).body)) h') in
              let part = one-le-sum (holding other) one now p is in
              let zero_count = ap (λ (u : Option (SlotEntry B)). option_map_or (λ object. (object.item).count) u 0) (none_seen other now none) in
              omega (arith, some, part, zero_count, h.covered other)

      pub collects_now : (pool services : List B) (last settled : ℕ) (gone : List ℕ) → Collects (record { objects = living_in l; pool = pool; services = services; last = last; settled = settled; gone = gone }) (record { objects = living_in now; pool = pool; services = services; last = last; settled = settled; gone = gone ++ marked_since settled (map living_mark (gone_from (living_in l) (living_in now))) })
      collects_now pool services last settled gone = record {
        counted = λ m lives. let some = some_count m (lives_seen m now lives) in omega (arith, count_is m now sound_now, some);
        unchanged = λ m lives. unchanged m (lives_seen m now lives);
        not_held = no_holds;
        not_referred = no_reference;
        others = ap (λ (ns : List ℕ). record { objects = living_in now; pool = pool; services = services; last = last; settled = settled; gone = gone ++ ns }) (sym (since_is settled (gone_from (living_in l) (living_in now))));
      }

  pub order_now : (l now : List (ℕ × SlotEntry B)) (taken : List (Entry B)) → HaveGone l now taken
      → IsInOrder (living_in now)
  order_now l now taken h = rw (numbers-living now now) h.in_order

  -- an object that fields hold is referred to
  some_refers : (n : ℕ) (objects : List (ℕ × Living B)) → IsInOrder objects → 0 < fields_holding n objects → (one : ℕ)
      × RefersTo objects one n
  some_refers n [] o h = absurd (omega arith)
  some_refers n (e ∷ l) o h =
      go (handles_to n (words_of (e.1).body)) refl (λ more. some_refers n l (in_order_after e l o) more)
    where
      both : fields_holding n (e ∷ l) ≡ handles_to n (words_of (e.1).body) + fields_holding n l
      both = sum_by-cons (λ (object : Living B). handles_to n (words_of object.body)) e.1 (values_of l)

      move : (one : ℕ) → RefersTo l one n → RefersTo (e ∷ l) one n
      move one f = subst (λ (v : Option (Living B)). IsSomeAnd v (λ object. Contains (handles (words_of object.body)) n)) (sym (object_later one e l (none_after e l one o (lives (object_at one l) f)))) f
        where
          lives : (v : Option (Living B)) → IsSomeAnd v (λ object. Contains (handles (words_of object.body)) n)
              → IsSome v
          lives None f = absurd f
          lives (Some x) f = refl

      go : (k : ℕ) → handles_to n (words_of (e.1).body) ≡ k → (0 < fields_holding n l → (one : ℕ) × RefersTo l one n)
          → (one : ℕ) × RefersTo (e ∷ l) one n
      go zero none later = let r = later (omega (arith, none, both)) in (r.0, move r.0 r.1)
      go (suc k) some later =
          let among = is_among_says n (handles (words_of (e.1).body)) (counted_handles n (words_of (e.1).body) (omega (arith, some))) in
          (e.0, subst (λ (v : Option (Living B)). IsSomeAnd v (λ object. Contains (handles (words_of object.body)) n)) (sym (object_here e l)) among)

  -- where ranks fall along references, what is left is what was reachable
  module _ (old new : Table B) (c : Collects old new) (order : IsInOrder new.objects) (rank : ℕ → ℕ) (top : ℕ) (ranks : RanksFall rank top old) where
    from_none : (v : Option (Living B)) → (v ≡ None → ⊥) → IsSome v
    from_none None h = absurd (h refl)
    from_none (Some x) h = refl

    reached_lives : (n : ℕ) → Reachable (λ root. 0 < holds_of root old) (RefersTo old.objects) n → Lives new.objects n
    reached_lives n (Root held) = from_none (object_at n new.objects) (λ none. let zero_holds = c.not_held n none in omega (arith, held, zero_holds))
    reached_lives n (Field {one} r f) =
        from_none (object_at n new.objects) (λ none. c.not_referred one n none (reached_lives one r) f)

    lives_of : (one n : ℕ) (v : Option (Living B))
        → IsSomeAnd v (λ object. Contains (handles (words_of object.body)) n) → IsSome v
    lives_of one n None f = absurd f
    lives_of one n (Some x) f = refl

    lived_old : (n : ℕ) → Lives new.objects n → Lives old.objects n
    lived_old n lives = subst (λ (v : Option (Living B)). IsSome v) (c.unchanged n lives) lives

    held_or_referred : (n : ℕ) → Lives new.objects n → (0 < holds_of n old)
        ⊎ ((one : ℕ) × RefersTo old.objects one n × Lives new.objects one)
    held_or_referred n lives =
        go (holds_of n new) refl
      where
        same_holds : holds_of n new ≡ holds_of n old
        same_holds = ap (λ (v : Option (Living B)). option_map_or (λ object. object.holds) v 0) (c.unchanged n lives)

        go : (k : ℕ) → holds_of n new ≡ k → (0 < holds_of n old)
            ⊎ ((one : ℕ) × RefersTo old.objects one n × Lives new.objects one)
        go (suc k) is = inl (omega (arith, is, same_holds))
        go zero is =
            let r = some_refers n new.objects order (omega (arith, c.counted n lives, is)) in
            let alive = lives_of r.0 n (object_at r.0 new.objects) r.1 in
            inr (r.0, subst (λ (v : Option (Living B)). IsSomeAnd v (λ object. Contains (handles (words_of object.body)) n)) (c.unchanged r.0 alive) r.1, alive)

    live_reached : (fuel n : ℕ) → top ≤ fuel + rank n → Lives new.objects n
        → Reachable (λ root. 0 < holds_of root old) (RefersTo old.objects) n
    live_reached zero n bound lives = absurd (omega (arith, ranks.below n (lived_old n lives), bound))
    live_reached (suc fuel) n bound lives =
        elim (held_or_referred n lives) [
          | inl held ↦ Root held
          | inr (one, refers, alive) ↦ Field (live_reached fuel one (omega (arith, ranks.falls one n refers, bound)) alive) refers
        ]

    pub leaves_reachable : LeavesReachable old new
    leaves_reachable n = (λ lives. live_reached top n (omega arith) lives, λ reached. reached_lives n reached)

module _ {B : Type 0} where
  -- nothing was taken out
  pub none_gone : (l : List (ℕ × SlotEntry B)) → IsInOrder l → AreCounted l → HaveGone l l []
  none_gone l o s = record {
    in_order = o;
    covered = s.covered;
    balance = λ n lives. refl;
    waiting = s.waiting;
    stay = λ n lives. refl;
    go = λ n none. let zero = ap (λ (v : Option (SlotEntry B)). option_map_or (λ object. (object.item).count) v 0) none in omega (arith, zero);
    whole = λ measure. omega arith;
    many = omega arith;
  }

  pub none_marked : (went : List (ℕ × Bool)) → AreInOrder {B = B} [] went → went ≡ []
  none_marked [] h = refl
  none_marked (e ∷ went) h =
      let one = h.same (λ x. 1) in
      let cons = sum_by-cons (λ (x : ℕ × Bool). 1) e went in
      absurd (omega (arith, one, cons))

  -- a sweep that has nothing to take
  module _ (l : List (ℕ × SlotEntry B)) (o : IsInOrder l) (s : AreCounted l) (done : NoneWaits l) where
    no_marks : map living_mark (gone_from (living_in l) (living_in l)) ≡ []
    no_marks = none_marked _ (gone_marks l l [] o s (none_gone l o s))

    pub collects_none : (pool services : List B) (last settled : ℕ) (gone : List ℕ) → Collects (record { objects = living_in l; pool = pool; services = services; last = last; settled = settled; gone = gone }) (record { objects = living_in l; pool = pool; services = services; last = last; settled = settled; gone = gone })
    collects_none pool services last settled gone =
        let now = collects_now l l [] o s (none_gone l o s) done pool services last settled gone in
        let P : List ℕ → Type 0 = λ (k : List ℕ). Collects (record { objects = living_in l; pool = pool; services = services; last = last; settled = settled; gone = gone }) (record { objects = living_in l; pool = pool; services = services; last = last; settled = settled; gone = k }) in
        subst P (ap (λ (k : List (ℕ × Bool)). gone ++ marked_since settled k) no_marks ∙ append-nil gone) now

    pub drops_none : (events : List Event) → events ≡ events ++ drops (gone_from (living_in l) (living_in l))
    drops_none events =
        sym (ap (λ (k : List Event). events ++ k) (drops_is (gone_from (living_in l) (living_in l))
        ∙ ap marked_drops no_marks) ∙ append-nil events)

    pub order_none : IsInOrder (living_in l)
    order_none = order_now l l [] (none_gone l o s)
