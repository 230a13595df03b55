-- A release point is the meaning's.
use Rattle.std.proofs.Common.{◌≡◌, ℕ, zero, suc, ◌<◌, ◌++◌, Bool, true, false, cond, List, [], ◌∷◌, length, map, refl, sym, ap, ◌∙◌, subst, arith, nat_eq, inl, inr}
use Rattle.std.specs.Prelude.{Option, Some, None, IfSome, Contains, filter, is_some, nat_le, slice_index_or}
use Rattle.std.specs.Option.{is_none, option_map_or, option_and_then}
use Rattle.std.specs.Cmp.{nat_eq_equiv}
use Rattle.std.specs.Map.{keys_of}
use Rattle.std.proofs.lemmas.Bool.{eqb-true}
use Rattle.std.proofs.lemmas.Bool.Decides.{nat_tests}
use Rattle.std.proofs.lemmas.List.Elements.{All-contains, All-contains_itself, All-filter, filter_passes, Contains-append_left, Contains-append_right, Contains-append_cases}
use Rattle.std.proofs.lemmas.List.Folds.{flat_map-map}
use Rattle.std.proofs.lemmas.Map.Views.{Contains-keys_from_lookup, IsSome-lookup_from_Contains}
use Rattle.ash_host.specs.declared.event.Event.{Event}
use Rattle.ash_host.specs.declared.event.Event.TheVariants.{Dropped}
use Rattle.ash_host.specs.declared.host_object.HostObject.{Ghosts}
use Rattle.ash_host.specs.Objects.{object_at, handles, IsInOrder, LiveObjects}
use Rattle.ash_host.specs.Reach.{Root, is_among, after_sweep, drops_of_sweep}
use Rattle.ash_host.specs.Records.{HostRecord}
use Rattle.ash_host.proofs.Membership.{or_cases, or_first, or_second, is_among_yes, is_among_says}
use Rattle.ash_meaning.specs.Activity.{World}
use Rattle.ash_meaning.specs.Releases as releases
use Rattle.ash_meaning.specs.Releases.{sweep, release as release_point}
use Rattle.ash_meaning.specs.Runs.{Done}
use Rattle.ash_slots.specs.Bodies.{is_boxed}
use Rattle.ash_slots.specs.SlotResponses.{box_of}
use Rattle.ash_objects.specs.Table.{Living, Table, holds_of}
use Rattle.ash_objects.specs.Responses.{box_at}
use Rattle.ash_objects.specs.Sweeping.{Collects, LeavesReachable, gone_from, gone_since, drops}
use Rattle.ash_objects.proofs.Marks.{in_order-mapped}
use Rattle.ash_object_ranks.specs.ShownTables.{objects_shown}
use Rattle.ash_object_ranks.specs.SweepLaws.{ReachTheSame, SweptByCounts}
use Rattle.ash_object_ranks.proofs.ShownTables.{living_shown, tables_have_ranks}
use Rattle.ash_object_ranks.proofs.Sweeps.{all, dropped}
use Rattle.ash_run_steps.specs.Answered.{drawn_in}
use Rattle.ash_run_steps.specs.Becoming.{Becomes}
use Rattle.ash_run_steps.specs.Following.{HasGone, KeepsMarks, IsMarked, Follows}
use Rattle.ash_run_steps.specs.Guarded.{give}
use Rattle.ash_run_steps.specs.GuardedSteps.{RankTest, release}
use Rattle.ash_run_steps.specs.RunStates.{State, Names, HoldsRoots, roots_in, times, shown, world_shown, frame_shown, box_shown}
use Rattle.ash_run_steps.proofs.Followed.{keeps_by}
use Rattle.ash_run_steps.proofs.Roots.{times_cons, times_one}

-- what is counted is there

pub among_times : (n : ℕ) (ns : List ℕ) → 0 < times n ns → is_among ns n ≡ true
among_times n [] some = absurd (omega (arith, some))
among_times n (m ∷ ns) some = go (nat_eq n m) refl (λ more. among_times n ns more)
  where
    go : (b : Bool) → nat_eq n m ≡ b → (0 < times n ns → is_among ns n ≡ true) → is_among (m ∷ ns) n ≡ true
    go true is later = or_first (nat_eq n m) (is_among ns n) is
    go false is later =
        let one = times_one n m ∙ ap (λ (b : Bool). cond b 1 0) is in
        or_second (nat_eq n m) (is_among ns n) (later (omega (arith, times_cons n m ns)))

times_among : (n : ℕ) (ns : List ℕ) → is_among ns n ≡ true → 0 < times n ns
times_among n [] is = cc
times_among n (m ∷ ns) is =
    elim (or_cases (nat_eq n m) (is_among ns n) is) [
      | inl here ↦ let one = times_one n m ∙ ap (λ (b : Bool). cond b 1 0) here in omega (arith, times_cons n m ns)
      | inr later ↦ let some = times_among n ns later in omega (arith, times_cons n m ns)
    ]

module _ {B : Type 0} where
  pub held_by_roots : (table : Table B) (held : List ℕ) → HoldsRoots table held → ReachTheSame held table
  held_by_roots table held counts = record {
    holds = λ number some. Root (is_among_says number held (among_times number held (omega (arith, counts number, some))));
    numbers = λ number is. Root (omega (arith, counts number, times_among number held (is_among_yes number held is)));
  }

  pub holds_swept : (old new : Table B) → Collects old new → (m : ℕ) → holds_of m new ≡ holds_of m old
  holds_swept old new collects m = go (object_at m new.objects) refl
    where
      go : (o : Option (Living B)) → object_at m new.objects ≡ o → holds_of m new ≡ holds_of m old
      go None is = ap (λ (p : Option (Living B)). option_map_or (λ (x : Living B). x.holds) p 0) is ∙ sym (collects.not_held m is)
      go (Some x) is = ap (λ (p : Option (Living B)). option_map_or (λ (y : Living B). y.holds) p 0) (collects.unchanged m (ap is_some is))

  -- who has a mark had it
  pub marked_swept : (old new : Table B) → Collects old new → (n : ℕ) → IsMarked new n → IsMarked old n
  marked_swept old new collects n is = record {
    object = is.object;
    there = sym (collects.unchanged n (ap is_some is.there)) ∙ is.there;
    marked = is.marked;
  }

module _ {B : Type 0} (G : Ghosts B) where
  box_stays : (old new : Table B) → Collects old new → (n : ℕ) (box : B) → box_at n new ≡ Some box → box_at n old ≡ Some box
  box_stays old new collects n box at = go (object_at n new.objects) refl
    where
      go : (o : Option (Living B)) → object_at n new.objects ≡ o → box_at n old ≡ Some box
      go None is = let none = ap (option_and_then (λ (x : Living B). box_of x.body)) is in cc
      go (Some x) is = ap (option_and_then (λ (y : Living B). box_of y.body)) (sym (collects.unchanged n (ap is_some is))) ∙ at

  -- the numbers that went

  contains_cons : {X : Type 0} (y x : X) (xs : List X) → Contains xs x → Contains (y ∷ xs) x
  contains_cons y x xs h = (suc h.0, omega (arith, h.1), h.2)

  contains_kept : {X : Type 0} (p : X → Bool) (x : X) (xs : List X) → p x ≡ true → Contains xs x → Contains (filter p xs) x
  contains_kept p x [] passes h = absurd (omega (arith, h.1))
  contains_kept {X} p x (y ∷ xs) passes h = go h.0 h.1 h.2 (λ there. contains_kept p x xs passes there)
    where
      first : (b : Bool) → b ≡ true → y ≡ x → Contains (cond b (y ∷ filter p xs) (filter p xs)) x
      first true on is = (0, omega arith, is)
      first false on is = absurd (cc)

      later : (b : Bool) → Contains (filter p xs) x → Contains (cond b (y ∷ filter p xs) (filter p xs)) x
      later true there = contains_cons y x (filter p xs) there
      later false there = there

      go : (k : ℕ) → k < length (y ∷ xs) → slice_index_or (y ∷ xs) k x ≡ x → (Contains xs x → Contains (filter p xs) x)
          → Contains (cond (p y) (y ∷ filter p xs) (filter p xs)) x
      go zero within at rest = first (p y) (ap p at ∙ passes) at
      go (suc k) within at rest = later (p y) (rest (k, omega (arith, within), at))

  kept_contains : {X : Type 0} (p : X → Bool) (x : X) (xs : List X) → Contains (filter p xs) x → (p x ≡ true) × Contains xs x
  kept_contains p x xs h = (
    All-contains (λ y. p y ≡ true) (filter p xs) x (filter_passes p xs) h,
    All-contains (Contains xs) (filter p xs) x (All-filter p (Contains xs) xs (All-contains_itself xs)) h,
  )

  keys_kept : (t : ℕ → Bool) (l : List (ℕ × Living B)) → keys_of (filter (λ e. t e.0) l) ≡ filter t (keys_of l)
  keys_kept t [] = refl
  keys_kept t (e ∷ l) = go (t e.0) (keys_kept t l)
    where
      go : (b : Bool) → keys_of (filter (λ e. t e.0) l) ≡ filter t (keys_of l)
          → keys_of (cond b (e ∷ filter (λ e. t e.0) l) (filter (λ e. t e.0) l)) ≡ cond b (e.0 ∷ filter t (keys_of l)) (filter t (keys_of l))
      go true later = ap (λ (ns : List ℕ). e.0 ∷ ns) later
      go false later = later

  module _ (old new : Table B) where
    since_is : gone_since old.settled (gone_from old.objects new.objects)
        ≡ filter (λ n. nat_le n old.settled) (filter (λ n. is_none (object_at n new.objects)) (keys_of old.objects))
    since_is = ap (filter (λ n. nat_le n old.settled)) (keys_kept (λ n. is_none (object_at n new.objects)) old.objects)

    went_is : (n : ℕ) → Contains (gone_since old.settled (gone_from old.objects new.objects)) n → HasGone old new n
    went_is n h =
        let settled = kept_contains (λ m. nat_le m old.settled) n (filter (λ m. is_none (object_at m new.objects)) (keys_of old.objects)) (subst (λ (l : List ℕ). Contains l n) since_is h) in
        let goes = kept_contains (λ m. is_none (object_at m new.objects)) n (keys_of old.objects) settled.1 in
        let low = settled.0 in
        record {
          settled = grind (arith, nat_tests);
          lived = IsSome-lookup_from_Contains nat_eq_equiv n old.objects goes.1;
          none = none_is (object_at n new.objects) goes.0;
        }
      where
        none_is : (o : Option (Living B)) → is_none o ≡ true → o ≡ None
        none_is None is = refl
        none_is (Some x) is = absurd (cc)

    went_in : (n : ℕ) → HasGone old new n → Contains (gone_since old.settled (gone_from old.objects new.objects)) n
    went_in n went =
        let low : nat_le n old.settled ≡ true = let fits = went.settled in grind (arith, nat_tests) in
        subst (λ (l : List ℕ). Contains l n) (sym since_is)
        (contains_kept (λ m. nat_le m old.settled) n (filter (λ m. is_none (object_at m new.objects)) (keys_of old.objects)) low
        (contains_kept (λ m. is_none (object_at m new.objects)) n (keys_of old.objects) (ap is_none went.none)
        (Contains-keys_from_lookup (λ x y is. eqb-true x y is) n old.objects went.lived)))

    module _ (collects : Collects old new) where
      marks_swept : KeepsMarks old new
      marks_swept = record {
        settled = ap (λ (t : Table B). t.settled) collects.others;
        unmarked = λ n x at un. (x, sym (collects.unchanged n (ap is_some at)) ∙ at, refl);
        once = λ n below lives. ap is_some (sym (collects.unchanged n lives)) ∙ lives;
        gone = λ cleared n. (
          λ h. elim (Contains-append_cases old.gone (gone_since old.settled (gone_from old.objects new.objects)) n (subst (λ (l : List ℕ). Contains l n) (ap (λ (t : Table B). t.gone) collects.others) h)) [
            | inl was ↦ inl was
            | inr went ↦ inr (went_is n went)
          ],
          λ h. subst (λ (l : List ℕ). Contains l n) (sym (ap (λ (t : Table B). t.gone) collects.others)) (elim h [
            | inl was ↦ Contains-append_left old.gone (gone_since old.settled (gone_from old.objects new.objects)) n was
            | inr went ↦ Contains-append_right old.gone (gone_since old.settled (gone_from old.objects new.objects)) n (went_in n went)
          ]),
        );
      }

      follows_swept : Follows G [] [] old new
      follows_swept =
          let last = ap (λ (t : Table B). t.last) collects.others in
          record {
            boxes = keeps_by G old new (omega (arith, last)) (ap (λ (t : Table B). t.pool) collects.others) (ap (λ (t : Table B). t.services) collects.others)
                (λ n box below at. (omega (arith, below, last), box_stays old new collects n box at));
            marks = marks_swept;
            no_more = λ n is has. inr (inl (marked_swept old new collects n is));
          }

  drops_draw : (ns : List ℕ) → drawn_in (map (λ n. Dropped n) ns) ≡ []
  drops_draw [] = refl
  drops_draw (n ∷ ns) = drops_draw ns

  module _ (names : Names) where
    pub roots_shown : (rest : List HostRecord) (s : State B)
        → releases.roots ((shown G names rest s).frame ∷ (shown G names rest s).callers) (shown G names rest s).world ≡ roots_in s
    roots_shown rest s = ap (λ (l : List ℕ). s.outside ++ handles s.globals ++ l) (flat_map-map releases.roots_of_frame (frame_shown names) ((s.frames).frame ∷ (s.frames).callers))

    abbrev pub swept_to : Table B → State B → State B
    swept_to table s = record s { table = table; events = s.events ++ drops (gone_from (s.table).objects table.objects) }

    module _ (s : State B) (table : Table B) (counts : HoldsRoots s.table (roots_in s)) (before : IsInOrder (s.table).objects) (after : IsInOrder table.objects) (swept : SweptByCounts s.table table) where
      abbrev made : List HostRecord → LiveObjects (List ℕ) → List Event → Table B → World
      made rest objects more t = record {
        globals = s.globals;
        outside = s.outside;
        objects = objects;
        last = t.last;
        services = map G.state t.services;
        pool = map (box_shown G names) t.pool;
        answers = rest;
        events = s.events ++ more;
      }

      abbrev made_by : List HostRecord → List ℕ → World
      made_by rest held =
          made rest (after_sweep held (objects_shown G names.modules (s.table).objects)) (map Dropped (drops_of_sweep held (objects_shown G names.modules (s.table).objects))) s.table

      swept_same : (rest : List HostRecord) → LeavesReachable s.table table → world_shown G names rest (swept_to table s) ≡ made_by rest (roots_in s)
      swept_same rest leaves =
          let held = held_by_roots s.table (roots_in s) counts in
          let left = all G names.modules (roots_in s) s.table table held swept.collected leaves (in_order-mapped (living_shown G names.modules) (s.table).objects before) after in
          let gone = dropped G names.modules (roots_in s) s.table table held swept.collected leaves in
          let was = objects_shown G names.modules (s.table).objects in
          ap (λ (os : LiveObjects (List ℕ)). made rest os (drops (gone_from (s.table).objects table.objects)) table) left
          ∙ ap (λ (es : List Event). made rest (after_sweep (roots_in s) was) es table) gone
          ∙ ap (λ (t : Table B). made rest (after_sweep (roots_in s) was) (map Dropped (drops_of_sweep (roots_in s) was)) t) (swept.collected).others

      swept_world : (rest : List HostRecord) → LeavesReachable s.table table
          → world_shown G names rest (swept_to table s) ≡ sweep ((shown G names rest s).frame ∷ (shown G names rest s).callers) (world_shown G names rest s)
      unfolding sweep
      swept_world rest leaves = swept_same rest leaves ∙ ap (made_by rest) (sym (roots_shown rest s))

      released_if : (test : RankTest) (rest : List HostRecord) (b : Bool) → test.has_ranks (world_shown G names rest s) ≡ b
          → IfSome (cond b (Some (release_point (shown G names rest s))) None) (λ p. Some (Done tt (shown G names rest (swept_to table s))) ≡ Some p)
      unfolding release_point
      released_if test rest false is = tt
      released_if test rest true is =
          let ranks = test.says (world_shown G names rest s) is in
          let leaves = swept.reachable ranks.0 ranks.1 (tables_have_ranks G names.modules s.table ranks.0 ranks.1 ranks.2) in
          ap (λ (w : World). Some (Done tt (record (shown G names rest s) { world = w }))) (swept_world rest leaves)

      pub release_gives : (test : RankTest) → Becomes G names (release test) s (give tt) (swept_to table s)
      release_gives test = record {
        records = [];
        gave = record {
          drawn = [];
          happened = drops (gone_from (s.table).objects table.objects);
          told = refl;
          in_turn = sym (drops_draw (keys_of (filter (λ e. is_boxed (e.1).body) (gone_from (s.table).objects table.objects))));
          valid = tt;
          follows = follows_swept s.table table swept.collected;
        };
        same = λ rest. released_if test rest (test.has_ranks (world_shown G names rest s)) refl;
      }
