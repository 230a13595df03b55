-- Boxes that are drawn are the meaning's.
use Rattle.std.proofs.Common.{◌≡◌, ◌<◌, ◌≤◌, ◌+◌, ◌-◌, ◌^◌, ℕ, Bool, true, false, cond, not, List, [], ◌∷◌, ◌++◌, suc, map, length, take, drop, refl, sym, ap, ◌∙◌, subst, arith, nat_eq, nat_lt, Less, Equal, Greater}
use Rattle.std.specs.Prelude.{Option, Some, None, IsSome, IsSomeAnd, nat_le, slice_get}
use Rattle.std.specs.List.{remove, position, position_or_len}
use Rattle.std.specs.Option.{option_map, option_map_or, option_and_then}
use Rattle.std.specs.Ordering.{nat_cmp, match_ordering}
use Rattle.std.specs.declared.cmp.Ordering.{Ordering}
use Rattle.std.proofs.lemmas.Bool.{eqb-true, eq-eqb}
use Rattle.std.proofs.lemmas.Bool.Decides.{nat_tests}
use Rattle.std.proofs.lemmas.List.{map-append, take-map, drop-map, length-map}
use Rattle.std.proofs.lemmas.List.Quantifiers.{position-Some}
use Rattle.std.proofs.lemmas.Option.{slice_get-map, get_or_from_slice_get}
use Rattle.ash_host.specs.declared.event.Event.TheVariants.{Drew}
use Rattle.ash_host.specs.declared.word.Word.TheVariants as words
use Rattle.ash_host.specs.declared.event.Target.{Target}
use Rattle.ash_host.specs.declared.event.Target.TheVariants as targets
use Rattle.ash_host.specs.declared.host_object.HostObject.{Ghosts}
use Rattle.ash_host.specs.Limits.{max_objects}
use Rattle.ash_host.specs.Objects.{Host, LiveObjects, object_at, with_at, AreNumbered}
use Rattle.ash_host.specs.Records.{HostRecord}
use Rattle.ash_host.proofs.Order.{object_at-with_at}
use Rattle.ash_meaning.specs.declared.exception.Exception.{Exception}
use Rattle.ash_meaning.specs.declared.exception.Exception.TheVariants.{PoolEmpty, ObjectLimit, NumbersSpent}
use Rattle.ash_meaning.specs.Activity.{FreeBox, Activity, in_world}
use Rattle.ash_meaning.specs.Runs.{Progress, Run, Done, Ended, Raising, onward, found, give as gives, look, change, demand, ◌>>◌}
use Rattle.ash_meaning.specs.ObjectSteps.{demand_number, max_number, make}
use Rattle.ash_meaning.specs.HostSteps as hosts
use Rattle.ash_meaning.specs.HostSteps.{note, place_of_kind, without_box, box_in, box_of_kind}
use Rattle.ash_meaning.specs.Releases.{hold}
use Rattle.ash_slots.specs.declared.body.Body.{Body}
use Rattle.ash_slots.specs.declared.body.Body.TheVariants as bodies
use Rattle.ash_slots.specs.SlotResponses.{box_of}
use Rattle.ash_objects.specs.Table.{Living, Table, holds_of}
use Rattle.ash_objects.specs.Making.{new_object, with_new_object, first_of_kind, IsFull, IsSpent}
use Rattle.ash_objects.specs.Responses.{box_at}
use Rattle.ash_objects.specs.Restoring.{draw_box as box_from}
use Rattle.ash_object_ranks.specs.ShownTables.{SlotNames, objects_shown}
use Rattle.ash_object_ranks.proofs.ShownTables.{living_shown}
use Rattle.ash_run_steps.specs.Guarded.{give, stop, plain}
use Rattle.ash_run_steps.specs.RunStates.{State, Names, bare, shown, world_shown, box_shown}
use Rattle.ash_run_steps.specs.Answered.{IsStill}
use Rattle.ash_run_steps.specs.Becoming.{Becomes}
use Rattle.ash_run_steps.specs.Drawing.{Enough, draw_then}
use Rattle.ash_run_steps.specs.Following.{box_for, Follows}
use Rattle.ash_run_steps.proofs.AnsweredCalls.{some_of}
use Rattle.ash_run_steps.proofs.Composed.{becomes_by}
use Rattle.ash_run_steps.proofs.Followed.{still_same, marks_made, no_more_made}
use Rattle.ash_run_steps.proofs.HoldSteps.{at_table, same_activity}
use Rattle.ash_run_steps.proofs.Roots.{holding}

-- lists that are mapped, and lists of which one was removed

first_mapped : {X Y : Type 0} (f : X → Y) (p : Y → Bool) (xs : List X) → position_or_len p (map f xs) ≡ position_or_len (λ x. p (f x)) xs
first_mapped f p [] = refl
first_mapped f p (x ∷ xs) = ap (λ (n : ℕ). cond (not (p (f x))) (1 + n) 0) (first_mapped f p xs)

position_mapped : {X Y : Type 0} (f : X → Y) (p : Y → Bool) (xs : List X) → position p (map f xs) ≡ position (λ x. p (f x)) xs
position_mapped f p xs =
    ap (λ (n : ℕ). cond (nat_lt n (length (map f xs))) (Some n) None) (first_mapped f p xs)
    ∙ ap (λ (n : ℕ). cond (nat_lt (position_or_len (λ x. p (f x)) xs) n) (Some (position_or_len (λ x. p (f x)) xs)) None) (length-map xs f)

remove_mapped : {X Y : Type 0} (f : X → Y) (xs : List X) (i : ℕ) → map f (remove xs i) ≡ remove (map f xs) i
remove_mapped f xs i =
    map-append f (take i xs) (drop (suc i) xs)
    ∙ ap (λ (l : List _). l ++ map f (drop (suc i) xs)) (sym (take-map f i xs))
    ∙ ap (λ (l : List _). take i (map f xs) ++ l) (sym (drop-map f (suc i) xs))

-- draws of the meaning

abbrev put_box : ℕ × FreeBox → Run ℕ
put_box box = change (in_world (without_box box.0)) >> make (Host (box.1).kind (box.1).state)

abbrev noted : ℕ → Run ℕ
noted number = note (Drew number) >> gives number

abbrev numbers_left : Run Bool
numbers_left = look (λ activity. nat_lt activity.world.last max_number)

number_full : (a : Activity) → nat_lt (length (a.world).objects) max_objects ≡ false → demand_number a ≡ Ended (Raising ObjectLimit) a
number_full a is = ap (λ (b : Bool). onward (onward (demand b ObjectLimit a) (λ _. numbers_left)) (λ left. demand left NumbersSpent)) is

number_after : (a : Activity) (b : Bool) → nat_lt (length (a.world).objects) max_objects ≡ true → nat_lt (a.world).last max_number ≡ b → demand_number a ≡ demand b NumbersSpent a
number_after a b is left =
    ap (λ (c : Bool). onward (onward (demand c ObjectLimit a) (λ _. numbers_left)) (λ d. demand d NumbersSpent)) is
    ∙ ap (λ (c : Bool). demand c NumbersSpent a) left

draw_ended : (kind : ℕ) (a : Activity) (exception : Exception) → demand_number a ≡ Ended (Raising exception) a → hosts.draw kind a ≡ Ended (Raising exception) a
draw_ended kind a exception h = ap (λ (p : Progress (Unit {0})). onward (onward (onward p (λ _. box_of_kind kind)) put_box) noted) h

draw_empty : (kind : ℕ) (a : Activity) → demand_number a ≡ Done tt a → place_of_kind kind a.world ≡ None → hosts.draw kind a ≡ Ended (Raising PoolEmpty) a
draw_empty kind a h none =
    ap (λ (p : Progress (Unit {0})). onward (onward (onward p (λ _. box_of_kind kind)) put_box) noted) h
    ∙ ap (λ (o : Option ℕ). onward (onward (box_in a.world o a) put_box) noted) none

draw_box : (kind place : ℕ) (box : FreeBox) (a : Activity) → demand_number a ≡ Done tt a → place_of_kind kind a.world ≡ Some place → slice_get (a.world).pool place ≡ Some box
    → hosts.draw kind a ≡ onward (make (Host box.kind box.state) (in_world (without_box place) a)) noted
draw_box kind place box a h first at =
    ap (λ (p : Progress (Unit {0})). onward (onward (onward p (λ _. box_of_kind kind)) put_box) noted) h
    ∙ ap (λ (o : Option ℕ). onward (onward (box_in a.world o a) put_box) noted) first
    ∙ ap (λ (o : Option FreeBox). onward (onward (onward (found o a) (λ (b : FreeBox). gives (place, b))) put_box) noted) at

-- a new object in the table

module _ {B : Type 0} where
  pub none_new : (table : Table B) (m : ℕ) → AreNumbered table.last table.objects → m ≡ table.last + 1 → object_at m table.objects ≡ None
  none_new table m numbered is = go (object_at m table.objects) refl
    where
      go : (o : Option (Living B)) → object_at m table.objects ≡ o → object_at m table.objects ≡ None
      go None here = here
      go (Some x) here = let given = (numbered.given m (subst (λ (o : Option (Living B)). IsSome o) (sym here) refl)).1 in absurd (omega (arith, given, is))

  pub holds_new : (slot : ℕ) (body : Body B) (table : Table B) (m : ℕ) → AreNumbered table.last table.objects → holds_of m (with_new_object slot body table) ≡ holds_of m table
  holds_new slot body table m numbered =
      ap (λ (o : Option (Living B)). option_map_or (λ (x : Living B). x.holds) o 0) (object_at-with_at (table.last + 1) (new_object slot body) m table.objects) ∙ go (nat_eq m (table.last + 1)) refl
    where
      go : (b : Bool) → nat_eq m (table.last + 1) ≡ b → option_map_or (λ (x : Living B). x.holds) (cond b (Some (new_object slot body)) (object_at m table.objects)) 0 ≡ holds_of m table
      go true is = sym (ap (λ (o : Option (Living B)). option_map_or (λ (x : Living B). x.holds) o 0) (none_new table m numbered (eqb-true m (table.last + 1) is)))
      go false is = refl

  abbrev pub drawn_table : ℕ → B → ℕ → Table B → Table B
  drawn_table slot box place table = record (with_new_object slot (bodies.Host box) table) { pool = remove table.pool place }

  pub box_drawn : (slot place : ℕ) (box : B) (table : Table B) (number : ℕ) → number ≡ table.last + 1 → box_at number (drawn_table slot box place table) ≡ Some box
  box_drawn slot place box table number is =
      ap (option_and_then (λ (object : Living B). box_of object.body)) (object_at-with_at (table.last + 1) (new_object slot (bodies.Host box)) number table.objects
      ∙ ap (λ (b : Bool). cond b (Some (new_object slot (bodies.Host box))) (object_at number table.objects)) (eq-eqb number (table.last + 1) is))

module _ {B : Type 0} (G : Ghosts B) where
  -- what a draw took, and from where
  pub record WasDrawn (kind : ℕ) (old new : Table B) : Type 0 where
    pub place : ℕ
    pub box : B
    pub slot : ℕ
    pub first : first_of_kind G kind old ≡ Some place
    pub there : slice_get old.pool place ≡ Some box
    pub becomes : new ≡ drawn_table slot box place old

  pub was_drawn : (kind : ℕ) (old new : Table B) (slot : Option ℕ)
      → IsSomeAnd (first_of_kind G kind old) (λ place. IsSomeAnd (slice_get old.pool place) (λ box. IsSomeAnd slot (λ s. new ≡ drawn_table s box place old)))
      → WasDrawn kind old new
  was_drawn kind old new slot is =
      let one = some_of (λ place. IsSomeAnd (slice_get old.pool place) (λ box. IsSomeAnd slot (λ s. new ≡ drawn_table s box place old))) (first_of_kind G kind old) is in
      let two = some_of (λ box. IsSomeAnd slot (λ s. new ≡ drawn_table s box one.0 old)) (slice_get old.pool one.0) one.2 in
      let three = some_of (λ s. new ≡ drawn_table s two.0 one.0 old) slot two.2 in
      record {
        place = one.0;
        box = two.0;
        slot = three.0;
        first = one.1;
        there = two.1;
        becomes = three.2;
      }

  -- the box that is drawn is the first of its kind
  first_drawn : (kind place : ℕ) (box : B) (table : Table B) → first_of_kind G kind table ≡ Some place → slice_get table.pool place ≡ Some box
      → box_from G (G.kind_of box) table.pool ≡ Some (box, remove table.pool place)
  first_drawn kind place box table first at =
      let passes = (position-Some (λ (b : B). nat_eq (G.kind_of b) kind) table.pool place box first).1 in
      let same = eqb-true (G.kind_of box) kind (ap (λ (b : B). nat_eq (G.kind_of b) kind) (sym (get_or_from_slice_get table.pool place box box at)) ∙ passes) in
      ap (λ (k : ℕ). box_from G k table.pool) same
      ∙ ap (option_and_then (λ (p : ℕ). option_map (λ (b : B). (b, remove table.pool p)) (slice_get table.pool p))) first
      ∙ ap (option_map (λ (b : B). (b, remove table.pool place))) at

  pub follows_drawn : (kind slot place : ℕ) (box : B) (table : Table B) → first_of_kind G kind table ≡ Some place → slice_get table.pool place ≡ Some box
      → Follows G ((table.last + 1, box) ∷ []) [] table (drawn_table slot box place table)
  follows_drawn kind slot place box table first at = record {
    boxes = record {
      rises = omega arith;
      given = ((omega arith, omega arith), tt);
      first_free = ap (λ (one : Option (B × List B)). draw_then (table.last + 1) (G.kind_of box) one (λ left. Enough [] left)) (first_drawn kind place box table first at);
      still = still;
    };
    marks = marks_made slot (bodies.Host box) (remove table.pool place) table;
    no_more = no_more_made [] slot (bodies.Host box) (remove table.pool place) table;
  }
    where
      by : (m : ℕ) (c b : Bool) (other : B) → nat_le m (table.last + 1) ≡ c → nat_eq m (table.last + 1) ≡ b
          → cond c (option_and_then (λ (object : Living B). box_of object.body) (cond b (Some (new_object slot (bodies.Host box))) (object_at m table.objects))) None ≡ Some other
          → cond (nat_le m table.last) (box_at m table) (cond b (Some box) None) ≡ Some other
      by m true true other within is got =
          let next : m ≡ table.last + 1 = eqb-true m (table.last + 1) is in
          let above : nat_le m table.last ≡ false = grind (arith, nat_tests) in
          ap (λ (d : Bool). cond d (box_at m table) (Some box)) above ∙ got
      by m true false other within is got =
          let below : nat_le m table.last ≡ true = grind (arith, nat_tests) in
          ap (λ (d : Bool). cond d (box_at m table) None) below ∙ got
      by m false b other within is got = absurd (cc)

      still : (target : Target) (other : B) → box_for (drawn_table slot box place table) [] target ≡ Some other
          → IsStill G (box_for table ((table.last + 1, box) ∷ []) target) other
      still (targets.Object m) other is =
          still_same G (box_for table ((table.last + 1, box) ∷ []) (targets.Object m)) other
          (by m (nat_le m (table.last + 1)) (nat_eq m (table.last + 1)) other refl refl
          (ap (λ (o : Option (Living B)). cond (nat_le m (table.last + 1)) (option_and_then (λ (object : Living B). box_of object.body) o) None)
          (sym (object_at-with_at (table.last + 1) (new_object slot (bodies.Host box)) m table.objects)) ∙ is))
      still (targets.Service k) other is = still_same G (slice_get table.services k) other is

module _ {B : Type 0} (G : Ghosts B) (names : SlotNames) where
  pub shown_with : (n : ℕ) (x : Living B) (l : List (ℕ × Living B)) → objects_shown G names (with_at n x l) ≡ with_at n (living_shown G names x) (objects_shown G names l)
  shown_with n x [] = refl
  shown_with n x (e ∷ l) =
      placed (nat_cmp n e.0)
      ∙ ap (λ (t : LiveObjects (List ℕ)). match_ordering (nat_cmp n e.0) ((n, living_shown G names x) ∷ objects_shown G names (e ∷ l)) ((e.0, living_shown G names x) ∷ objects_shown G names l) ((e.0, living_shown G names e.1) ∷ t)) (shown_with n x l)
    where
      placed : (b : Ordering) → objects_shown G names (match_ordering b ((n, x) ∷ e ∷ l) ((e.0, x) ∷ l) (e ∷ with_at n x l))
          ≡ match_ordering b ((n, living_shown G names x) ∷ objects_shown G names (e ∷ l)) ((e.0, living_shown G names x) ∷ objects_shown G names l) ((e.0, living_shown G names e.1) ∷ objects_shown G names (with_at n x l))
      placed Less = refl
      placed Equal = refl
      placed Greater = refl

module _ {B : Type 0} (G : Ghosts B) (names : Names) where
  has_room : (s : State B) (rest : List HostRecord) → (IsFull s.table → ⊥) → nat_lt (length (world_shown G names rest s).objects) max_objects ≡ true
  has_room s rest few =
      let many : length (world_shown G names rest s).objects ≡ length (s.table).objects = length-map (s.table).objects (λ (e : ℕ × Living B). (e.0, living_shown G names.modules e.1)) in
      let below : length (s.table).objects < max_objects = omega (arith, few) in
      ap (λ (n : ℕ). nat_lt n max_objects) many ∙ grind (arith, nat_tests)

  has_none : (s : State B) (rest : List HostRecord) → IsFull s.table → nat_lt (length (world_shown G names rest s).objects) max_objects ≡ false
  has_none s rest full =
      let many : length (world_shown G names rest s).objects ≡ length (s.table).objects = length-map (s.table).objects (λ (e : ℕ × Living B). (e.0, living_shown G names.modules e.1)) in
      let above : max_objects ≤ length (s.table).objects = full in
      ap (λ (n : ℕ). nat_lt n max_objects) many ∙ grind (arith, nat_tests)

  has_numbers : (s : State B) → (IsSpent s.table → ⊥) → nat_lt (s.table).last max_number ≡ true
  has_numbers s left = let below : (s.table).last < 2 ^ 64 - 1 = omega (arith, left) in grind (arith, nat_tests)

  has_no_number : (s : State B) → IsSpent s.table → nat_lt (s.table).last max_number ≡ false
  has_no_number s spent = let above : 2 ^ 64 - 1 ≤ (s.table).last = spent in grind (arith, nat_tests)

  first_shown : (kind : ℕ) (s : State B) (rest : List HostRecord) → place_of_kind kind (world_shown G names rest s) ≡ first_of_kind G kind s.table
  first_shown kind s rest = position_mapped (box_shown G names) (λ (box : FreeBox). nat_eq box.kind kind) (s.table).pool

  ended_by : (kind : ℕ) (s : State B) (exception : Exception)
      → ((rest : List HostRecord) → hosts.draw kind (shown G names rest s) ≡ Ended (Raising exception) (shown G names rest s))
      → Becomes G names (plain (hosts.draw kind)) s (stop (Raising exception)) s
  ended_by kind s exception ends = becomes_by G names (plain (hosts.draw kind)) s (stop (Raising exception)) s refl refl (λ rest. sym (ap Some (ends rest)))

  pub draw_is_full : (kind : ℕ) (s : State B) → IsFull s.table → Becomes G names (plain (hosts.draw kind)) s (stop (Raising ObjectLimit)) s
  draw_is_full kind s full = ended_by kind s ObjectLimit (λ rest. draw_ended kind (shown G names rest s) ObjectLimit (number_full (shown G names rest s) (has_none s rest full)))

  pub draw_is_spent : (kind : ℕ) (s : State B) → (IsFull s.table → ⊥) → IsSpent s.table → Becomes G names (plain (hosts.draw kind)) s (stop (Raising NumbersSpent)) s
  draw_is_spent kind s few spent =
      ended_by kind s NumbersSpent (λ rest. draw_ended kind (shown G names rest s) NumbersSpent (number_after (shown G names rest s) false (has_room s rest few) (has_no_number s spent)))

  pub draw_is_empty : (kind : ℕ) (s : State B) → (IsFull s.table → ⊥) → (IsSpent s.table → ⊥) → first_of_kind G kind s.table ≡ None
      → Becomes G names (plain (hosts.draw kind)) s (stop (Raising PoolEmpty)) s
  draw_is_empty kind s few left none =
      ended_by kind s PoolEmpty (λ rest. draw_empty kind (shown G names rest s) (number_after (shown G names rest s) true (has_room s rest few) (has_numbers s left)) (first_shown kind s rest ∙ none))

  abbrev pub drawn_to : ℕ → B → ℕ → State B → State B
  drawn_to slot box place s = record s { table = drawn_table slot box place s.table; events = s.events ++ Drew ((s.table).last + 1) ∷ [] }

  -- the activity after a draw, with these objects and this pool
  abbrev after_draw : List HostRecord → State B → LiveObjects (List ℕ) → List FreeBox → Activity
  after_draw rest s objects pool = record (shown G names rest s) {
    world = record (world_shown G names rest s) {
      objects = objects;
      last = (s.table).last + 1;
      pool = pool;
      events = s.events ++ Drew ((s.table).last + 1) ∷ [];
    };
  }

  drawn_same : (kind place slot : ℕ) (box : B) (s : State B) (rest : List HostRecord) → (IsFull s.table → ⊥) → (IsSpent s.table → ⊥)
      → first_of_kind G kind s.table ≡ Some place → slice_get (s.table).pool place ≡ Some box
      → hosts.draw kind (shown G names rest s) ≡ Done ((s.table).last + 1) (shown G names rest (drawn_to slot box place s))
  drawn_same kind place slot box s rest few left first at =
      let next = (s.table).last + 1 in
      let all = objects_shown G names.modules (s.table).objects in
      draw_box kind place (box_shown G names box) (shown G names rest s) (number_after (shown G names rest s) true (has_room s rest few) (has_numbers s left)) (first_shown kind s rest ∙ first) (slice_get-map (box_shown G names) (s.table).pool place ∙ ap (option_map (box_shown G names)) at)
      ∙ ap (λ (os : LiveObjects (List ℕ)). Done next (after_draw rest s os (remove (map (box_shown G names) (s.table).pool) place))) (sym (shown_with G names.modules next (new_object slot (bodies.Host box)) (s.table).objects))
      ∙ ap (λ (boxes : List FreeBox). Done next (after_draw rest s (objects_shown G names.modules (with_at next (new_object slot (bodies.Host box)) (s.table).objects)) boxes)) (sym (remove_mapped (box_shown G names) (s.table).pool place))

  pub draw_gives : (kind place slot : ℕ) (box : B) (s : State B) → (IsFull s.table → ⊥) → (IsSpent s.table → ⊥)
      → first_of_kind G kind s.table ≡ Some place → slice_get (s.table).pool place ≡ Some box
      → Becomes G names (plain (hosts.draw kind)) s (give ((s.table).last + 1)) (drawn_to slot box place s)
  draw_gives kind place slot box s few left first at = record {
    records = [];
    gave = record {
      drawn = ((s.table).last + 1, box) ∷ [];
      happened = Drew ((s.table).last + 1) ∷ [];
      told = refl;
      in_turn = refl;
      valid = tt;
      follows = follows_drawn G kind slot place box s.table first at;
    };
    same = λ rest. sym (ap Some (drawn_same kind place slot box s rest few left first at));
  }

  -- what is drawn is held

  pub held_gives : (number : ℕ) (s : State B) (table : Table B) → bare table ≡ bare s.table
      → Becomes G names (plain (hold (words.Object number))) s (give tt) (at_table table (holding (number ∷ []) s))
  held_gives number s table same =
      becomes_by G names (plain (hold (words.Object number))) s (give tt) (at_table table (holding (number ∷ []) s)) same refl
      (λ rest. ap (λ (a : Activity). Some (Done tt a)) (same_activity G names rest (holding (number ∷ []) s) table same))
