-- Tables with a new object: what is held, which boxes there are, and what is shown.
use Rattle.std.proofs.Common.{◌≡◌, ℕ, ◌+◌, ◌≤◌, ◌<◌, Bool, true, false, cond, List, [], ◌∷◌, refl, sym, ap, ◌∙◌, arith, nat_eq, map, length}
use Rattle.std.specs.Prelude.{Option, Some, None, is_some, nat_lt}
use Rattle.std.specs.Option.{option_map_or, option_and_then}
use Rattle.std.specs.Ordering.{nat_cmp, match_ordering}
use Rattle.std.specs.declared.cmp.Ordering.{Ordering}
use Rattle.std.proofs.Common.{Less, Equal, Greater}
use Rattle.std.proofs.lemmas.Bool.{eqb-true}
use Rattle.std.proofs.lemmas.Bool.Decides.{nat_tests}
use Rattle.std.proofs.lemmas.List.{length-map}
use Rattle.ash_host.specs.declared.host_object.HostObject.{Ghosts}
use Rattle.ash_host.specs.Limits.{max_objects}
use Rattle.ash_host.specs.Objects.{LiveObjects, object_at, with_at, AreNumbered}
use Rattle.ash_host.specs.Records.{HostRecord}
use Rattle.ash_host.proofs.Order.{object_at-with_at}
use Rattle.ash_meaning.specs.declared.exception.Exception.TheVariants.{ObjectLimit, NumbersSpent}
use Rattle.ash_meaning.specs.Activity.{World, in_world}
use Rattle.ash_meaning.specs.ObjectSteps.{demand_number, max_number, with_new}
use Rattle.ash_meaning.specs.Runs.{Done, Ended, Raising}
use Rattle.ash_slots.specs.declared.body.Body.{Body}
use Rattle.ash_slots.specs.SlotResponses.{box_of}
use Rattle.ash_objects.specs.Making.{new_object, with_new_object}
use Rattle.ash_objects.specs.Responses.{box_at}
use Rattle.ash_objects.specs.Table.{Living, Table, holds_of}
use Rattle.ash_object_ranks.specs.ShownTables.{body_shown, objects_shown}
use Rattle.ash_run_steps.specs.Following.{Follows}
use Rattle.ash_run_steps.specs.RunStates.{State, Names, shown}
use Rattle.ash_run_steps.proofs.Followed.{keeps_by, marks_made, no_more_made}
use Rattle.ash_run_steps.proofs.HoldSteps.{at_table}

-- a value that is put among others, each of which is mapped
map-with_at : {A C : Type 0} (g : A → C) (k : ℕ) (v : A) (l : List (ℕ × A)) → map (λ e. (e.0, g e.1)) (with_at k v l) ≡ with_at k (g v) (map (λ e. (e.0, g e.1)) l)
map-with_at {A} {C} g k v [] = refl
map-with_at {A} {C} g k v (e ∷ l) = go (nat_cmp k e.0) (map-with_at g k v l)
  where
    each : ℕ × A → ℕ × C
    each x = (x.0, g x.1)

    go : (o : Ordering) → map each (with_at k v l) ≡ with_at k (g v) (map each l)
        → map each (match_ordering o ((k, v) ∷ e ∷ l) ((e.0, v) ∷ l) (e ∷ with_at k v l))
        ≡ match_ordering o ((k, g v) ∷ each e ∷ map each l) ((e.0, g v) ∷ map each l) (each e ∷ with_at k (g v) (map each l))
    go Less later = refl
    go Equal later = refl
    go Greater later = ap (λ (t : List (ℕ × C)). each e ∷ t) later

module _ {B : Type 0} where
  -- the number after the last is new
  pub none_next : (table : Table B) → AreNumbered table.last table.objects → object_at (table.last + 1) table.objects ≡ None
  none_next table numbered = go (object_at (table.last + 1) table.objects) refl
    where
      go : (o : Option (Living B)) → object_at (table.last + 1) table.objects ≡ o → o ≡ None
      go None is = refl
      go (Some x) is = let given = numbered.given (table.last + 1) (ap is_some is) in absurd (omega (arith, given.1))

  module _ (slot : ℕ) (body : Body B) (table : Table B) (numbered : AreNumbered table.last table.objects) where
    -- what is at a number, of what has none if nothing lives there, and none if the new object does
    at_each : {C : Type 0} (what : Option (Living B) → C) → what (Some (new_object slot body)) ≡ what None
        → (m : ℕ) → what (object_at m (with_new_object slot body table).objects) ≡ what (object_at m table.objects)
    at_each {C} what none m =
        ap what (object_at-with_at (table.last + 1) (new_object slot body) m table.objects) ∙ go (nat_eq m (table.last + 1)) refl
      where
        go : (b : Bool) → nat_eq m (table.last + 1) ≡ b → what (cond b (Some (new_object slot body)) (object_at m table.objects)) ≡ what (object_at m table.objects)
        go true is = none ∙ ap what (sym (ap (λ (k : ℕ). object_at k table.objects) (eqb-true m (table.last + 1) is) ∙ none_next table numbered))
        go false is = refl

    pub made_holds : (m : ℕ) → holds_of m (with_new_object slot body table) ≡ holds_of m table
    made_holds m = at_each (λ o. option_map_or (λ (x : Living B). x.holds) o 0) refl m

    made_box : box_of body ≡ None → (m : ℕ) → box_at m (with_new_object slot body table) ≡ box_at m table
    made_box none m = at_each (λ o. option_and_then (λ (x : Living B). box_of x.body) o) none m

    -- a box is that of an object that lived
    lived : (m : ℕ) (box : B) → box_at m table ≡ Some box → m ≤ table.last
    lived m box at = go (object_at m table.objects) refl at
      where
        go : (o : Option (Living B)) → object_at m table.objects ≡ o → option_and_then (λ (x : Living B). box_of x.body) o ≡ Some box → m ≤ table.last
        go None is at = absurd (cc)
        go (Some x) is at = (numbered.given m (ap is_some is)).1

    pub follows_made : (G : Ghosts B) → box_of body ≡ None → Follows G [] [] table (with_new_object slot body table)
    follows_made G none = record {
      boxes = keeps_by G table (with_new_object slot body table) (omega arith) refl refl
          (λ m box below at. let was = sym (made_box none m) ∙ at in (lived m box was, was));
      marks = marks_made slot body table.pool table;
      no_more = no_more_made [] slot body table.pool table;
    }

module _ {B : Type 0} (G : Ghosts B) (names : Names) where
  -- an activity in which an object is made
  pub made_activity : (rest : List HostRecord) (s : State B) (slot : ℕ) (body : Body B)
      → shown G names rest (at_table (with_new_object slot body s.table) s) ≡ in_world (with_new (body_shown G names.modules body)) (shown G names rest s)
  made_activity rest s slot body =
      ap (λ (all : LiveObjects (List ℕ)). in_world (λ (world : World). record world { objects = all; last = world.last + 1 }) (shown G names rest s))
      (map-with_at (λ (x : Living B). body_shown G names.modules x.body) (s.table.last + 1) (new_object slot body) (s.table).objects)

  many_shown : (s : State B) → length (objects_shown G names.modules (s.table).objects) ≡ length (s.table).objects
  many_shown s = length-map (s.table).objects (λ e. (e.0, body_shown G names.modules (e.1).body))

  module _ (rest : List HostRecord) (s : State B) where
    pub demand_given : length (s.table).objects < max_objects → (s.table).last < max_number → demand_number (shown G names rest s) ≡ Done tt (shown G names rest s)
    demand_given room left =
        let many = many_shown s in
        let one : nat_lt (length (objects_shown G names.modules (s.table).objects)) max_objects ≡ true = grind (arith, nat_tests) in
        let two : nat_lt (s.table).last max_number ≡ true = grind (arith, nat_tests) in
        rw (one, two) refl

    pub demand_full : max_objects ≤ length (s.table).objects → demand_number (shown G names rest s) ≡ Ended (Raising ObjectLimit) (shown G names rest s)
    demand_full full =
        let many = many_shown s in
        let one : nat_lt (length (objects_shown G names.modules (s.table).objects)) max_objects ≡ false = grind (arith, nat_tests) in
        rw one refl

    pub demand_spent : length (s.table).objects < max_objects → max_number ≤ (s.table).last → demand_number (shown G names rest s) ≡ Ended (Raising NumbersSpent) (shown G names rest s)
    demand_spent room spent =
        let many = many_shown s in
        let one : nat_lt (length (objects_shown G names.modules (s.table).objects)) max_objects ≡ true = grind (arith, nat_tests) in
        let two : nat_lt (s.table).last max_number ≡ false = grind (arith, nat_tests) in
        rw (one, two) refl
