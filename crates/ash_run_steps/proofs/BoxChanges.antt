-- A box that answered, in the table and as it is shown.
use Rattle.std.proofs.Common.{◌≡◌, ℕ, Bool, true, false, cond, List, [], ◌∷◌, zero, suc, map, refl, sym, ap, ◌∙◌, subst, arith, nat_eq, inl, inr, ◌⊎◌}
use Rattle.std.specs.Prelude.{Option, Some, None, IsSome, nat_le, slice_get, slice_set}
use Rattle.std.specs.Option.{option_map, option_map_or, option_and_then}
use Rattle.std.proofs.lemmas.Bool.{eqb-true, eq-eqb}
use Rattle.std.proofs.lemmas.Option.{slice_get-map}
use Rattle.ash_host.specs.declared.answer.HostAnswer.{HostAnswer}
use Rattle.ash_host.specs.declared.event.Target.{Target}
use Rattle.ash_host.specs.declared.event.Target.TheVariants as targets
use Rattle.ash_host.specs.declared.host_object.HostObject.{Ghosts}
use Rattle.ash_host.specs.Records.{HostRecord}
use Rattle.ash_host.specs.Calls.{HostCall}
use Rattle.ash_host.specs.Objects.{Plain, Host, LiveObjects, object_at, with_at, IsInOrder, Lives}
use Rattle.ash_host.proofs.Order.{same_in_order, object_at-with_at, in_order-with_at}
use Rattle.ash_meaning.specs.ObjectSteps as meaning
use Rattle.ash_meaning.specs.HostSteps.{state_in, with_state_in}
use Rattle.ash_slots.specs.declared.body.Body.{Body}
use Rattle.ash_slots.specs.declared.body.Body.TheVariants as bodies
use Rattle.ash_slots.specs.SlotResponses.{Responds, box_of}
use Rattle.ash_slots.specs.Store.{change_at}
use Rattle.ash_slots.proofs.Changing.{object_at-change, in_order-change}
use Rattle.ash_objects.specs.Table.{Living, Table, with_object, held, holds_of}
use Rattle.ash_objects.specs.Responses.{box_at, with_box}
use Rattle.ash_objects.proofs.Marks.{in_order-mapped}
use Rattle.ash_object_ranks.specs.ShownTables.{SlotNames, body_shown, objects_shown}
use Rattle.ash_object_ranks.proofs.ShownTables.{living_shown, shown_at}
use Rattle.ash_run_steps.specs.Answered.{IsStill}
use Rattle.ash_run_steps.specs.Following.{HasAnswered, box_for, Follows}
use Rattle.ash_run_steps.proofs.Followed.{still_same, marks_by, marks_changed, no_more_answered}

-- lists of which one is replaced

got_set : {X : Type 0} (xs : List X) (i k : ℕ) (x y before : X) → slice_get xs i ≡ Some before → slice_get (slice_set xs i x) k ≡ Some y
    → ((k ≡ i) × (y ≡ x)) ⊎ (slice_get xs k ≡ Some y)
got_set [] i k x y before at is = cc
got_set (z ∷ xs) zero zero x y before at is = inl (refl, cc)
got_set (z ∷ xs) zero (suc k) x y before at is = inr is
got_set (z ∷ xs) (suc i) zero x y before at is = inr is
got_set (z ∷ xs) (suc i) (suc k) x y before at is =
    elim (got_set xs i k x y before at is) [
      | inl same ↦ inl (ap suc same.0, same.1)
      | inr other ↦ inr other
    ]

-- the objects with one of them changed

pub eqb_sym : (n m : ℕ) → nat_eq n m ≡ nat_eq m n
eqb_sym n m = go (nat_eq n m) (nat_eq m n) refl refl
  where
    go : (a b : Bool) → nat_eq n m ≡ a → nat_eq m n ≡ b → a ≡ b
    go true true one other = refl
    go false false one other = refl
    go true false one other = let back = eq-eqb m n (sym (eqb-true n m one)) in cc
    go false true one other = let back = eq-eqb n m (sym (eqb-true m n other)) in cc

pub changed_is : (n : ℕ) (how : Plain (List ℕ) → Plain (List ℕ)) (old new : LiveObjects (List ℕ)) (x : Plain (List ℕ))
    → IsInOrder old → IsInOrder new → object_at n old ≡ Some x
    → ((m : ℕ) → object_at m new ≡ cond (nat_eq m n) (Some (how x)) (object_at m old))
    → meaning.change_at n how old ≡ new
changed_is n how old new x before after at there =
    ap (λ (o : Option (Plain (List ℕ))). option_map_or (λ object. with_at n (how object) old) o old) at
    ∙ same_in_order (with_at n (how x) old) new (in_order-with_at n (how x) old before) after
    (λ m. object_at-with_at n (how x) m old ∙ sym (there m))

module _ {B : Type 0} where
  -- the table with another service at a place
  abbrev pub with_service : ℕ → B → Table B → Table B
  with_service index box table = record table { services = slice_set table.services index box }

  -- a host object in the table

  body_is : (body : Body B) (box : B) → box_of body ≡ Some box → body ≡ bodies.Host box
  body_is (bodies.Script script) box is = cc
  body_is (bodies.Array array) box is = cc
  body_is (bodies.Host other) box is = cc

  host_in : (o : Option (Living B)) (box : B) → option_and_then (λ (object : Living B). box_of object.body) o ≡ Some box
      → (x : Living B) × (o ≡ Some x) × (x.body ≡ bodies.Host box)
  host_in None box is = cc
  host_in (Some x) box is = (x, refl, body_is x.body box is)

  pub holds_boxed : (n m : ℕ) (after : B) (table : Table B) → holds_of m (with_object n (with_box after) table) ≡ holds_of m table
  holds_boxed n m after table =
      ap (λ (o : Option (Living B)). option_map_or (λ (x : Living B). x.holds) o 0) (object_at-change n (with_box after) m table.objects) ∙ go (nat_eq n m) (object_at m table.objects)
    where
      go : (b : Bool) (o : Option (Living B)) → option_map_or (λ (x : Living B). x.holds) (cond b (option_map (with_box after) o) o) 0 ≡ option_map_or (λ (x : Living B). x.holds) o 0
      go true None = refl
      go true (Some x) = refl
      go false o = refl

  pub box_held : (n m : ℕ) (table : Table B) → box_at m (with_object n held table) ≡ box_at m table
  box_held n m table =
      ap (option_and_then (λ (object : Living B). box_of object.body)) (object_at-change n held m table.objects) ∙ go (nat_eq n m) (object_at m table.objects)
    where
      go : (b : Bool) (o : Option (Living B)) → option_and_then (λ (object : Living B). box_of object.body) (cond b (option_map held o) o) ≡ option_and_then (λ (object : Living B). box_of object.body) o
      go true None = refl
      go true (Some x) = refl
      go false o = refl

  pub box_lives : (n : ℕ) (table : Table B) → IsSome (box_at n table) → Lives table.objects n
  box_lives n table is = go (object_at n table.objects) is
    where
      go : (o : Option (Living B)) → IsSome (option_and_then (λ (object : Living B). box_of object.body) o) → IsSome o
      go None is = is
      go (Some x) is = refl

  box_in : (b : Bool) (after box : B) (o : Option (Living B)) → option_and_then (λ (object : Living B). box_of object.body) (cond b (option_map (with_box after) o) o) ≡ Some box
      → ((b ≡ true) × (box ≡ after)) ⊎ (option_and_then (λ (object : Living B). box_of object.body) o ≡ Some box)
  box_in true after box None is = inr is
  box_in true after box (Some x) is = inl (refl, cc)
  box_in false after box o is = inr is

  box_boxed : (n m : ℕ) (after box : B) (table : Table B) → box_at m (with_object n (with_box after) table) ≡ Some box
      → ((n ≡ m) × (box ≡ after)) ⊎ (box_at m table ≡ Some box)
  box_boxed n m after box table is =
      elim (box_in (nat_eq n m) after box (object_at m table.objects) (sym (ap (option_and_then (λ (object : Living B). box_of object.body)) (object_at-change n (with_box after) m table.objects)) ∙ is)) [
        | inl same ↦ inl (eqb-true n m same.0, same.1)
        | inr other ↦ inr other
      ]

module _ {B : Type 0} (G : Ghosts B) where
  -- the box that answered is what it was
  answered_still : (o : Option B) (box before after : B) (call : HostCall) (answer : HostAnswer)
      → o ≡ Some before → Responds G before call answer after → box ≡ after → IsStill G o box
  answered_still o box before after call answer was responds is =
      subst (λ (p : Option B). IsStill G p box) (sym was)
      (subst (λ (b : B). IsStill G (Some before) b) (sym is) (responds.same_kind, responds.same_relation))

  pub follows_service : {records : List HostRecord} (index : ℕ) (before after : B) (call : HostCall) (answer : HostAnswer) (table : Table B)
      → slice_get table.services index ≡ Some before → Responds G before call answer after → Follows G [] records table (with_service index after table)
  follows_service index before after call answer table was responds = record {
    boxes = record { rises = omega arith; given = tt; first_free = refl; still = still };
    marks = marks_by table (with_service index after table) refl refl (λ n x at un. at) (λ n below lives. lives) (λ n lives. lives);
    no_more = λ n is has. inr (inl (record { object = is.object; there = is.there; marked = is.marked }));
  }
    where
      still : (target : Target) (box : B) → box_for (with_service index after table) [] target ≡ Some box → IsStill G (box_for table [] target) box
      still (targets.Object n) box is = still_same G (box_for table [] (targets.Object n)) box is
      still (targets.Service k) box is =
          elim (got_set table.services index k after box before was is) [
            | inl same ↦
                answered_still (slice_get table.services k) box before after call answer (ap (slice_get table.services) same.0 ∙ was) responds same.1
            | inr other ↦ still_same G (slice_get table.services k) box other
          ]

  pub follows_object : {records : List HostRecord} (number : ℕ) (before after : B) (call : HostCall) (answer : HostAnswer) (table : Table B)
      → box_at number table ≡ Some before → Responds G before call answer after → HasAnswered records number
      → Follows G [] records table (with_object number (with_box after) table)
  follows_object {records} number before after call answer table was responds answered = record {
    boxes = record { rises = omega arith; given = tt; first_free = refl; still = still };
    marks = marks_changed (with_box after) (λ x. refl) number table;
    no_more = no_more_answered records (with_box after) number table answered;
  }
    where
      by : (m : ℕ) (b : Bool) (box : B) → cond b (box_at m (with_object number (with_box after) table)) None ≡ Some box → IsStill G (cond b (box_at m table) None) box
      by m true box is =
          elim (box_boxed number m after box table is) [
            | inl same ↦
                answered_still (box_at m table) box before after call answer (ap (λ (k : ℕ). box_at k table) (sym same.0) ∙ was) responds same.1
            | inr other ↦ still_same G (box_at m table) box other
          ]
      by m false box is = absurd (cc)

      still : (target : Target) (box : B) → box_for (with_object number (with_box after) table) [] target ≡ Some box → IsStill G (box_for table [] target) box
      still (targets.Object m) box is = by m (nat_le m table.last) box is
      still (targets.Service k) box is = still_same G (slice_get table.services k) box is

module _ {B : Type 0} (G : Ghosts B) (names : SlotNames) where
  -- the host object of a number, as it is shown
  pub host_shown_at : (number : ℕ) (box : B) (table : Table B) → box_at number table ≡ Some box
      → object_at number (objects_shown G names table.objects) ≡ Some (Host (G.kind_of box) (G.state box))
  host_shown_at number box table was =
      let there = host_in (object_at number table.objects) box was in
      shown_at G names number table.objects
      ∙ ap (option_map (living_shown G names)) there.1
      ∙ ap (λ (body : Body B). Some (body_shown G names body)) there.2

  pub lacks_shown_at : (number : ℕ) (table : Table B) → box_at number table ≡ None
      → option_and_then state_in (object_at number (objects_shown G names table.objects)) ≡ None
  lacks_shown_at number table none =
      ap (option_and_then state_in) (shown_at G names number table.objects) ∙ go (object_at number table.objects) none
    where
      body : (b : Body B) → box_of b ≡ None → state_in (body_shown G names b) ≡ None
      body (bodies.Script script) is = refl
      body (bodies.Array array) is = refl
      body (bodies.Host box) is = cc

      go : (o : Option (Living B)) → option_and_then (λ (object : Living B). box_of object.body) o ≡ None
          → option_and_then state_in (option_map (living_shown G names) o) ≡ None
      go None is = refl
      go (Some x) is = body x.body is

  pub service_shown_at : (index : ℕ) (box : B) (table : Table B) → slice_get table.services index ≡ Some box
      → slice_get (map G.state table.services) index ≡ Some (G.state box)
  service_shown_at index box table was = slice_get-map G.state table.services index ∙ ap (option_map G.state) was

  -- no state is what the state was before
  pub same_state : (number : ℕ) (box : B) (table : Table B) → IsInOrder table.objects → box_at number table ≡ Some box
      → meaning.change_at number (with_state_in (G.state box)) (objects_shown G names table.objects) ≡ objects_shown G names table.objects
  same_state number box table ordered was =
      let all = objects_shown G names table.objects in
      let here = host_shown_at number box table was in
      let order = in_order-mapped (living_shown G names) table.objects ordered in
      changed_is number (with_state_in (G.state box)) all all (Host (G.kind_of box) (G.state box)) order order here (λ m. each m (nat_eq m number) refl here)
    where
      each : (m : ℕ) (b : Bool) → nat_eq m number ≡ b → object_at number (objects_shown G names table.objects) ≡ Some (Host (G.kind_of box) (G.state box))
          → object_at m (objects_shown G names table.objects) ≡ cond b (Some (Host (G.kind_of box) (G.state box))) (object_at m (objects_shown G names table.objects))
      each m true is here = ap (λ (k : ℕ). object_at k (objects_shown G names table.objects)) (eqb-true m number is) ∙ here
      each m false is here = refl

  -- a box that answered is shown with its state
  pub boxed_shown : (number : ℕ) (before after : B) (table : Table B) → IsInOrder table.objects → box_at number table ≡ Some before → G.kind_of after ≡ G.kind_of before
      → meaning.change_at number (with_state_in (G.state after)) (objects_shown G names table.objects) ≡ objects_shown G names (change_at number (with_box after) table.objects)
  boxed_shown number before after table ordered was kind =
      changed_is number (with_state_in (G.state after)) (objects_shown G names table.objects) (objects_shown G names (change_at number (with_box after) table.objects)) (Host (G.kind_of before) (G.state before))
      (in_order-mapped (living_shown G names) table.objects ordered)
      (in_order-mapped (living_shown G names) (change_at number (with_box after) table.objects) (in_order-change number (with_box after) table.objects ordered))
      (host_shown_at number before table was)
      (λ m. shown_at G names m (change_at number (with_box after) table.objects)
      ∙ ap (option_map (living_shown G names)) (object_at-change number (with_box after) m table.objects)
      ∙ each m (nat_eq number m) refl
      ∙ ap (λ (b : Bool). cond b (Some (Host (G.kind_of before) (G.state after))) (option_map (living_shown G names) (object_at m table.objects))) (eqb_sym number m)
      ∙ ap (λ (o : Option (Plain (List ℕ))). cond (nat_eq m number) (Some (Host (G.kind_of before) (G.state after))) o) (sym (shown_at G names m table.objects)))
    where
      each : (m : ℕ) (b : Bool) → nat_eq number m ≡ b
          → option_map (living_shown G names) (cond b (option_map (with_box after) (object_at m table.objects)) (object_at m table.objects))
          ≡ cond b (Some (Host (G.kind_of before) (G.state after))) (option_map (living_shown G names) (object_at m table.objects))
      each m true is =
          let there = host_in (object_at number table.objects) before was in
          ap (λ (o : Option (Living B)). option_map (living_shown G names) (option_map (with_box after) o)) (ap (λ (k : ℕ). object_at k table.objects) (sym (eqb-true number m is)) ∙ there.1)
          ∙ ap (λ (k : ℕ). Some (Host k (G.state after))) kind
      each m false is = refl
