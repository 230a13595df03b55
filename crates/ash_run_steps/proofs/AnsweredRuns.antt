-- Which boxes answered in a run, of tables whose numbers are in order.
use Rattle.std.proofs.Common.{◌≡◌, ◌<◌, ◌≤◌, ◌+◌, ℕ, Bool, true, false, cond, List, [], ◌∷◌, map, refl, sym, ap, ◌∙◌, subst, arith, nat_eq}
use Rattle.std.specs.Prelude.{Option, Some, None, filter_map, is_some, nat_le}
use Rattle.std.specs.List.{AllByRecursion, cons_option}
use Rattle.std.specs.Option.{option_and_then, option_map, option_or}
use Rattle.std.specs.List.Sorted.{IsStrictlyIncreasing}
use Rattle.std.proofs.lemmas.Bool.{eqb-true}
use Rattle.std.proofs.lemmas.Bool.Decides.{nat_tests}
use Rattle.std.proofs.lemmas.Map.Made.{keys_of-map_values}
use Rattle.ash_host.specs.declared.event.Event.{Event}
use Rattle.ash_host.specs.declared.event.Target.{Target}
use Rattle.ash_host.specs.declared.event.Target.TheVariants as targets
use Rattle.ash_host.specs.declared.host_object.HostObject.{Ghosts}
use Rattle.ash_host.specs.Objects.{object_at, numbers, AreNumbered, IsInOrder}
use Rattle.ash_host.specs.Records.{HostRecord}
use Rattle.ash_host.proofs.Order.{in_order_after}
use Rattle.ash_slots.specs.SlotResponses.{box_of}
use Rattle.ash_slots.proofs.Changing.{none_later}
use Rattle.ash_objects.specs.Responses as table
use Rattle.ash_objects.specs.Table.{Living, Table}
use Rattle.ash_run_steps.specs.Answered.{Boxes, boxed_entry, boxes_of, box_at, IsValidOf, IsStill, Answered}
use Rattle.ash_run_steps.specs.Becoming.{Gave}
use Rattle.ash_run_steps.specs.Following.{box_for}
use Rattle.ash_run_steps.specs.RunStates.{bare, bare_living}
use Rattle.ash_run_steps.proofs.Bare.{same_lives}
use Rattle.ash_run_steps.proofs.Followed.{at_append}

module _ {B : Type 0} where
  abbrev box_in : Option (Living B) → Option B
  box_in o = option_and_then (λ (object : Living B). box_of object.body) o

  -- the box of an object, among the boxes of a table
  box_listed : (n : ℕ) (l : List (ℕ × Living B)) → IsInOrder l → object_at n (filter_map boxed_entry l) ≡ box_in (object_at n l)
  box_listed n [] o = refl
  box_listed n (e ∷ l) o =
      go (box_of (e.1).body) (nat_eq n e.0) refl refl (box_listed n l (in_order_after e l o)) (λ here. none_later n e l o here)
    where
      go : (box : Option B) (b : Bool) → box_of (e.1).body ≡ box → nat_eq n e.0 ≡ b
          → object_at n (filter_map boxed_entry l) ≡ box_in (object_at n l) → (nat_eq n e.0 ≡ true → object_at n l ≡ None)
          → object_at n (cons_option (option_map (λ (x : B). (e.0, x)) box) (filter_map boxed_entry l)) ≡ box_in (cond b (Some e.1) (object_at n l))
      go None true none here later once = later ∙ ap box_in (once here) ∙ sym none
      go None false none here later once = later
      go (Some x) true some here later once = ap (λ (b : Bool). cond b (Some x) (object_at n (filter_map boxed_entry l))) here ∙ sym some
      go (Some x) false some here later once = ap (λ (b : Bool). cond b (Some x) (object_at n (filter_map boxed_entry l))) here ∙ later

  -- whom a call goes to
  target_is : (t : Table B) (drawn : List (ℕ × B)) (target : Target) → AreNumbered t.last t.objects
      → AllByRecursion (λ (e : ℕ × B). t.last + 1 ≤ e.0) drawn → box_for t drawn target ≡ box_at (boxes_of t) drawn target
  target_is t drawn (targets.Service place) numbered above = refl
  target_is t drawn (targets.Object n) numbered above =
      go (nat_le n t.last) refl
      ∙ ap (λ (o : Option B). option_or o (object_at n drawn)) (sym (box_listed n t.objects numbered.in_order))
      ∙ sym (at_append n (boxes_of t).objects drawn)
    where
      none_below : (l : List (ℕ × B)) → AllByRecursion (λ (e : ℕ × B). t.last + 1 ≤ e.0) l → n ≤ t.last → object_at n l ≡ None
      none_below [] h below = refl
      none_below (e ∷ l) h below = go (nat_eq n e.0) refl (none_below l h.1 below)
        where
          go : (b : Bool) → nat_eq n e.0 ≡ b → object_at n l ≡ None → cond b (Some e.1) (object_at n l) ≡ None
          go true is later = let same = eqb-true n e.0 is in let more : t.last + 1 ≤ e.0 = h.0 in absurd (omega (arith, same, more, below))
          go false is later = later

      only : (o : Option B) → object_at n drawn ≡ None → o ≡ option_or o (object_at n drawn)
      only None none = sym none
      only (Some x) none = refl

      go : (b : Bool) → nat_le n t.last ≡ b → cond b (table.box_at n t) (object_at n drawn) ≡ option_or (table.box_at n t) (object_at n drawn)
      go true is = only (table.box_at n t) (none_below drawn above (grind (arith, nat_tests)))
      go false is = lives (object_at n t.objects) refl
        where
          lives : (o : Option (Living B)) → object_at n t.objects ≡ o → object_at n drawn ≡ option_or (box_in o) (object_at n drawn)
          lives None at = refl
          lives (Some x) at = let given = (numbered.given n (ap is_some at)).1 in let not = is in absurd (grind (arith, nat_tests))

  -- a box of a table is one that a call could go to
  there : (t : Table B) (n : ℕ) (box : B) → AreNumbered t.last t.objects → object_at n (boxes_of t).objects ≡ Some box
      → box_for t [] (targets.Object n) ≡ Some box
  there t n box numbered at =
      target_is t [] (targets.Object n) numbered tt ∙ at_append n (boxes_of t).objects [] ∙ go (object_at n (boxes_of t).objects) at
    where
      go : (o : Option B) → o ≡ Some box → option_or o None ≡ Some box
      go None at = absurd (cc)
      go (Some x) at = at

  each_above : (t new : Table B) (drawn : List (ℕ × B)) → AllByRecursion (λ (e : ℕ × B). (t.last < e.0) × (e.0 ≤ new.last)) drawn
      → AllByRecursion (λ (e : ℕ × B). t.last + 1 ≤ e.0) drawn
  each_above t new [] h = tt
  each_above t new (e ∷ drawn) h = (omega (arith, (h.0).0), each_above t new drawn h.1)

  -- tables that differ in holds alone have the same boxes

  boxes_listed : (l : List (ℕ × Living B)) → filter_map boxed_entry (map (λ e. (e.0, bare_living e.1)) l) ≡ filter_map boxed_entry l
  boxes_listed [] = refl
  boxes_listed (e ∷ l) = ap (cons_option (boxed_entry e)) (boxes_listed l)

  pub boxes_bare : (old new : Table B) → bare new ≡ bare old → boxes_of new ≡ boxes_of old
  boxes_bare old new same =
      ap (λ (l : List (ℕ × B)). let boxes : Boxes B = record { objects = l; pool = new.pool; services = new.services } in boxes) (sym (boxes_listed new.objects))
      ∙ ap (λ (t : Table B). boxes_of t) same
      ∙ ap (λ (l : List (ℕ × B)). let boxes : Boxes B = record { objects = l; pool = old.pool; services = old.services } in boxes) (boxes_listed old.objects)

  pub numbered_bare : (old new : Table B) → bare new ≡ bare old → AreNumbered old.last old.objects → AreNumbered new.last new.objects
  numbered_bare old new same numbered = record {
    in_order = subst (λ (l : List ℕ). IsStrictlyIncreasing l) (sym keys) numbered.in_order;
    given = λ n lives.
        let was = numbered.given n (sym (same_lives old new same n) ∙ lives) in
        (was.0, omega (arith, was.1, ap (λ (t : Table B). t.last) same));
  }
    where
      keys : numbers new.objects ≡ numbers old.objects
      keys = sym (keys_of-map_values bare_living new.objects) ∙ ap (λ (t : Table B). numbers t.objects) same ∙ keys_of-map_values bare_living old.objects

module _ {B : Type 0} (G : Ghosts B) where
  all_valid : (one other : Target → Option B) → ((target : Target) → one target ≡ other target) → (records : List HostRecord)
      → AllByRecursion (λ (r : HostRecord). IsValidOf G (one r.target) r) records → AllByRecursion (λ (r : HostRecord). IsValidOf G (other r.target) r) records
  all_valid one other same [] h = tt
  all_valid one other same (r ∷ records) h = (subst (λ (o : Option B). IsValidOf G o r) (same r.target) h.0, all_valid one other same records h.1)

  -- The boxes gave the answers of a run.
  pub answered : (records : List HostRecord) (old : Table B) (before : List Event) (new : Table B) (after : List Event)
      → AreNumbered old.last old.objects → AreNumbered new.last new.objects → (gave : Gave G records old before new after)
      → Answered G (boxes_of old) gave.happened records (boxes_of new)
  answered records old before new after first last gave = record {
    drawn = gave.drawn;
    in_turn = gave.in_turn;
    first_free = ((gave.follows).boxes).first_free;
    valid = all_valid (box_for old gave.drawn) (box_at (boxes_of old) gave.drawn) same records gave.valid;
    objects = λ number box at. still (targets.Object number) box (there new number box last at);
    services = λ place box at. still (targets.Service place) box at;
  }
    where
      same : (target : Target) → box_for old gave.drawn target ≡ box_at (boxes_of old) gave.drawn target
      same target = target_is old gave.drawn target first (each_above old new gave.drawn ((gave.follows).boxes).given)

      still : (target : Target) (box : B) → box_for new [] target ≡ Some box → IsStill G (box_at (boxes_of old) gave.drawn target) box
      still target box at = subst (λ (o : Option B). IsStill G o box) (same target) (((gave.follows).boxes).still target box at)

  -- the same of a run that began over a table, in which nothing was held but by globals
  pub answered_from : (records : List HostRecord) (table start : Table B) (before : List Event) (new : Table B) (after : List Event)
      → bare start ≡ bare table → AreNumbered table.last table.objects → AreNumbered new.last new.objects
      → (gave : Gave G records start before new after) → Answered G (boxes_of table) gave.happened records (boxes_of new)
  answered_from records table start before new after same first last gave =
      subst (λ (boxes : Boxes B). Answered G boxes gave.happened records (boxes_of new)) (boxes_bare table start same)
      (answered records start before new after (numbered_bare table start same first) last gave)
