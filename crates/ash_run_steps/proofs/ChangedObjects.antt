-- Tables in which an object is changed: what is held, which boxes there are, and what is shown.
use Rattle.std.proofs.Common.{◌≡◌, ℕ, Bool, true, false, cond, List, [], refl, sym, ap, ◌∙◌, arith, nat_eq}
use Rattle.std.specs.Prelude.{Option, Some, None, IfSome, is_some}
use Rattle.std.specs.Option.{option_map, option_map_or, option_and_then}
use Rattle.std.proofs.lemmas.Bool.{eqb-true, eq-eqb}
use Rattle.ash_host.specs.declared.host_object.HostObject.{Ghosts}
use Rattle.ash_host.specs.declared.word.Word.{Word}
use Rattle.ash_host.specs.Objects.{Plain, LiveObjects, object_at, with_at, IsInOrder, fields_of, handle}
use Rattle.ash_host.specs.Records.{HostRecord}
use Rattle.ash_host.proofs.Order.{same_in_order, object_at-with_at, in_order-with_at}
use Rattle.ash_meaning.specs.Activity.{World, in_world}
use Rattle.ash_meaning.specs.ObjectSteps as objects
use Rattle.ash_meaning.specs.Runs.{Done}
use Rattle.ash_slots.specs.Bodies.{words_of}
use Rattle.ash_slots.specs.Store.{change_at}
use Rattle.ash_slots.specs.SlotResponses.{box_of}
use Rattle.ash_slots.proofs.Changing.{object_at-change, in_order-change, change_none}
use Rattle.ash_objects.specs.Table.{Living, Table, with_object, holds_of}
use Rattle.ash_objects.specs.Responses.{box_at}
use Rattle.ash_objects.proofs.Marks.{in_order-mapped}
use Rattle.ash_object_ranks.specs.ShownTables.{SlotNames, body_shown, objects_shown}
use Rattle.ash_object_ranks.proofs.ShownTables.{living_shown, shown_at, words_shown}
use Rattle.ash_run_steps.specs.Becoming.{Becomes}
use Rattle.ash_run_steps.specs.Following.{Follows}
use Rattle.ash_run_steps.specs.Guarded.{Guarded, give}
use Rattle.ash_run_steps.specs.PartSteps.{words_at}
use Rattle.ash_run_steps.specs.RunStates.{State, Names, shown, bare, is_alive_in}
use Rattle.ash_run_steps.proofs.Composed.{gave_nothing, becomes_by, becomes_then}
use Rattle.ash_run_steps.proofs.Followed.{keeps_by, marks_changed, no_more_changed}
use Rattle.ash_run_steps.proofs.HoldSteps.{at_table, same_activity}

module _ {B : Type 0} (f : Living B → Living B) (n : ℕ) where
  -- a change that leaves holds leaves those of all objects
  pub changed_holds : ((x : Living B) → (f x).holds ≡ x.holds) → (m : ℕ) (table : Table B) → holds_of m (with_object n f table) ≡ holds_of m table
  changed_holds same m table =
      ap (λ (o : Option (Living B)). option_map_or (λ (x : Living B). x.holds) o 0) (object_at-change n f m table.objects) ∙ go (nat_eq n m) (object_at m table.objects)
    where
      go : (b : Bool) (o : Option (Living B)) → option_map_or (λ (x : Living B). x.holds) (cond b (option_map f o) o) 0 ≡ option_map_or (λ (x : Living B). x.holds) o 0
      go true None = refl
      go true (Some x) = same x
      go false o = refl

  -- whoever lives goes on living
  pub changed_lives : (m : ℕ) (table : Table B) → is_some (object_at m (with_object n f table).objects) ≡ is_some (object_at m table.objects)
  changed_lives m table =
      ap is_some (object_at-change n f m table.objects) ∙ go (nat_eq n m) (object_at m table.objects)
    where
      go : (b : Bool) (o : Option (Living B)) → is_some (cond b (option_map f o) o) ≡ is_some o
      go true None = refl
      go true (Some x) = refl
      go false o = refl

  pub changed_alive : (w : Word) (table : Table B) → is_alive_in w (with_object n f table) ≡ is_alive_in w table
  changed_alive w table = go (handle w)
    where
      go : (o : Option ℕ) → option_map_or (λ (m : ℕ). is_some (object_at m (with_object n f table).objects)) o true ≡ option_map_or (λ (m : ℕ). is_some (object_at m table.objects)) o true
      go None = refl
      go (Some m) = changed_lives m table

  changed_box : ((x : Living B) → box_of (f x).body ≡ box_of x.body) → (m : ℕ) (table : Table B) → box_at m (with_object n f table) ≡ box_at m table
  changed_box same m table =
      ap (option_and_then (λ (x : Living B). box_of x.body)) (object_at-change n f m table.objects) ∙ go (nat_eq n m) (object_at m table.objects)
    where
      go : (b : Bool) (o : Option (Living B)) → option_and_then (λ (x : Living B). box_of x.body) (cond b (option_map f o) o) ≡ option_and_then (λ (x : Living B). box_of x.body) o
      go true None = refl
      go true (Some x) = same x
      go false o = refl

module _ {B : Type 0} (G : Ghosts B) where
  -- a change that leaves an object's box leaves all boxes, and one that marks it marks what changed
  pub follows_changed : (f : Living B → Living B) → ((x : Living B) → box_of (f x).body ≡ box_of x.body) → ((x : Living B) → (f x).touched ≡ true)
      → (n : ℕ) (table : Table B) → box_at n table ≡ None → Follows G [] [] table (with_object n f table)
  follows_changed f same touches n table none = record {
    boxes = keeps_by G table (with_object n f table) (omega arith) refl refl (λ m box below at. (below, sym (changed_box f n same m table) ∙ at));
    marks = marks_changed f touches n table;
    no_more = no_more_changed f n table none same;
  }

module _ {B : Type 0} (G : Ghosts B) (names : SlotNames) where
  -- the words of an object are shown as they are
  pub words_in_shown : (n : ℕ) (table : Table B) → option_map_or fields_of (object_at n (objects_shown G names table.objects)) [] ≡ words_at n table
  words_in_shown n table =
      ap (λ (o : Option (Plain (List ℕ))). option_map_or fields_of o []) (shown_at G names n table.objects) ∙ go (object_at n table.objects)
    where
      go : (o : Option (Living B)) → option_map_or fields_of (option_map (living_shown G names) o) [] ≡ option_map_or (λ (x : Living B). words_of x.body) o []
      go None = refl
      go (Some x) = words_shown G names x.body

  -- an object that is changed is shown as one that is changed
  pub changed_shown : (n : ℕ) (f : Living B → Living B) (how : Plain (List ℕ) → Plain (List ℕ)) (l : List (ℕ × Living B)) → IsInOrder l
      → ((x : Living B) → object_at n l ≡ Some x → body_shown G names (f x).body ≡ how (body_shown G names x.body))
      → objects_shown G names (change_at n f l) ≡ objects.change_at n how (objects_shown G names l)
  changed_shown n f how l o each = go (object_at n l) refl
    where
      all : LiveObjects (List ℕ)
      all = objects_shown G names l

      order : IsInOrder all
      order = in_order-mapped (living_shown G names) l o

      put : Plain (List ℕ) → LiveObjects (List ℕ)
      put p = with_at n (how p) all

      at_each : (x : Living B) → object_at n l ≡ Some x → (m : ℕ) (b c : Bool) → nat_eq n m ≡ b → nat_eq m n ≡ c
          → option_map (living_shown G names) (cond b (option_map f (object_at m l)) (object_at m l))
          ≡ cond c (Some (how (body_shown G names x.body))) (option_map (living_shown G names) (object_at m l))
      at_each x is m true true here there =
          ap (λ (k : ℕ). option_map (living_shown G names) (option_map f (object_at k l))) (sym (eqb-true n m here))
          ∙ ap (λ (v : Option (Living B)). option_map (living_shown G names) (option_map f v)) is
          ∙ ap Some (each x is)
      at_each x is m false false here there = refl
      at_each x is m true false here there = let back = eq-eqb m n (sym (eqb-true n m here)) in absurd (cc)
      at_each x is m false true here there = let back = eq-eqb n m (sym (eqb-true m n there)) in absurd (cc)

      same_at : (x : Living B) → object_at n l ≡ Some x → (m : ℕ) → object_at m (objects_shown G names (change_at n f l)) ≡ object_at m (put (body_shown G names x.body))
      same_at x is m =
          shown_at G names m (change_at n f l)
          ∙ ap (option_map (living_shown G names)) (object_at-change n f m l)
          ∙ at_each x is m (nat_eq n m) (nat_eq m n) refl refl
          ∙ ap (λ (v : Option (Plain (List ℕ))). cond (nat_eq m n) (Some (how (body_shown G names x.body))) v) (sym (shown_at G names m l))
          ∙ sym (object_at-with_at n (how (body_shown G names x.body)) m all)

      go : (v : Option (Living B)) → object_at n l ≡ v → objects_shown G names (change_at n f l) ≡ option_map_or put (object_at n all) all
      go None is =
          ap (objects_shown G names) (change_none n f l is)
          ∙ ap (λ (v : Option (Plain (List ℕ))). option_map_or put v all) (sym (shown_at G names n l ∙ ap (option_map (living_shown G names)) is))
      go (Some x) is =
          same_in_order (objects_shown G names (change_at n f l)) (put (body_shown G names x.body))
          (in_order-mapped (living_shown G names) (change_at n f l) (in_order-change n f l o))
          (in_order-with_at n (how (body_shown G names x.body)) all order)
          (same_at x is)
          ∙ ap (λ (v : Option (Plain (List ℕ))). option_map_or put v all) (sym (shown_at G names n l ∙ ap (option_map (living_shown G names)) is))

module _ {B : Type 0} (G : Ghosts B) (names : Names) where
  -- an activity in which an object is changed
  pub changed_activity : (rest : List HostRecord) (s : State B) (n : ℕ) (f : Living B → Living B) (how : Plain (List ℕ) → Plain (List ℕ))
      → IsInOrder (s.table).objects
      → ((x : Living B) → object_at n (s.table).objects ≡ Some x → body_shown G names.modules (f x).body ≡ how (body_shown G names.modules x.body))
      → shown G names rest (at_table (with_object n f s.table) s) ≡ in_world (objects.with_object n how) (shown G names rest s)
  changed_activity rest s n f how o each =
      ap (λ (all : LiveObjects (List ℕ)). in_world (λ (world : World). record world { objects = all }) (shown G names rest s)) (changed_shown G names.modules n f how (s.table).objects o each)

  -- a step in which no host answers
  pub becomes_kept : {A : Type 0} (run : Guarded A) (old : State B) (left : Guarded A) (new : State B) → Follows G [] [] old.table new.table → new.events ≡ old.events
      → ((rest : List HostRecord) → IfSome (run (shown G names rest old)) (λ progress. left (shown G names rest new) ≡ Some progress))
      → Becomes G names run old left new
  becomes_kept run old left new follows told says = record {
    records = [];
    gave = gave_nothing G old.table old.events new.table new.events follows told;
    same = says;
  }

  -- holds after a step are no part of it
  pub then_held : {A : Type 0} (run : Guarded A) (old : State B) (value : A) (mid : State B) (table : Table B) → bare table ≡ bare mid.table
      → Becomes G names run old (give value) mid → Becomes G names run old (give value) (at_table table mid)
  then_held run old value mid table same is =
      becomes_then G names run old (give value) mid (give value) (at_table table mid) is
      (becomes_by G names (give value) mid (give value) (at_table table mid) same refl (λ rest. ap (λ (a : _). Some (Done value a)) (same_activity G names rest mid table same)))
