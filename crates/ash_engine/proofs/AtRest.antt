-- Tables in which nothing is marked, and what they hold.
use Rattle.std.proofs.Common.{◌≡◌, ◌<◌, ◌≤◌, ℕ, Bool, true, false, cond, List, [], ◌∷◌, map, filter, refl, sym, ap, ◌∙◌, ⊎_elim, arith}
use Rattle.std.specs.Prelude.{All, IsTrue, Option, Some, None, Contains, IfSome, is_some}
use Rattle.std.specs.Map.{keys_of}
use Rattle.std.specs.Option.{option_map, option_map_or}
use Rattle.std.proofs.lemmas.Bool.{eq-eqb}
use Rattle.std.proofs.lemmas.List.Elements.{All-from_recursion}
use Rattle.std.proofs.lemmas.Option.{same_Some}
use Rattle.ash_host.specs.declared.event.Event.TheVariants.{Called, Dropped}
use Rattle.ash_host.specs.declared.event.Target.TheVariants.{Service}
use Rattle.ash_host.specs.declared.word.Word.{Word}
use Rattle.ash_host.specs.Objects.{object_at, handles, AreNumbered, IsInOrder}
use Rattle.ash_host.proofs.Order.{same_in_order}
use Rattle.ash_objects.specs.Marking.{marked_of, settled_object, without_gone, without_marks}
use Rattle.ash_objects.specs.Table.{Living, Table, holds_of}
use Rattle.ash_objects.proofs.Marks.{object_at-mapped, in_order-mapped}
use Rattle.ash_change_laws.specs.UncalledServices.{IsCalled}
use Rattle.ash_run_steps.specs.RunStates.{bare, bare_living, HoldsLess, HoldsMore, is_alive_in, times}
use Rattle.ash_run_steps.proofs.AnsweredRuns.{numbered_bare}
use Rattle.ash_run_steps.proofs.Roots.{times_cons, times_one}
use Rattle.ash_soundness.proofs.Values.{none_in}
use Rattle.ash_engine.proofs.Called.{one_of}
use Rattle.ash_engine.proofs.StartedGlobals.{each_alive}

-- where nothing is marked, nothing is to be cleared

module _ {B : Type 0} where
  abbrev settled_entry : ℕ × Living B → ℕ × Living B
  settled_entry e = (e.0, settled_object e.1)

  same_object : (o : Option (Living B)) → IfSome o (λ object. object.touched ≡ false) → option_map settled_object o ≡ o
  same_object None clear = refl
  same_object (Some x) clear = ap (λ (b : Bool). let y : Living B = record x { touched = b } in Some y) (sym clear)

  none_marked : (l : List (ℕ × Living B)) → keys_of (filter (λ e. (e.1).touched) (map settled_entry l)) ≡ []
  none_marked [] = refl
  none_marked (e ∷ l) = none_marked l

  module _ (table : Table B) (order : IsInOrder table.objects)
      (clear : (number : ℕ) → IfSome (object_at number table.objects) (λ object. object.touched ≡ false)) where
    same_objects : map settled_entry table.objects ≡ table.objects
    same_objects = same_in_order (map settled_entry table.objects) table.objects
        (in_order-mapped settled_object table.objects order) order
        (λ n. object_at-mapped settled_object n table.objects ∙ same_object (object_at n table.objects) (clear n))

    pub marked_none : marked_of table ≡ []
    marked_none = ap (λ (l : List (ℕ × Living B)). keys_of (filter (λ e. (e.1).touched) l)) (sym same_objects)
        ∙ none_marked table.objects

    pub gone_taken : without_gone table ≡ without_marks table
    gone_taken = ap (λ (l : List (ℕ × Living B)). let t : Table B = record table {
      objects = l;
      settled = table.last;
      gone = [];
    } in t) (sym same_objects)

-- what is let go and held again is as it was

module _ {B : Type 0} where
  same_living : (one other : Option (Living B)) → option_map bare_living one ≡ option_map bare_living other
      → option_map_or (λ (x : Living B). x.holds) one 0 ≡ option_map_or (λ (x : Living B). x.holds) other 0
      → one ≡ other
  same_living None None same holds = refl
  same_living None (Some y) same holds = absurd (cc)
  same_living (Some x) None same holds = absurd (cc)
  same_living (Some x) (Some y) same holds =
      let face : bare_living x ≡ bare_living y = same_Some (bare_living x) (bare_living y) same in
      (λ i. Some (record (face i) { holds = holds i }))

  module _ (numbers : List ℕ) (old less again : Table B) (numbered : AreNumbered old.last old.objects)
      (unheld : HoldsLess numbers old less) (held : HoldsMore numbers less again) where
    same_bare : bare again ≡ bare old
    same_bare = held.same ∙ unheld.same

    same_at : (n : ℕ) → object_at n again.objects ≡ object_at n old.objects
    same_at n = same_living (object_at n again.objects) (object_at n old.objects)
        (sym (object_at-mapped bare_living n again.objects) ∙ ap (λ (t : Table B). object_at n t.objects) same_bare
        ∙ object_at-mapped bare_living n old.objects)
        (omega (arith, held.counts n, unheld.counts n))

    pub held_again : again ≡ old
    held_again =
        let objects = same_in_order again.objects old.objects
        ((numbered_bare old again same_bare numbered).in_order) numbered.in_order same_at in
        (λ i. record (same_bare i) { objects = objects i })

-- what holds count lives

counted_in : (n : ℕ) (ns : List ℕ) → Contains ns n → 0 < times n ns
counted_in n [] h = absurd (none_in n h)
counted_in n (m ∷ ns) h = ⊎_elim
    (λ same. let one = times_one n m ∙ ap (λ (b : Bool). cond b 1 0) (eq-eqb n m (sym same)) in
    omega (arith, times_cons n m ns, one))
    (λ rest. let some = counted_in n ns rest in omega (arith, times_cons n m ns, some))
    (one_of m ns n h)

pub alive_by_holds : {B : Type 0} (table : Table B) (words : List Word)
    → ((n : ℕ) → times n (handles words) ≤ holds_of n table)
    → All (λ (word : Word). IsTrue (is_alive_in word table)) words
alive_by_holds {B} table words held =
    All-from_recursion (λ (word : Word). IsTrue (is_alive_in word table)) words
    (each_alive (λ (n : ℕ). is_some (object_at n table.objects)) words
    (λ n among. let some = counted_in n (handles words) among in
    lives (object_at n table.objects) (omega (arith, held n, some))))
  where
    lives : (o : Option (Living B)) → 0 < option_map_or (λ (x : Living B). x.holds) o 0 → is_some o ≡ true
    lives None some = absurd (omega (arith, some))
    lives (Some x) some = refl

-- drops are no calls
pub drops_call_none : (ns : List ℕ) (place : ℕ) → IsCalled place (map Dropped ns) → ⊥
drops_call_none [] place called = none_in (Called (Service place) called.0) called.1
drops_call_none (n ∷ ns) place called = ⊎_elim
    (λ same. (let e : Dropped n ≡ Called (Service place) called.0 = same in cc))
    (λ rest. drops_call_none ns place (called.0, rest))
    (one_of (Dropped n) (map Dropped ns) (Called (Service place) called.0) called.1)
