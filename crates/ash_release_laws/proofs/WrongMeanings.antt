-- What the wrong meanings come to at their examples.
use Rattle.std.proofs.Common.{◌≡◌, ℕ, Bool, true, false, cond, List, [], ◌∷◌, ◌++◌, refl, sym, ap, subst, nat_eq, arith, rules}
use Rattle.std.specs.Prelude.{Option, Some, None, Contains, IsSome}
use Rattle.std.specs.Option.{option_map_or}
use Rattle.std.proofs.lemmas.Bool.{eqb-true}
use Rattle.ash_host.specs.declared.word.Word.{Word}
use Rattle.ash_host.specs.declared.word.Word.TheVariants as words
use Rattle.ash_host.specs.Objects.{Plain, Host, LiveObjects, handles, fields_of, Refers, Lives}
use Rattle.ash_host.specs.Reach.{Root, Field, ReachableIn, Swept, after_sweep, drops_of_sweep}
use Rattle.ash_host.proofs.ReachLaws.{sweep_is_exact}
use Rattle.ash_meaning.specs.Activity.{Frame, Activity}
use Rattle.ash_meaning.specs.Releases.{release, sweep}
use Rattle.ash_meaning.specs.Traces.{after_release}
use Rattle.ash_meaning.specs.CallMeaning.{Calls}
use Rattle.ash_soundness.proofs.Values.{first_in, none_in}
use Rattle.ash_release_laws.specs.Settling.{IsSettled, IsNumbered, Settles, KeepsItsFrame, Keeps}
use Rattle.ash_release_laws.specs.Held.{LeavesNothingHeld, HoldsOnlyItsValue}
use Rattle.ash_release_laws.proofs.Settling.{release_goes}
use Rattle.ash_release_laws.specs.WrongMeanings.{HoldsOn, held_clearing, call_with_all, LeavesTooLate, LeavesTooEarly, one_object, before_clearing, between_arguments, late_clearing, early_argument}

abbrev objects : LiveObjects (List ℕ)
objects = (1, Host 1 []) ∷ []

-- only the one object lives

lives_from : (n : ℕ) (b : Bool) → nat_eq n 1 ≡ b → IsSome (cond {A = Option (Plain (List ℕ))} b (Some (Host 1 [])) None) → n ≡ 1
lives_from n true is l = eqb-true n 1 is
lives_from n false is l = absurd (cc)

the_one : (n : ℕ) → Lives objects n → n ≡ 1
the_one n l = lives_from n (nat_eq n 1) refl l

numbered : (locals : List Word) (held : List ℕ) → IsNumbered (one_object locals held)
numbered locals held = record {
  in_order = search rules;
  given = λ n l. let here = the_one n l in (omega (arith, here), omega (arith, here));
}

pub numbered_clearing : IsNumbered before_clearing
numbered_clearing = numbered (words.Object 1 ∷ []) []

pub numbered_between : IsNumbered between_arguments
numbered_between = numbered [] (1 ∷ [])

pub settled_clearing : IsSettled before_clearing
settled_clearing = record { reached = λ n l. Root (subst (λ (k : ℕ). Contains (1 ∷ []) k) (sym (the_one n l)) (first_in 1 [])) }

pub settled_between : IsSettled between_arguments
settled_between = record { reached = λ n l. Root (subst (λ (k : ℕ). Contains (1 ∷ []) k) (sym (the_one n l)) (first_in 1 [])) }

-- it refers to nothing

refers_from : (one other : ℕ) (b : Bool) → Contains (option_map_or (λ (object : Plain (List ℕ)). handles (fields_of object)) (cond b (Some (Host 1 [])) None) []) other → ⊥
refers_from one other true c = none_in other c
refers_from one other false c = none_in other c

refers_nothing : (one other : ℕ) → Refers objects one other → ⊥
refers_nothing one other c = refers_from one other (nat_eq one 1) c

none_reached : (n : ℕ) → ReachableIn (Contains []) objects n → ⊥
none_reached n (Root c) = none_in n c
none_reached n (Field {one} r f) = refers_nothing one n f

pub late_example : (calls : Calls) → LeavesTooLate (late_clearing calls) before_clearing
late_example calls = record {
  last = one_object (words.Null ∷ []) [];
  runs = refl;
  there = refl;
  unreached = none_reached 1;
}

pub late_refused : (calls : Calls) → ¬ Settles Word (late_clearing calls)
late_refused calls settles =
    let left = settles before_clearing numbered_clearing settled_clearing in
    none_reached 1 (left.reached 1 refl)

not_nothing : (more : List ℕ) → [] ≡ more ++ 1 ∷ [] → ⊥
not_nothing [] e = cc
not_nothing (x ∷ more) e = cc

pub early_refused : (calls : Calls) → ¬ Keeps KeepsItsFrame Word (early_argument calls)
unfolding release
early_refused calls keeps =
    let left = keeps between_arguments numbered_between in
    not_nothing left.more left.held

-- the object that was held is gone

swept : Swept (Contains []) objects (after_sweep [] objects) (drops_of_sweep [] objects)
swept = sweep_is_exact [] objects numbered_clearing.in_order

gone : ¬ Lives (after_sweep [] objects) 1
gone l = let none = subst IsSome (swept.goes 1 (none_reached 1)) l in cc

pub early_example : (calls : Calls) → LeavesTooEarly (early_argument calls) between_arguments
unfolding release sweep
early_example calls = record {
  last = after_release (one_object [] []);
  runs = refl;
  held = first_in 1 [];
  gone = gone;
}

-- what is held on

not_one : (k : ℕ) → k ∷ [] ≡ [] → ⊥
not_one k e = cc

pub held_example : (calls : Calls) → HoldsOn (held_clearing calls) before_clearing
held_example calls = record {
  value = tt;
  last = one_object (words.Null ∷ []) (1 ∷ []);
  runs = refl;
  nothing_held = refl;
  held = refl;
  settled = record { reached = λ n l. Root (subst (λ (k : ℕ). Contains (1 ∷ []) k) (sym (the_one n l)) (first_in 1 [])) };
}

pub held_refused : (calls : Calls) → ¬ LeavesNothingHeld (Unit {0}) (held_clearing calls)
held_refused calls leaves = not_one 1 (leaves before_clearing refl)

abbrev after_call : Activity
after_call = one_object (words.Object 1 ∷ []) (1 ∷ [])

settled_call : IsSettled (after_release after_call)
settled_call = (release_goes true (Unit {0}) after_call (numbered (words.Object 1 ∷ []) (1 ∷ []))).settled tt

pub call_example : HoldsOn call_with_all before_clearing
unfolding release
call_example = record {
  value = words.Null;
  last = after_release after_call;
  runs = refl;
  nothing_held = refl;
  held = refl;
  settled = settled_call;
}

pub call_refused : ¬ HoldsOnlyItsValue call_with_all
unfolding release
call_refused holds =
    let left = holds before_clearing numbered_clearing in
    not_one 1 (ap (λ (f : Frame). f.held) left.frame)
