-- What has no mark is what it was.
use Rattle.std.proofs.Common.{◌≡◌, ◌<◌, ◌≤◌, ◌⊎◌, ℕ, zero, suc, Bool, true, false, cond, List, [], ◌∷◌, length, refl, sym, ap, ◌∙◌, subst, arith, nat_eq, inl, inr, get_or, filter}
use Rattle.std.specs.Prelude.{Option, Some, None, Contains, IfSome, IsSome}
use Rattle.std.specs.Option.{option_map}
use Rattle.std.specs.Map.{keys_of}
use Rattle.std.specs.List.{AllByRecursion}
use Rattle.std.proofs.lemmas.Bool.{eqb-true, eq-eqb}
use Rattle.ash_host.specs.declared.host_object.HostObject.{Ghosts}
use Rattle.ash_host.specs.Objects.{object_at, Lives, AreNumbered}
use Rattle.ash_slots.specs.declared.body.Body.{Body}
use Rattle.ash_objects.specs.Table.{Living, Table, body_of}
use Rattle.ash_objects.specs.Marking.{marked_of, settled_object}
use Rattle.ash_objects.proofs.Marks.{object_at-mapped}
use Rattle.ash_soundness.proofs.Values.{none_in}
use Rattle.ash_object_ranks.specs.ShownTables.{SlotNames, body_shown, objects_shown}
use Rattle.ash_object_ranks.proofs.ShownTables.{living_shown, shown_at}
use Rattle.ash_run_steps.specs.Following.{KeepsMarks, HasGone, IsMarked}
use Rattle.ash_run_steps.specs.RunStates.{bare_living}
use Rattle.ash_change_laws.specs.MarkedObjects.{IsSettled, MarksName, MarksNameChanges, ClearsMarks, SettledIsClear, MarksNameObjects}

-- numbers in lists

here_in : (n m : ℕ) (ns : List ℕ) → m ≡ n → Contains (m ∷ ns) n
here_in n m ns same = (0, omega arith, same)

later_in : (n m : ℕ) (ns : List ℕ) → Contains ns n → Contains (m ∷ ns) n
later_in n m ns is = let within = is.1 in (suc is.0, omega (arith, within), is.2)

in_either : (n m : ℕ) (ns : List ℕ) (k : ℕ) → k < length (m ∷ ns) → get_or (m ∷ ns) k n ≡ n → (m ≡ n) ⊎ Contains ns n
in_either n m ns zero within is = inl is
in_either n m ns (suc k) within is = inr (k, omega (arith, within), is)

module _ {B : Type 0} where
  abbrev flagged : List (ℕ × Living B) → List ℕ
  flagged l = keys_of (filter (λ e. (e.1).touched) l)

  cons_flagged : (e : ℕ × Living B) (l : List (ℕ × Living B)) → flagged (e ∷ l) ≡ cond (e.1).touched (e.0 ∷ flagged l) (flagged l)
  cons_flagged e l = go (e.1).touched
    where
      go : (b : Bool) → keys_of (cond b (e ∷ filter (λ f. (f.1).touched) l) (filter (λ f. (f.1).touched) l)) ≡ cond b (e.0 ∷ flagged l) (flagged l)
      go true = refl
      go false = refl

  -- an object that has a mark is listed
  marked_there : (n : ℕ) (l : List (ℕ × Living B)) (o : Living B) → object_at n l ≡ Some o → o.touched ≡ true → Contains (flagged l) n
  marked_there n [] o at marked = absurd (cc)
  marked_there n (e ∷ l) o at marked = subst (λ (ns : List ℕ). Contains ns n) (sym (cons_flagged e l)) (go (nat_eq n e.0) refl at (λ found. marked_there n l o found marked))
    where
      further : (t : Bool) → Contains (flagged l) n → Contains (cond t (e.0 ∷ flagged l) (flagged l)) n
      further true is = later_in n e.0 (flagged l) is
      further false is = is

      go : (b : Bool) → nat_eq n e.0 ≡ b → cond b (Some e.1) (object_at n l) ≡ Some o → (object_at n l ≡ Some o → Contains (flagged l) n)
          → Contains (cond (e.1).touched (e.0 ∷ flagged l) (flagged l)) n
      go true is found later =
          let one : e.1 ≡ o = cc in
          let flag : (e.1).touched ≡ true = ap (λ (x : Living B). x.touched) one ∙ marked in
          subst (λ (t : Bool). Contains (cond t (e.0 ∷ flagged l) (flagged l)) n) (sym flag) (here_in n e.0 (flagged l) (sym (eqb-true n e.0 is)))
      go false is found later = further (e.1).touched (later found)

  -- what is listed lives
  marked_lives : (n : ℕ) (l : List (ℕ × Living B)) → Contains (flagged l) n → Lives l n
  marked_lives n [] is = absurd (none_in n is)
  marked_lives n (e ∷ l) is = go (nat_eq n e.0) refl (subst (λ (ns : List ℕ). Contains ns n) (cons_flagged e l) is) (marked_lives n l)
    where
      further : nat_eq n e.0 ≡ false → (t : Bool) → Contains (cond t (e.0 ∷ flagged l) (flagged l)) n → Contains (flagged l) n
      further apart true is =
          elim (in_either n e.0 (flagged l) is.0 is.1 is.2) [
            | inl same ↦ absurd (apart_from same)
            | inr later ↦ later
          ]
        where
          apart_from : e.0 ≡ n → ⊥
          apart_from same = let no = apart in let is = eq-eqb n e.0 (sym same) in cc
      further apart false is = is

      go : (b : Bool) → nat_eq n e.0 ≡ b → Contains (cond (e.1).touched (e.0 ∷ flagged l) (flagged l)) n → (Contains (flagged l) n → Lives l n)
          → IsSome (cond b (Some e.1) (object_at n l))
      go true same there later = refl
      go false apart there later = later (further apart (e.1).touched there)

  -- an object that is listed has a mark, if each entry is what is found by its number
  pub marked_at : (table : Table B) (l : List (ℕ × Living B)) → AllByRecursion (λ (e : ℕ × Living B). object_at e.0 table.objects ≡ Some e.1) l
      → (n : ℕ) → Contains (keys_of (filter (λ (e : ℕ × Living B). (e.1).touched) l)) n → IsMarked table n
  marked_at table [] each n is = absurd (none_in n is)
  marked_at table (e ∷ l) each n is = go (e.1).touched refl (subst (λ (ns : List ℕ). Contains ns n) (cons_flagged e l) is) (marked_at table l each.1 n)
    where
      go : (t : Bool) → (e.1).touched ≡ t → Contains (cond t (e.0 ∷ flagged l) (flagged l)) n → (Contains (flagged l) n → IsMarked table n) → IsMarked table n
      go true flag there later =
          elim (in_either n e.0 (flagged l) there.0 there.1 there.2) [
            | inl same ↦ record { object = e.1; there = subst (λ (k : ℕ). object_at k table.objects ≡ Some e.1) same each.0; marked = flag }
            | inr further ↦ later further
          ]
      go false flag there later = later there

  -- nothing has a mark before a request
  pub none_marked : (table : Table B) → IsSettled table → (n : ℕ) → IsMarked table n → ⊥
  none_marked table settled n is =
      let not : (is.object).touched ≡ false =
      subst (λ (o : Option (Living B)). IfSome o (λ object. object.touched ≡ false)) is.there (settled.unmarked n) in
      let marked = is.marked in
      cc

  -- what an object is, whoever holds it
  bare_body : (o p : Living B) → bare_living o ≡ bare_living p → p.body ≡ o.body
  bare_body o p same = ap (λ (x : Living B). x.body) (sym same)

  module _ (old new : Table B) (settled : IsSettled old) (numbered : AreNumbered old.last old.objects) (keeps : KeepsMarks old new) where
    covered : old.settled ≤ old.last
    covered = let is = settled.settled in omega (arith, is)

    none_before : (n : ℕ) → Contains old.gone n → ⊥
    none_before n is = none_in n (subst (λ (ns : List ℕ). Contains ns n) settled.none_gone is)

    -- what went
    has_gone : (n : ℕ) → Contains new.gone n → HasGone old new n
    has_gone n is =
        elim ((keeps.gone covered n).0 is) [
          | inl before ↦ absurd (none_before n before)
          | inr gone ↦ gone
        ]

    -- what lives on without a mark
    same_living : (n : ℕ) (o : Living B) (b : Bool) → o.touched ≡ b → object_at n new.objects ≡ Some o → (Contains (marked_of new) n → ⊥) → body_of n new ≡ body_of n old
    same_living n o true flag at unmarked = absurd (unmarked (marked_there n new.objects o at flag))
    same_living n o false flag at unmarked =
        let was = keeps.unmarked n o at flag in
        ap (option_map (λ (x : Living B). x.body)) at
        ∙ ap (λ (x : Body B). Some x) (bare_body was.0 o was.2)
        ∙ sym (ap (option_map (λ (x : Living B). x.body)) was.1)

    -- what was not there and is not there
    same_none : (n : ℕ) (before : Option (Living B)) → object_at n old.objects ≡ before → object_at n new.objects ≡ None → (Contains new.gone n → ⊥) → body_of n new ≡ body_of n old
    same_none n None was none stays = ap (option_map (λ (x : Living B). x.body)) (none ∙ sym was)
    same_none n (Some o) was none stays =
        let lived : Lives old.objects n = subst (λ (v : Option (Living B)). IsSome v) (sym was) refl in
        let given = (numbered.given n lived).1 in
        let is = settled.settled in
        let went : HasGone old new n = record { settled = omega (arith, given, is); lived = lived; none = none } in
        absurd (stays ((keeps.gone covered n).1 (inr went)))

    same_at : (n : ℕ) (after : Option (Living B)) → object_at n new.objects ≡ after → (Contains (marked_of new) n → ⊥) → (Contains new.gone n → ⊥) → body_of n new ≡ body_of n old
    same_at n None at unmarked stays = same_none n (object_at n old.objects) refl at stays
    same_at n (Some o) at unmarked stays = same_living n o o.touched refl at unmarked

    pub marks_name : MarksName old new
    marks_name = record {
      all = λ n unmarked stays. same_at n (object_at n new.objects) refl unmarked stays;
      live = λ n is. marked_lives n new.objects is;
      went = λ n is. let gone = has_gone n is in (gone.lived, gone.none);
    }

  -- clear marks

  settled_none : (o : Option (Living B)) → IfSome (option_map settled_object o) (λ object. object.touched ≡ false)
  settled_none None = tt
  settled_none (Some o) = refl

  settled_body : (o : Option (Living B)) → option_map (λ (x : Living B). x.body) (option_map settled_object o) ≡ option_map (λ (x : Living B). x.body) o
  settled_body None = refl
  settled_body (Some o) = refl

  pub clears_marks : (table : Table B) → ClearsMarks table
  clears_marks table = record {
    clear = record {
      unmarked = λ n. subst (λ (v : Option (Living B)). IfSome v (λ object. object.touched ≡ false)) (sym (object_at-mapped settled_object n table.objects)) (settled_none (object_at n table.objects));
      none_gone = refl;
      settled = refl;
    };
    same = λ n. ap (option_map (λ (x : Living B). x.body)) (object_at-mapped settled_object n table.objects) ∙ settled_body (object_at n table.objects);
  }

pub marks_name_changes : {B : Type 0} (G : Ghosts B) → MarksNameChanges G
marks_name_changes G old new settled numbered keeps = marks_name old new settled numbered keeps

pub settled_is_clear : {B : Type 0} (G : Ghosts B) → SettledIsClear G
settled_is_clear G table = clears_marks table

-- objects as states have them

module _ {B : Type 0} (G : Ghosts B) where
  shown_by_body : (names : SlotNames) (o : Option (Living B)) → option_map (living_shown G names) o ≡ option_map (body_shown G names) (option_map (λ (x : Living B). x.body) o)
  shown_by_body names None = refl
  shown_by_body names (Some o) = refl

  shown_of : (names : SlotNames) (n : ℕ) (table : Table B) → object_at n (objects_shown G names table.objects) ≡ option_map (body_shown G names) (body_of n table)
  shown_of names n table = shown_at G names n table.objects ∙ shown_by_body names (object_at n table.objects)

  pub marks_name_objects : MarksNameObjects G
  marks_name_objects names later old new marks keeps n unmarked stays =
      keeps n ∙ shown_of names n new ∙ ap (option_map (body_shown G names)) (marks.all n unmarked stays) ∙ sym (shown_of names n old)
