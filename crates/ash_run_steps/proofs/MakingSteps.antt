-- Objects that are made are the meaning's.
use Rattle.std.proofs.Common.{◌≡◌, ℕ, ◌+◌, ◌≤◌, ◌<◌, List, Bool, true, false, length, refl, sym, ap, ◌∙◌, arith, subst}
use Rattle.std.specs.Prelude.{Option, Some, None, IsSomeAnd, Result, Ok, Err, IsErrAnd, ◌&&◌, nat_le}
use Rattle.std.specs.List.{list_all}
use Rattle.std.proofs.lemmas.Bool.Decides.{nat_tests}
use Rattle.ash_host.specs.declared.host_object.HostObject.{Ghosts}
use Rattle.ash_host.specs.declared.word.Word.{Word}
use Rattle.ash_host.specs.Limits.{max_objects, max_elements}
use Rattle.ash_host.specs.Objects.{Script, AreNumbered}
use Rattle.ash_meaning.specs.declared.exception.Exception.TheVariants.{ObjectLimit, NumbersSpent}
use Rattle.ash_meaning.specs.ObjectSteps.{make, max_number}
use Rattle.ash_meaning.specs.Runs.{Progress, Done, Raising, onward}
use Rattle.ash_slots.specs.declared.body.Body.{Body}
use Rattle.ash_slots.specs.declared.body.Body.TheVariants as bodies
use Rattle.ash_objects.specs.declared.making.MakeFault.{MakeFault}
use Rattle.ash_objects.specs.declared.making.MakeFault.TheVariants as faults
use Rattle.ash_objects.specs.Making.{with_new_object, IsFull, IsSpent}
use Rattle.ash_objects.specs.Table.{Table, holds_of, slot_of}
use Rattle.ash_run_steps.specs.declared.stop.Stop.{Stop}
use Rattle.ash_run_steps.specs.Becoming.{Becomes, Comes}
use Rattle.ash_run_steps.specs.Guarded.{Guarded, give, stop, unsound}
use Rattle.ash_run_steps.specs.GuardedSteps.{are_alive}
use Rattle.ash_run_steps.specs.MakingSteps.{make_script, may_have, stop_of}
use Rattle.ash_run_steps.specs.RunStates.{State, Names, shown, is_alive_in}
use Rattle.ash_run_steps.proofs.ChangedObjects.{becomes_kept}
use Rattle.ash_run_steps.proofs.Composed.{becomes_by, guarded_same}
use Rattle.ash_run_steps.proofs.EnterSteps.{all_shown}
use Rattle.ash_run_steps.proofs.HoldSteps.{at_table}
use Rattle.ash_run_steps.proofs.LocalSteps.{guard_off, and_second}
use Rattle.ash_run_steps.proofs.MadeObjects.{made_activity, made_holds, follows_made, demand_given, demand_full, demand_spent}

pub below : (many most : ℕ) → (most ≤ many → ⊥) → many < most
below many most not_full = go (nat_le most many) refl
  where
    go : (b : Bool) → nat_le most many ≡ b → many < most
    go true is = absurd (not_full (grind (arith, nat_tests)))
    go false is = grind (arith, nat_tests)

too_long : (many : ℕ) → max_elements < many → nat_le many max_elements ≡ false
too_long many long = grind (arith, nat_tests)

module _ {B : Type 0} (owner class : ℕ) (fields : List Word) (s : State B) where
  abbrev pub script : Body B
  script = bodies.Script (record { «module» = owner; class = class; fields = fields })

  -- the table that a call of the table leaves
  abbrev pub IsMade : ℕ → List Word → Table B → Type 0
  IsMade number copy table = IsSomeAnd (slot_of number table) (λ slot. table ≡ with_new_object slot (bodies.Script (record { «module» = owner; class = class; fields = copy })) s.table)

  pub made_with : (o : Option ℕ) (copy : List Word) (table : Table B) → copy ≡ fields
      → IsSomeAnd o (λ slot. table ≡ with_new_object slot (bodies.Script (record { «module» = owner; class = class; fields = copy })) s.table)
      → (slot : ℕ) × (table ≡ with_new_object slot script s.table)
  made_with None copy table same made = absurd made
  made_with (Some slot) copy table same made =
      (slot, made ∙ ap (λ (ws : List Word). with_new_object slot (bodies.Script (record { «module» = owner; class = class; fields = ws })) s.table) same)

  pub script_counts : (m number : ℕ) (copy : List Word) (table : Table B) → AreNumbered (s.table).last (s.table).objects → copy ≡ fields → IsMade number copy table
      → holds_of m table ≡ holds_of m s.table
  script_counts m number copy table numbered same made =
      let is = made_with (slot_of number table) copy table same made in
      ap (holds_of m) is.1 ∙ made_holds is.0 script s.table numbered m

module _ {B : Type 0} (G : Ghosts B) (names : Names) (owner class : ℕ) (fields : List Word) (s : State B) where
  abbrev step : Guarded ℕ
  step = make_script (names.modules owner) class fields

  abbrev onto : Progress (Unit {0}) → Progress ℕ
  onto p = onward p (λ _. make (Script (names.modules owner) class fields))

  pub script_gives : (slot : ℕ) → AreNumbered (s.table).last (s.table).objects → length (s.table).objects < max_objects → (s.table).last < max_number
      → Becomes G names step s (give ((s.table).last + 1)) (at_table (with_new_object slot (script owner class fields s) s.table) s)
  script_gives slot numbered room left =
      becomes_kept G names step s (give ((s.table).last + 1)) (at_table (with_new_object slot (script owner class fields s) s.table) s) (follows_made slot (script owner class fields s) s.table numbered G refl) refl
      (λ rest. guarded_same (may_have fields (shown G names rest s)) _ _
      (ap (Done ((s.table).last + 1)) (made_activity G names rest s slot (script owner class fields s)) ∙ ap onto (sym (demand_given G names rest s room left))))

  script_full : max_objects ≤ length (s.table).objects → Becomes G names step s (stop (Raising ObjectLimit)) s
  script_full full =
      becomes_by G names step s (stop (Raising ObjectLimit)) s refl refl
      (λ rest. guarded_same (may_have fields (shown G names rest s)) _ _ (ap onto (sym (demand_full G names rest s full))))

  script_spent : length (s.table).objects < max_objects → max_number ≤ (s.table).last → Becomes G names step s (stop (Raising NumbersSpent)) s
  script_spent room spent =
      becomes_by G names step s (stop (Raising NumbersSpent)) s refl refl
      (λ rest. guarded_same (may_have fields (shown G names rest s)) _ _ (ap onto (sym (demand_spent G names rest s room spent))))

  pub script_made : (number : ℕ) (copy : List Word) (table : Table B) → AreNumbered (s.table).last (s.table).objects → (IsFull s.table → ⊥) → (IsSpent s.table → ⊥)
      → number ≡ (s.table).last + 1 → copy ≡ fields → IsMade owner class fields s number copy table
      → Becomes G names step s (give number) (at_table table s)
  script_made number copy table numbered full spent next same made =
      let is = made_with owner class fields s (slot_of number table) copy table same made in
      subst (λ (t : Table B). Becomes G names step s (give number) (at_table t s)) (sym is.1)
      (subst (λ (n : ℕ). Becomes G names step s (give n) (at_table (with_new_object is.0 (script owner class fields s) s.table) s)) (sym next)
      (script_gives is.0 numbered (below (length (s.table).objects) max_objects full) (below (s.table).last max_number spent)))

  -- why none is made
  pub script_ends : (fault : MakeFault) → (fault ≡ faults.ObjectLimit → IsFull s.table)
      → (fault ≡ faults.NumbersSpent → (IsFull s.table → ⊥) × IsSpent s.table)
      → (fault ≡ faults.PoolEmpty → ⊥) → (fault ≡ faults.ArrayLimit → ⊥)
      → Comes G names step s (Err (stop_of fault)) s
  script_ends faults.ObjectLimit full spent pool long = script_full (full refl)
  script_ends faults.NumbersSpent full spent pool long =
      let is = spent refl in
      script_spent (below (length (s.table).objects) max_objects is.0) is.1
  script_ends faults.PoolEmpty full spent pool long = absurd (pool refl)
  script_ends faults.ArrayLimit full spent pool long = absurd (long refl)
  script_ends faults.NoMemory full spent pool long = tt

  pub script_stops : (fault : MakeFault) (r : Result ℕ Stop) → IsErrAnd r (λ end. end ≡ stop_of fault) → Comes G names step s (Err (stop_of fault)) s → Comes G names step s r s
  script_stops fault (Ok number) is comes = absurd is
  script_stops fault (Err end) is comes = subst (λ (e : Stop). Comes G names step s (Err e) s) (sym is) comes

  pub script_long : max_elements < length fields → Becomes G names step s unsound s
  script_long long =
      becomes_by G names step s unsound s refl refl
      (λ rest. guard_off (may_have fields (shown G names rest s)) _ (ap (λ (b : Bool). b && are_alive fields (shown G names rest s)) (too_long (length fields) long)))

  pub script_dangles : list_all (λ w. is_alive_in w s.table) fields ≡ false → Becomes G names step s unsound s
  script_dangles off =
      becomes_by G names step s unsound s refl refl
      (λ rest. guard_off (may_have fields (shown G names rest s)) _ (and_second (nat_le (length fields) max_elements) (are_alive fields (shown G names rest s)) (all_shown G names rest s fields ∙ off)))
