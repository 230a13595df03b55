-- Arrays that are constructed are the meaning's.
use Rattle.std.proofs.Common.{◌≡◌, ℕ, ◌+◌, ◌≤◌, ◌<◌, List, [], ◌∷◌, Bool, cond, replicate, length, refl, sym, ap, ◌∙◌, subst, arith}
use Rattle.std.specs.Prelude.{Option, Some, None, IsSomeAnd, is_some, Err, nat_le}
use Rattle.std.specs.Option.{option_map_or}
use Rattle.std.proofs.lemmas.Bool.{eq-eqb}
use Rattle.ash_host.specs.declared.element.ElementTag.{ElementTag}
use Rattle.ash_host.specs.declared.host_object.HostObject.{Ghosts}
use Rattle.ash_host.specs.declared.word.Word.{Word}
use Rattle.ash_host.specs.declared.word.Word.TheVariants as words
use Rattle.ash_host.specs.ElementTags.{initial_of}
use Rattle.ash_host.specs.Limits.{max_objects, max_elements}
use Rattle.ash_host.specs.Objects.{Array, AreNumbered, Lives, object_at}
use Rattle.ash_host.specs.Records.{HostRecord}
use Rattle.ash_host.proofs.Order.{object_at-with_at}
use Rattle.ash_meaning.specs.declared.exception.Exception.TheVariants.{ObjectLimit, NumbersSpent, ArrayLimit}
use Rattle.ash_meaning.specs.Activity.{Activity, in_world}
use Rattle.ash_meaning.specs.ArraySteps as arrays
use Rattle.ash_meaning.specs.ArraySteps.{natural_of, zero_element}
use Rattle.ash_meaning.specs.ObjectSteps as objects
use Rattle.ash_meaning.specs.Releases as releases
use Rattle.ash_meaning.specs.Runs as runs
use Rattle.ash_meaning.specs.Runs.{Progress, Done, Raising}
use Rattle.ash_slots.specs.declared.body.Body.{Body}
use Rattle.ash_slots.specs.declared.body.Body.TheVariants as bodies
use Rattle.ash_objects.specs.declared.making.MakeFault.{MakeFault}
use Rattle.ash_objects.specs.declared.making.MakeFault.TheVariants as faults
use Rattle.ash_objects.specs.Making.{new_object, with_new_object, IsFull, IsSpent}
use Rattle.ash_objects.specs.Table.{Living, Table, holds_of}
use Rattle.ash_object_ranks.specs.ShownTables.{elements_shown}
use Rattle.ash_run_steps.specs.ArrayGuards.{construct_array}
use Rattle.ash_run_steps.specs.declared.stop.Stop.{Stop}
use Rattle.ash_run_steps.specs.Becoming.{Becomes, Comes}
use Rattle.ash_run_steps.specs.Guarded.{Guarded, give, stop}
use Rattle.ash_run_steps.specs.MakingSteps.{stop_of}
use Rattle.ash_run_steps.specs.RunStates.{State, Names, shown, bare}
use Rattle.ash_run_steps.proofs.ArraySteps.{initial_shown, le_on, le_off}
use Rattle.ash_run_steps.proofs.ChangedObjects.{becomes_kept, then_held}
use Rattle.ash_run_steps.proofs.Composed.{becomes_by}
use Rattle.ash_run_steps.proofs.HoldSteps.{at_table}
use Rattle.ash_run_steps.proofs.MadeObjects.{made_activity, follows_made, none_next, demand_given, demand_full, demand_spent}
use Rattle.ash_run_steps.proofs.MakingSteps.{below}
use Rattle.ash_run_steps.proofs.Roots.{holding}

module _ {B : Type 0} where
  -- nothing holds the number that comes next
  pub next_holds : (table : Table B) → AreNumbered table.last table.objects → holds_of (table.last + 1) table ≡ 0
  next_holds table numbered = ap (λ (o : Option (Living B)). option_map_or (λ (x : Living B). x.holds) o 0) (none_next table numbered)

  new_lives : (slot : ℕ) (body : Body B) (table : Table B) → Lives (with_new_object slot body table).objects (table.last + 1)
  new_lives slot body table =
      ap is_some (object_at-with_at (table.last + 1) (new_object slot body) (table.last + 1) table.objects)
      ∙ ap (λ (b : Bool). is_some (cond b (Some (new_object slot body)) (object_at (table.last + 1) table.objects))) (eq-eqb (table.last + 1) (table.last + 1) refl)

  pub next_lives : (number slot : ℕ) (body : Body B) (old new : Table B) → number ≡ old.last + 1 → new ≡ with_new_object slot body old → Lives new.objects number
  next_lives number slot body old new is made =
      subst (λ (t : Table B). Lives t.objects number) (sym made) (subst (λ (n : ℕ). Lives (with_new_object slot body old).objects n) (sym is) (new_lives slot body old))

  abbrev pub array_of_zeros : ElementTag → ℕ → Body B
  array_of_zeros element many = bodies.Array (record { element = element; elements = replicate many (initial_of element) })

  pub made_in : (o : Option ℕ) (body : Body B) (old new : Table B) → IsSomeAnd o (λ slot. new ≡ with_new_object slot body old) → (slot : ℕ) × (new ≡ with_new_object slot body old)
  made_in None body old new made = absurd made
  made_in (Some slot) body old new made = (slot, made)

module _ {B : Type 0} (G : Ghosts B) (names : Names) (element : ElementTag) (count : Word) (s : State B) where
  abbrev step : Guarded Word
  step = construct_array (elements_shown names.modules element) count

  abbrev zeros : Word → Activity → Activity
  zeros zero_word activity = in_world (objects.with_new (Array (elements_shown names.modules element) (replicate (natural_of count) zero_word))) activity

  abbrev made : Progress (Unit {0}) → Progress Word
  made p = runs.onward (runs.onward p (λ _. objects.make (Array (elements_shown names.modules element) (replicate (natural_of count) (zero_element (elements_shown names.modules element))))))
      (λ number. releases.give_held (words.Object number))

  abbrev onto : Progress (Unit {0}) → Progress Word
  onto p = made (runs.onward p (λ _. runs.demand (nat_le (natural_of count) max_elements) ArrayLimit))

  abbrev next : ℕ
  next = (s.table).last + 1

  abbrev constructed : ℕ → State B
  constructed slot = at_table (with_new_object slot (array_of_zeros element (natural_of count)) s.table) (holding (next ∷ []) s)

  ran : (rest : List HostRecord) (slot : ℕ) → length (s.table).objects < max_objects → (s.table).last < objects.max_number → natural_of count ≤ max_elements
      → Done (words.Object next) (shown G names rest (constructed slot)) ≡ arrays.construct_array (elements_shown names.modules element) (count ∷ []) (shown G names rest s)
  ran rest slot room left few =
      let holder = holding (next ∷ []) s in
      ap (Done (words.Object next)) (made_activity G names rest holder slot (array_of_zeros element (natural_of count)))
      ∙ ap (λ (w : Word). Done (words.Object next) (zeros w (shown G names rest holder))) (sym (initial_shown names.modules element))
      ∙ ap (λ (b : Bool). made (runs.demand b ArrayLimit (shown G names rest s))) (sym (le_on (natural_of count) max_elements few))
      ∙ ap onto (sym (demand_given G names rest s room left))

  pub construct_gives : (number slot : ℕ) (table : Table B) → AreNumbered (s.table).last (s.table).objects → (IsFull s.table → ⊥) → (IsSpent s.table → ⊥) → (max_elements < natural_of count → ⊥)
      → number ≡ next → (many : ℕ) → many ≡ natural_of count → bare table ≡ bare (with_new_object slot (array_of_zeros element many) s.table)
      → Becomes G names step s (give (words.Object number)) (at_table table (holding (number ∷ []) s))
  construct_gives number slot table numbered full spent long is many all_of same =
      subst (λ (n : ℕ). Becomes G names step s (give (words.Object n)) (at_table table (holding (n ∷ []) s))) (sym is)
      (then_held G names step s (words.Object next) (constructed slot) table (same ∙ ap (λ (k : ℕ). bare (with_new_object slot (array_of_zeros element k) s.table)) all_of)
      (becomes_kept G names step s (give (words.Object next)) (constructed slot) (follows_made slot (array_of_zeros element (natural_of count)) s.table numbered G refl) refl
      (λ rest. ap Some (ran rest slot (below (length (s.table).objects) max_objects full) (below (s.table).last objects.max_number spent) (not_long long)))))
    where
      not_long : (max_elements < natural_of count → ⊥) → natural_of count ≤ max_elements
      not_long short = let fits = below (natural_of count) (max_elements + 1) (λ (over : max_elements + 1 ≤ natural_of count). short (omega arith)) in omega arith

  -- why none is constructed
  pub construct_ends : (fault : MakeFault) → (fault ≡ faults.ObjectLimit → IsFull s.table)
      → (fault ≡ faults.NumbersSpent → (IsFull s.table → ⊥) × IsSpent s.table)
      → (fault ≡ faults.PoolEmpty → ⊥)
      → (fault ≡ faults.ArrayLimit → (IsFull s.table → ⊥) × (IsSpent s.table → ⊥) × (max_elements < natural_of count))
      → Comes G names step s (Err (stop_of fault)) s
  construct_ends faults.ObjectLimit full spent pool long =
      becomes_by G names step s (stop (Raising ObjectLimit)) s refl refl (λ rest. ap Some (ap onto (sym (demand_full G names rest s (full refl)))))
  construct_ends faults.NumbersSpent full spent pool long =
      let is = spent refl in
      becomes_by G names step s (stop (Raising NumbersSpent)) s refl refl (λ rest. ap Some (ap onto (sym (demand_spent G names rest s (below (length (s.table).objects) max_objects is.0) is.1))))
  construct_ends faults.PoolEmpty full spent pool long = absurd (pool refl)
  construct_ends faults.ArrayLimit full spent pool long =
      let is = long refl in
      becomes_by G names step s (stop (Raising ArrayLimit)) s refl refl
      (λ rest. ap Some (ap (λ (b : Bool). made (runs.demand b ArrayLimit (shown G names rest s))) (sym (le_off (natural_of count) max_elements is.2))
      ∙ ap onto (sym (demand_given G names rest s (below (length (s.table).objects) max_objects is.0) (below (s.table).last objects.max_number is.1)))))
  construct_ends faults.NoMemory full spent pool long = tt

  pub construct_stops : (fault : MakeFault) (end : Stop) (old new : State B) → end ≡ stop_of fault → s ≡ old → s ≡ new
      → Comes G names step s (Err (stop_of fault)) s → Comes G names step old (Err end) new
  construct_stops fault end old new is before after comes =
      subst (λ (e : Stop). Comes G names step old (Err e) new) (sym is)
      (subst (λ (o : State B). Comes G names step o (Err (stop_of fault)) new) before
      (subst (λ (n : State B). Comes G names step s (Err (stop_of fault)) n) after comes))
