-- What runs of functions and of initializers leave, and what they come to with a larger budget.
use Rattle.std.proofs.Common.{◌≡◌, ◌≤◌, ◌+◌, ◌∙◌, ℕ, List, [], Option, Some, None, unwrap_or, refl, sym, subst, ap, arith}
use Rattle.std.specs.Option.{option_and_then}
use Rattle.ash_host.specs.declared.word.Word.{Word}
use Rattle.ash_host.specs.Objects.{AreNumbered}
use Rattle.ash_meaning.specs.Activity.{World, Activity}
use Rattle.ash_meaning.specs.Runs.{Raising, OutOfTicks, Progress, Done, Ended, NoStep, Run, give, ◌>>◌}
use Rattle.ash_meaning.specs.Classes.{Program, FreeFunction, Entry, entry_of}
use Rattle.ash_meaning.specs.Ends.{Outcome, outcome_of, call_entry, load_module}
use Rattle.ash_meaning.specs.MeaningLaws.{ComesBy, ExtendsWithMoreTicks, entered, initialized, EffectsStay, first_of_call, first_of_load, RunsStay, IsNotAborted, BudgetSuffices, with_more, IsReleased, IsAborted, IsOnTheWay}
use Rattle.ash_meaning.proofs.Traces.{ticks_fall}
use Rattle.ash_meaning.proofs.Walks.{Walk, at_most, followed, given}
use Rattle.ash_meaning.proofs.Released.{swept_by}
use Rattle.ash_meaning.proofs.Numbers.{along}
use Rattle.ash_meaning.proofs.Depth.{walk_entered, walk_initialized}

-- what holds of an outcome holds of what it is equal to
of_this : (Holds : Outcome → Type 0) {this outcome : Outcome} → Some this ≡ Some outcome → Holds this → Holds outcome
of_this Holds {this} e h = subst Holds (ap (λ (o : Option Outcome). unwrap_or o this) e) h

-- effects stay

stays : (first : Activity) → AreNumbered (first.world).last (first.world).objects → (p : Progress (Option Word)) (outcome : Outcome) → ComesBy first p → outcome_of p ≡ Some outcome → EffectsStay first outcome
stays first numbered (Done value last) outcome t e =
    of_this (EffectsStay first) e (record { last = last; trace = t; end = tt; ticks = ticks_fall t; released = swept_by [] last.world ((along t numbered).lives).numbered.in_order })
stays first numbered (Ended (Raising x) last) outcome t e =
    of_this (EffectsStay first) e (record { last = last; trace = t; end = (refl, refl); ticks = ticks_fall t; released = swept_by [] last.world ((along t numbered).lives).numbered.in_order })
stays first numbered (Ended OutOfTicks last) outcome t e =
    of_this (EffectsStay first) e (record { last = last; trace = t.0; end = (refl, refl, t.1); ticks = ticks_fall t.0; released = swept_by [] last.world ((along t.0 numbered).lives).numbered.in_order })
stays first numbered NoStep outcome t e = absurd (cc)

module _ (p : Program) (budget : ℕ) (world : World) (numbered : AreNumbered world.last world.objects) where
  call_stays : (args : List Word) (outcome : Outcome) (o : Option Entry) → option_and_then (call_entry p args budget world) o ≡ Some outcome → (e : Entry) × (o ≡ Some e) × EffectsStay (first_of_call e args budget world) outcome
  call_stays args outcome None h = absurd (cc)
  call_stays args outcome (Some e) h =
      let first : Activity = first_of_call e args budget world in
      (e, refl, stays first numbered (entered p budget e first) outcome ((walk_entered p budget budget budget (at_most budget) (at_most budget) e).comes first (at_most budget)) h)

  load_stays : (outcome : Outcome) → load_module p budget world ≡ Some outcome → EffectsStay (first_of_load p budget world) outcome
  load_stays outcome h =
      let first : Activity = first_of_load p budget world in
      let walk : Walk budget (initialized p budget >> give None) (initialized p budget >> give None) = followed (walk_initialized p budget budget budget (at_most budget) (at_most budget)) (given None) in
      stays first numbered ((initialized p budget >> give None) first) outcome (walk.comes first (at_most budget)) h

  pub runs_stay : RunsStay p budget world
  runs_stay = record {
    calls = λ place args outcome h. call_stays args outcome (entry_of (p.tree) (FreeFunction place)) h;
    loads = load_stays;
  }

-- a larger budget

not_aborted : {this outcome : Outcome} → Some this ≡ Some outcome → IsNotAborted outcome.end → IsNotAborted this.end
not_aborted {this} {outcome} e h = subst (λ (o : Outcome). IsNotAborted o.end) (ap (λ (o : Option Outcome). unwrap_or o outcome) (sym e)) h

goes_the_same : (more : ℕ) (p q : Progress (Option Word)) (outcome : Outcome) → ExtendsWithMoreTicks more p q → outcome_of p ≡ Some outcome → IsNotAborted outcome.end → outcome_of q ≡ Some outcome
goes_the_same more (Done value b) q outcome g e h = ap outcome_of g ∙ e
goes_the_same more (Ended (Raising x) b) q outcome g e h = ap outcome_of g ∙ e
goes_the_same more (Ended OutOfTicks b) q outcome g e h = absurd (not_aborted e h)
goes_the_same more NoStep q outcome g e h = absurd (cc)

aborted_alone : {this outcome : Outcome} → Some this ≡ Some outcome → IsAborted outcome.end → IsAborted this.end
aborted_alone {this} {outcome} e h = subst (λ (o : Outcome). IsAborted o.end) (ap (λ (o : Option Outcome). unwrap_or o outcome) (sym e)) h

on_the_way : (more : ℕ) (first : Activity) → AreNumbered (first.world).last (first.world).objects → (p q : Progress (Option Word)) (outcome later : Outcome) → ComesBy first p → ExtendsWithMoreTicks more p q → outcome_of p ≡ Some outcome → IsAborted outcome.end → outcome_of q ≡ Some later → IsOnTheWay more outcome later
on_the_way more first numbered (Done value b) q outcome later t g e h f = absurd (aborted_alone e h)
on_the_way more first numbered (Ended (Raising x) b) q outcome later t g e h f = absurd (aborted_alone e h)
on_the_way more first numbered (Ended OutOfTicks b) q outcome later t g e h f =
    let ordered : AreNumbered (b.world).last (b.world).objects = ((along t.0 numbered).lives).numbered in
    record {
      last = b;
      released = of_this (λ (o : Outcome). IsReleased [] b.world o.world) e (swept_by [] b.world ordered.in_order);
      goes_on = stays (with_more more b) ordered q later g f;
    }
on_the_way more first numbered NoStep q outcome later t g e h f = absurd (cc)

module _ (p : Program) (budget more : ℕ) (world : World) (numbered : AreNumbered world.last world.objects) where
  le : budget ≤ budget + more
  le = omega arith

  walks_suffice : (first : Activity) (r s : Run (Option Word)) (outcome : Outcome) → first.ticks ≡ budget → Walk budget r s → Walk (budget + more) s s → outcome_of (r first) ≡ Some outcome → IsNotAborted outcome.end → outcome_of (s (record first { ticks = first.ticks + more })) ≡ Some outcome
  walks_suffice first r s outcome is_budget one other e h =
      goes_the_same more (s first) (s (record first { ticks = first.ticks + more })) outcome
      (other.goes_on more first (omega (arith, is_budget)))
      (ap outcome_of (sym (one.same first (omega (arith, is_budget)))) ∙ e) h

  walks_on : (first : Activity) (r s : Run (Option Word)) (outcome later : Outcome) → first.ticks ≡ budget → AreNumbered (first.world).last (first.world).objects → Walk budget r s → Walk (budget + more) s s → outcome_of (r first) ≡ Some outcome → IsAborted outcome.end → outcome_of (s (record first { ticks = first.ticks + more })) ≡ Some later → IsOnTheWay more outcome later
  walks_on first r s outcome later is_budget ordered one other e h f =
      on_the_way more first ordered (s first) (s (record first { ticks = first.ticks + more })) outcome later
      (other.comes first (omega (arith, is_budget)))
      (other.goes_on more first (omega (arith, is_budget)))
      (ap outcome_of (sym (one.same first (omega (arith, is_budget)))) ∙ e) h f

  call_goes_on : (args : List Word) (outcome later : Outcome) (o : Option Entry) → option_and_then (call_entry p args budget world) o ≡ Some outcome → IsAborted outcome.end → option_and_then (call_entry p args (budget + more) world) o ≡ Some later → IsOnTheWay more outcome later
  call_goes_on args outcome later None e h f = absurd (cc)
  call_goes_on args outcome later (Some x) e h f =
      walks_on (first_of_call x args budget world) (entered p budget x) (entered p (budget + more) x) outcome later refl numbered
      (walk_entered p budget budget (budget + more) (at_most budget) le x)
      (walk_entered p (budget + more) (budget + more) (budget + more) (at_most (budget + more)) (at_most (budget + more)) x) e h f

  load_goes_on : (outcome later : Outcome) → load_module p budget world ≡ Some outcome → IsAborted outcome.end → load_module p (budget + more) world ≡ Some later → IsOnTheWay more outcome later
  load_goes_on outcome later e h f =
      walks_on (first_of_load p budget world) (initialized p budget >> give None) (initialized p (budget + more) >> give None) outcome later refl numbered
      (followed (walk_initialized p budget budget (budget + more) (at_most budget) le) (given None))
      (followed (walk_initialized p (budget + more) (budget + more) (budget + more) (at_most (budget + more)) (at_most (budget + more))) (given None)) e h f

  call_suffices : (args : List Word) (outcome : Outcome) (o : Option Entry) → option_and_then (call_entry p args budget world) o ≡ Some outcome → IsNotAborted outcome.end → option_and_then (call_entry p args (budget + more) world) o ≡ Some outcome
  call_suffices args outcome None h n = absurd (cc)
  call_suffices args outcome (Some e) h n =
      walks_suffice (first_of_call e args budget world) (entered p budget e) (entered p (budget + more) e) outcome refl
      (walk_entered p budget budget (budget + more) (at_most budget) le e)
      (walk_entered p (budget + more) (budget + more) (budget + more) (at_most (budget + more)) (at_most (budget + more)) e) h n

  load_suffices : (outcome : Outcome) → load_module p budget world ≡ Some outcome → IsNotAborted outcome.end → load_module p (budget + more) world ≡ Some outcome
  load_suffices outcome h n =
      walks_suffice (first_of_load p budget world) (initialized p budget >> give None) (initialized p (budget + more) >> give None) outcome refl
      (followed (walk_initialized p budget budget (budget + more) (at_most budget) le) (given None))
      (followed (walk_initialized p (budget + more) (budget + more) (budget + more) (at_most (budget + more)) (at_most (budget + more))) (given None)) h n

  pub budget_suffices : BudgetSuffices p budget more world
  budget_suffices = record {
    calls = λ place args outcome h n. call_suffices args outcome (entry_of (p.tree) (FreeFunction place)) h n;
    loads = load_suffices;
    aborted_calls = λ place args outcome later e h f. call_goes_on args outcome later (entry_of (p.tree) (FreeFunction place)) e h f;
    aborted_loads = load_goes_on;
  }
