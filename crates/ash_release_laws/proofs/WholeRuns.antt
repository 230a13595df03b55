-- Whole runs: what is left at their end.
use Rattle.std.proofs.Common.{◌≡◌, ℕ, Bool, true, false, List, [], Option, Some, None, refl, sym, ap, subst}
use Rattle.std.specs.Prelude.{Contains, IsSome}
use Rattle.std.specs.Option.{option_and_then}
use Rattle.std.proofs.lemmas.Option.{same_Some}
use Rattle.ash_host.specs.declared.word.Word.{Word}
use Rattle.ash_host.specs.Objects.{Lives, AreNumbered}
use Rattle.ash_host.specs.Reach.{ReachableIn, is_reachable}
use Rattle.ash_host.proofs.ReachLaws.{is_reachable_says, is_reachable_yes}
use Rattle.ash_host.proofs.SweepLaws.{swept_reachable}
use Rattle.ash_meaning.specs.Activity.{World, Frame, Activity}
use Rattle.ash_meaning.specs.Releases.{roots, sweep}
use Rattle.ash_meaning.specs.Classes.{Program, FreeFunction, Entry, entry_of}
use Rattle.ash_meaning.specs.Runs.{Raising, OutOfTicks, Progress, Done, Ended, NoStep, give, onward}
use Rattle.ash_meaning.specs.Traces.{Trace}
use Rattle.ash_meaning.specs.Ends.{Finished, Outcome, interrupted_in, outcome_with, outcome_of, call_entry, load_module}
use Rattle.ash_meaning.specs.MeaningLaws.{ComesBy, IsReleased, entered, initialized, first_of_call, first_of_load}
use Rattle.ash_meaning.proofs.Walks.{at_most}
use Rattle.ash_meaning.proofs.Released.{swept_by}
use Rattle.ash_meaning.proofs.Numbers.{along}
use Rattle.ash_meaning.proofs.Depth.{walk_entered, walk_initialized}
use Rattle.ash_release_laws.specs.Settling.{ReachesFrom, IsSettledFrom, IsNumbered}
use Rattle.ash_release_laws.specs.Leaving.{IsLastOf, LeaveByTheEnd, RunsLeaveOnTime}
use Rattle.ash_release_laws.proofs.Leaving.{given, was_reached, lives_on, said, leave_from_anywhere}

module _ {frames : List Frame} {old new : World} (r : IsReleased frames old new) where
  stays : (n : ℕ) → Lives old.objects n → ReachesFrom frames old n → Lives new.objects n
  stays n l reached = subst IsSome (sym ((r.swept).stays n reached)) l

  was_from : (n : ℕ) (b : Bool) → is_reachable (roots frames old) old.objects n ≡ b → Lives new.objects n → ReachesFrom frames old n
  was_from n true is l = is_reachable_says (roots frames old) old.objects n is
  was_from n false is l =
      let unreached : ¬ ReachesFrom frames old n = λ reached. let yes = is_reachable_yes (roots frames old) old.objects n reached in cc in
      let none = subst IsSome ((r.swept).goes n unreached) l in
      absurd (cc)

  was : (n : ℕ) → Lives new.objects n → ReachesFrom frames old n
  was n l = was_from n (is_reachable (roots frames old) old.objects n) refl l

  lived : (n : ℕ) → Lives new.objects n → Lives old.objects n
  lived n l = subst IsSome ((r.swept).stays n (was n l)) l

  roots_same : roots frames new ≡ roots frames old
  roots_same = ap (roots frames) r.others

  settled : IsSettledFrom frames new
  settled = record {
    reached = λ n l. subst (λ (ns : List ℕ). ReachableIn (Contains ns) new.objects n) (sym roots_same) (swept_reachable r.swept n (was n l));
  }

by_the_end : {A : Type 0} (p : Progress A) (first last : Activity) (outcome : Outcome) → IsNumbered first → Trace first last → IsLastOf p last → IsReleased [] last.world outcome.world → LeaveByTheEnd p first outcome
by_the_end p first last outcome numbered t comes r = record {
  last = last;
  comes = comes;
  trace = t;
  from_anywhere = leave_from_anywhere first last numbered;
  released = r;
  dropped = λ n kind state at gone. said n last.world outcome.world gone kind state at;
  lives = λ middle before after n l.
      let from : IsNumbered middle = ((along before numbered).lives).numbered in (
        (λ there. ((was_reached n from after (given n middle from l) (lived r n there)).0, was r n there)),
        (λ both. stays r n (lives_on n from after l both.0) both.1),
      );
  none_late = settled r;
}

-- the end of a run, by what it comes to

ended_by : {A : Type 0} (p : Progress A) (first last : Activity) (this outcome : Outcome) → IsNumbered first → Trace first last → IsLastOf p last → this.world ≡ sweep [] last.world → Some this ≡ Some outcome → LeaveByTheEnd p first outcome
ended_by p first last this outcome numbered t comes world e =
    subst (λ (o : Outcome). LeaveByTheEnd p first o) (same_Some this outcome e)
    (by_the_end p first last this numbered t comes (subst (λ (w : World). IsReleased [] last.world w) (sym world) (swept_by [] last.world ((along t numbered).lives).numbered.in_order)))

call_ends : (first : Activity) → IsNumbered first → (p : Progress (Option Word)) (outcome : Outcome) → ComesBy first p → outcome_of p ≡ Some outcome → LeaveByTheEnd p first outcome
call_ends first numbered (Done value last) outcome t e = ended_by (Done value last) first last (outcome_with (Finished value) last.world) outcome numbered t refl refl e
call_ends first numbered (Ended (Raising x) last) outcome t e = ended_by {A = Option Word} (Ended (Raising x) last) first last (outcome_with (interrupted_in (Raising x) last.frame) last.world) outcome numbered t refl refl e
call_ends first numbered (Ended OutOfTicks last) outcome t e = ended_by {A = Option Word} (Ended OutOfTicks last) first last (outcome_with (interrupted_in OutOfTicks last.frame) last.world) outcome numbered t.0 refl refl e
call_ends first numbered NoStep outcome t e = absurd (cc)

load_ends : (first : Activity) → IsNumbered first → (p : Progress (Unit {0})) (outcome : Outcome) → ComesBy first p → outcome_of (onward p (λ _. give None)) ≡ Some outcome → LeaveByTheEnd p first outcome
load_ends first numbered (Done value last) outcome t e = ended_by (Done value last) first last (outcome_with (Finished None) last.world) outcome numbered t refl refl e
load_ends first numbered (Ended (Raising x) last) outcome t e = ended_by {A = Unit {0}} (Ended (Raising x) last) first last (outcome_with (interrupted_in (Raising x) last.frame) last.world) outcome numbered t refl refl e
load_ends first numbered (Ended OutOfTicks last) outcome t e = ended_by {A = Unit {0}} (Ended OutOfTicks last) first last (outcome_with (interrupted_in OutOfTicks last.frame) last.world) outcome numbered t.0 refl refl e
load_ends first numbered NoStep outcome t e = absurd (cc)

module _ (p : Program) (budget : ℕ) (world : World) (numbered : AreNumbered world.last world.objects) where
  entry_ends : (args : List Word) (outcome : Outcome) (o : Option Entry) → option_and_then (call_entry p args budget world) o ≡ Some outcome → (e : Entry) × (o ≡ Some e) × LeaveByTheEnd (entered p budget e (first_of_call e args budget world)) (first_of_call e args budget world) outcome
  entry_ends args outcome None h = absurd (cc)
  entry_ends args outcome (Some e) h =
      let first : Activity = first_of_call e args budget world in
      (e, refl, call_ends first numbered (entered p budget e first) outcome ((walk_entered p budget budget budget (at_most budget) (at_most budget) e).comes first (at_most budget)) h)

  module_ends : (outcome : Outcome) → load_module p budget world ≡ Some outcome → LeaveByTheEnd (initialized p budget (first_of_load p budget world)) (first_of_load p budget world) outcome
  module_ends outcome h =
      let first : Activity = first_of_load p budget world in
      load_ends first numbered (initialized p budget first) outcome ((walk_initialized p budget budget budget (at_most budget) (at_most budget)).comes first (at_most budget)) h

  pub runs_leave_on_time : RunsLeaveOnTime p budget world
  runs_leave_on_time = record {
    calls = λ place args outcome h. entry_ends args outcome (entry_of p.tree (FreeFunction place)) h;
    loads = module_ends;
  }
