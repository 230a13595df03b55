-- All phrases of a module, calls from outside and loads take the first of the answers.
use Rattle.std.proofs.Common.{◌≡◌, ◌∙◌, ℕ, zero, suc, List, [], Option, Some, None, refl, ap, subst, unwrap_or}
use Rattle.std.specs.Option.{option_and_then}
use Rattle.ash_host.specs.declared.word.Word.{Word}
use Rattle.ash_host.specs.declared.word.Word.TheVariants as words
use Rattle.ash_host.specs.Records.{HostRecord}
use Rattle.ash_meaning.specs.Activity.{World, Frame, Activity}
use Rattle.ash_meaning.specs.Runs.{Progress, Done, Ended, NoStep, Run, give, ◌>>◌}
use Rattle.ash_meaning.specs.Releases.{sweep}
use Rattle.ash_meaning.specs.Frames.{frame_of}
use Rattle.ash_meaning.specs.Classes.{Program, FreeFunction, Entry, entry_of}
use Rattle.ash_meaning.specs.Functions.{body}
use Rattle.ash_meaning.specs.Ends.{End, Finished, Outcome, interrupted_in, outcome_with, outcome_of, begun, call_entry, with_globals, init_frame, load_module}
use Rattle.ash_meaning.specs.MeaningLaws.{entered, initialized}
use Rattle.ash_answer_laws.specs.TakenAnswers.{Takes, with_answers, activity_with_answers, outcome_with_answers, TakesTheFirst, PhrasesLeaveTheRest, OutcomesLeaveTheRest, RunsLeaveTheRest}
use Rattle.ash_answer_laws.proofs.Taking.{taken_so}
use Rattle.ash_answer_laws.proofs.Leaving.{Leaves, followed, given, stopped, a_tick}
use Rattle.ash_answer_laws.proofs.PhrasesLeave.{walk_expression, walk_location, walk_arguments, walk_statement, walk_entry, walk_module}

walk_body : (p : Program) (d : ℕ) (e : Entry) → Leaves (body p d e)
walk_body p zero e = stopped
walk_body p (suc d) e = walk_entry p (body p d) (walk_body p d) d e

walk_entered : (p : Program) (d : ℕ) (e : Entry) → Leaves (entered p d e)
walk_entered p d e = followed (a_tick e.line) (walk_body p d e)

walk_initialized : (p : Program) (d : ℕ) → Leaves (initialized p d)
walk_initialized p d = walk_module p (body p d) (walk_body p d) 0 (p.tree).globals

pub phrases_leave : (p : Program) (d : ℕ) → PhrasesLeaveTheRest p d
phrases_leave p d = record {
  expressions = λ e. (walk_expression p (body p d) (walk_body p d) e).rest;
  places = λ place. (walk_location p (body p d) (walk_body p d) place).rest;
  argument_lists = λ es. (walk_arguments p (body p d) (walk_body p d) es).rest;
  statements = λ s. (walk_statement p (body p d) (walk_body p d) d s).rest;
  functions = λ e. (walk_entered p d e).rest;
  initializers = (walk_initialized p d).rest;
}

-- ends

abbrev OutcomeTakes : (List HostRecord → Option Outcome) → List HostRecord → Outcome → Type 0
OutcomeTakes from answers outcome = Takes (λ x y. from x ≡ Some (outcome_with_answers y outcome)) answers (outcome.world).answers

this_outcome : (from : List HostRecord → Option Outcome) (answers : List HostRecord) (this outcome : Outcome) → OutcomeTakes from answers this → Some this ≡ Some outcome → OutcomeTakes from answers outcome
this_outcome from answers this outcome t e = subst (λ (o : Outcome). OutcomeTakes from answers o) (ap (λ (o : Option Outcome). unwrap_or o this) e) t

-- a release point leaves the answers as they are

swept_with : (x : List HostRecord) (frames : List Frame) (world : World) → sweep frames (with_answers x world) ≡ with_answers x (sweep frames world)
unfolding sweep
swept_with x frames world = refl

swept_answers : (frames : List Frame) (world : World) → world.answers ≡ (sweep frames world).answers
unfolding sweep
swept_answers frames world = refl

abbrev left_with : End → World → Option Outcome
left_with end world = Some (record { end = end; world = world })

module _ (r : Run (Option Word)) (first : Activity) where
  abbrev from : List HostRecord → Option Outcome
  from x = outcome_of (r (activity_with_answers x first))

  ended_so : (end : End) (last : Activity) → Takes (λ x y. from x ≡ left_with end (sweep [] (with_answers y last.world))) (first.world).answers (last.world).answers → OutcomeTakes from (first.world).answers (outcome_with end last.world)
  ended_so end last t =
      subst (λ (l : List HostRecord). Takes (λ x y. from x ≡ left_with end (with_answers y (sweep [] last.world))) (first.world).answers l) (swept_answers [] last.world)
      (taken_so t (λ x y e. e ∙ ap (left_with end) (swept_with y [] last.world)))

  ended : (p : Progress (Option Word)) → TakesTheFirst r first p → (outcome : Outcome) → outcome_of p ≡ Some outcome → OutcomeTakes from (first.world).answers outcome
  ended (Done v a) t outcome f = this_outcome from (first.world).answers (outcome_with (Finished v) a.world) outcome (ended_so (Finished v) a (taken_so t (λ x y e. ap outcome_of e))) f
  ended (Ended i a) t outcome f = this_outcome from (first.world).answers (outcome_with (interrupted_in i a.frame) a.world) outcome (ended_so (interrupted_in i a.frame) a (taken_so t (λ x y e. ap outcome_of e))) f
  ended NoStep t outcome f = absurd (cc)

module _ (p : Program) (budget : ℕ) (world : World) where
  called : (args : List Word) (o : Option Entry) → OutcomesLeaveTheRest (λ w. option_and_then (call_entry p args budget w) o) world
  called args None = λ outcome f. absurd (cc)
  called args (Some e) =
      let first : Activity = begun world budget (frame_of e.name e.line words.Null args) in
      ended (entered p budget e) first (entered p budget e first) ((walk_entered p budget e).rest first)

  loaded : OutcomesLeaveTheRest (load_module p budget) world
  loaded =
      let first : Activity = begun (with_globals p.tree world) budget init_frame in
      let all : Run (Option Word) = initialized p budget >> give None in
      let leaves : Leaves all = followed (walk_initialized p budget) (given None) in
      ended all first (all first) (leaves.rest first)

  pub runs_leave : RunsLeaveTheRest p budget world
  runs_leave = record {
    calls = λ place args. called args (entry_of p.tree (FreeFunction place));
    loads = loaded;
  }
