-- Calls from outside and loads leave uncalled services as they are.
use Rattle.std.proofs.Common.{◌≡◌, ℕ, zero, suc, List, [], Option, Some, None, refl, ap, subst}
use Rattle.std.specs.Prelude.{unwrap_or}
use Rattle.ash_host.specs.declared.word.Word.{Word}
use Rattle.ash_host.specs.declared.word.Word.TheVariants as words
use Rattle.ash_meaning.specs.Activity.{World, Frame, Activity}
use Rattle.ash_meaning.specs.Runs.{Progress, Done, Ended, NoStep, Run, give, ◌>>◌}
use Rattle.ash_meaning.specs.Releases.{sweep}
use Rattle.ash_meaning.specs.Frames.{frame_of}
use Rattle.ash_meaning.specs.Classes.{Program, Entry}
use Rattle.ash_meaning.specs.Functions.{body}
use Rattle.ash_meaning.specs.Ends.{Outcome, outcome_of, begun, with_globals, init_frame}
use Rattle.ash_meaning.specs.MeaningLaws.{entered, initialized}
use Rattle.ash_change_laws.specs.UncalledServices.{KeepsUncalled, RunsKeepUncalled}
use Rattle.ash_change_laws.proofs.Keeping.{Keeps, KeepsFrom, keeps_same, keeps_more, keeps_then, followed, given, stopped, a_tick}
use Rattle.ash_change_laws.proofs.PhrasesKeep.{walk_entry, walk_module}

walk_body : (p : Program) (d : ℕ) (e : Entry) → Keeps (body p d e)
walk_body p zero e = stopped
walk_body p (suc d) e = walk_entry p (body p d) (walk_body p d) d e

walk_entered : (p : Program) (d : ℕ) (e : Entry) → Keeps (entered p d e)
walk_entered p d e = followed (a_tick e.line) (walk_body p d e)

walk_initialized : (p : Program) (d : ℕ) → Keeps (initialized p d)
walk_initialized p d = walk_module p (body p d) (walk_body p d) 0 (p.tree).globals

-- a release point
pub swept_keeps : (frames : List Frame) (w : World) → KeepsUncalled w (sweep frames w)
unfolding sweep
swept_keeps frames w = keeps_more w _ _ refl refl

this_outcome : (w : World) (this outcome : Outcome) → KeepsUncalled w this.world → Some this ≡ Some outcome → KeepsUncalled w outcome.world
this_outcome w this outcome keeps e = subst (λ (o : Outcome). KeepsUncalled w o.world) (ap (λ (o : Option Outcome). unwrap_or o this) e) keeps

ended : (first : Activity) (p : Progress (Option Word)) → KeepsFrom first p → (outcome : Outcome) → outcome_of p ≡ Some outcome → KeepsUncalled first.world outcome.world
ended first (Done v a) s outcome e = this_outcome first.world _ outcome (keeps_then first.world a.world _ s (swept_keeps [] a.world)) e
ended first (Ended i a) s outcome e = this_outcome first.world _ outcome (keeps_then first.world a.world _ s (swept_keeps [] a.world)) e
ended first NoStep s outcome e = absurd (cc)

pub runs_keep : (p : Program) (budget : ℕ) (world : World) → RunsKeepUncalled p budget world
runs_keep p budget world = record {
  calls = λ args e outcome is.
      let first : Activity = begun world budget (frame_of e.name e.line words.Null args) in
      ended first (entered p budget e first) ((walk_entered p budget e).from first) outcome is;
  loads = λ outcome is.
      let first : Activity = begun (with_globals p.tree world) budget init_frame in
      let all : Run (Option Word) = initialized p budget >> give None in
      let keeps : Keeps all = followed (walk_initialized p budget) (given None) in
      keeps_then world first.world outcome.world (keeps_same world first.world refl refl)
      (ended first (all first) (keeps.from first) outcome is);
}
