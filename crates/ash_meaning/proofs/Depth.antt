-- Walks of all phrases of a module, at a depth, and what follows from them.
use Rattle.std.proofs.Common.{◌≤◌, ◌<◌, ℕ, zero, suc, arith}
use Rattle.ash_meaning.specs.Runs.{Run}
use Rattle.ash_meaning.specs.Classes.{Program, Entry}
use Rattle.ash_meaning.specs.Functions.{body}
use Rattle.ash_meaning.specs.MeaningLaws.{DepthIsNoPart, entered, initialized, OfPhrases, IsTraced, PhrasesAreTraces, GoesOnWithMore, MoreTicksGoOn}
use Rattle.ash_meaning.proofs.Walks.{Walk, at_most, same_of, ticked}
use Rattle.ash_meaning.proofs.PhraseWalks.{walk_expression, walk_location, walk_arguments, walk_statement, walk_entry, walk_module}

walk_body : (p : Program) (d e m : ℕ) → m < d → m < e → (x : Entry) → Walk m (body p d x) (body p e x)
walk_body p zero zero m le more x = absurd (omega arith)
walk_body p zero (suc e) m le more x = absurd (omega arith)
walk_body p (suc d) zero m le more x = absurd (omega arith)
walk_body p (suc d) (suc e) m le more x =
    walk_entry p (body p d) (body p e) (λ y k less. walk_body p d e k (omega arith) (omega arith) y) d e (omega arith) (omega arith) x

module _ (p : Program) (n d e : ℕ) (le : n ≤ d) (more : n ≤ e) where
  pub walk_entered : (x : Entry) → Walk n (entered p d x) (entered p e x)
  walk_entered x = ticked x.line (λ m less. walk_body p d e m (omega arith) (omega arith) x)

  pub walk_initialized : Walk n (initialized p d) (initialized p e)
  walk_initialized = walk_module p (body p d) (body p e) (λ x m less. walk_body p d e m (omega arith) (omega arith) x) 0 (p.tree).globals

pub depth_is_no_part : (p : Program) (ticks depth other : ℕ) → ticks ≤ depth → ticks ≤ other → DepthIsNoPart p ticks depth other
depth_is_no_part p ticks depth other le more = record {
  functions = λ e. same_of (walk_entered p ticks depth other le more e);
  initializers = same_of (walk_initialized p ticks depth other le more);
}

-- what is called within a depth
pub walk_called : (p : Program) (d : ℕ) (x : Entry) (m : ℕ) → m < d → Walk m (body p d x) (body p d x)
walk_called p d x m less = walk_body p d d m less less x

-- what follows from a walk holds of all phrases
pub of_phrases : (p : Program) (d : ℕ) (Holds : (A : Type 0) → Run A → Type 0) → ((A : Type 0) (r : Run A) → Walk d r r → Holds A r) → OfPhrases p d Holds
of_phrases p d Holds follows = record {
  expressions = λ e. follows _ _ (walk_expression p (body p d) (body p d) (walk_called p d) e);
  places = λ place. follows _ _ (walk_location p (body p d) (body p d) (walk_called p d) place);
  argument_lists = λ es. follows _ _ (walk_arguments p (body p d) (body p d) (walk_called p d) es);
  statements = λ s. follows _ _ (walk_statement p (body p d) (body p d) (walk_called p d) d d (at_most d) (at_most d) s);
  functions = λ e. follows _ _ (walk_entered p d d d (at_most d) (at_most d) e);
  initializers = follows _ _ (walk_initialized p d d d (at_most d) (at_most d));
}

pub phrases_are_traces : (p : Program) (d : ℕ) → PhrasesAreTraces p d
phrases_are_traces p d = of_phrases p d (IsTraced d) (λ A r w. w.comes)

pub more_ticks_go_on : (p : Program) (d : ℕ) → MoreTicksGoOn p d
more_ticks_go_on p d = of_phrases p d (GoesOnWithMore d) (λ A r w. w.goes_on)
