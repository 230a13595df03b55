-- What an evaluator has its calls do.
use Rattle.std.specs.Prelude.{ℕ, Option, Result}
use Rattle.std.specs.Borrow.{MutBor}
use Rattle.std.specs.Fn.{Shared}
use Rattle.ash_host.specs.declared.word.Word.{Word}
use Rattle.ash_meaning.specs.Runs.{Run, ◌>>=◌, found}
use Rattle.ash_meaning.specs.Classes.{Program, ModuleCallee, entry_of}
use Rattle.ash_meaning.specs.Functions.{body}
use Rattle.ash_plain_data.specs.declared.run_error.RunError.{RunError}
use Rattle.ash_plain_data.specs.declared.classes.ModuleCallee as callee
use Rattle.ash_plain_data.specs.ClassViews.{program_seen, callee_seen}
use Rattle.ash_plain_data.specs.CallRuns.{RunsAs}
use Rattle.ash_plain_world.specs.declared.activity.Activity as activity
use Rattle.ash_plain_world.specs.ActivityViews.{activity_seen}
use Rattle.ash_plain_scripts.specs.declared.evaluator.Evaluator as evaluator

-- what the frame of a call does after the tick of its entry
abbrev pub body_of_callee : Program → ℕ → ModuleCallee → Run (Option Word)
body_of_callee p depth callee = found (entry_of p.tree callee) >>= body p depth

-- The evaluator's own function for what frames do runs as the definitions say.
unfoldable pub RunsBodies : {F : Type 0} → Shared F (MutBor activity.Activity × (callee.ModuleCallee × Unit {0}))
    (Result (Option Word) RunError × (MutBor activity.Activity × Unit {0})) → evaluator.Evaluator F → Type 0
RunsBodies g e =
    (before : MutBor activity.Activity) (called : callee.ModuleCallee) (result : Result (Option Word) RunError)
    (after : MutBor activity.Activity) → g.post e.body (before, (called, tt)) (result, (after, tt))
    → RunsAs (λ (value : Option Word). value) result (activity_seen after.now)
    (body_of_callee (program_seen e.program.now) e.depth (callee_seen called) (activity_seen before.now))
