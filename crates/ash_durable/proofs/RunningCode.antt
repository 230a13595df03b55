-- What runs code changes the state.
use Rattle.std.proofs.Common.{Ok, Err}
use Rattle.ash_requests.specs.TaskResults.{TaskChangesState}
use Rattle.ash_requests.specs.Tasks.{Initialize, Invoke, Remove, Read, Show, Count, Rewrite, TaskResult}
use Rattle.ash_sources.specs.SourceFaults.{SourceFault}
use Rattle.ash_states.specs.StateSteps.{TaskRunsCode}

pub runs_changes : (task : TaskResult SourceFault) → TaskRunsCode task → TaskChangesState task
runs_changes (Ok (Initialize name source tree)) runs = tt
runs_changes (Ok (Invoke loaded tree function args)) runs = tt
runs_changes (Ok (Remove name)) runs = tt
runs_changes (Ok (Read word)) runs = runs
runs_changes (Ok (Show shown)) runs = runs
runs_changes (Ok Count) runs = runs
runs_changes (Ok Rewrite) runs = runs
runs_changes (Err refusal) runs = runs
