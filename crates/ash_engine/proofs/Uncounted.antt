-- What the machine says of a run, but for how many instructions it did.
use Rattle.std.specs.Prelude.{Option, Result, Ok, Err}
use Rattle.ash_host.specs.declared.host_object.HostObject.{Ghosts}
use Rattle.ash_meaning.specs.Activity.{World}
use Rattle.ash_meaning.specs.Ends.{Outcome}
use Rattle.ash_run_steps.specs.declared.beginning.Parts.{Parts}
use Rattle.ash_run_steps.specs.RunStates.{Names}
use Rattle.ash_context.specs.declared.outcome.Outcome as run_outcome
use Rattle.ash_context.specs.declared.outcome.RunFault.{RunFault}
use Rattle.ash_context.specs.declared.outcome.RunFault.TheVariants as faults
use Rattle.ash_context.specs.Outcomes.{Says}
use Rattle.ash_engine.specs.TableRuns.{uncounted}

pub without_count : {B : Type 0} (G : Ghosts B) (names : Names) (run : World → Option Outcome) (counts : World → Outcome
    → Type 0) (old new : Parts B) (r : Result run_outcome.Outcome RunFault)
    → Says G names run counts old r new → Says G names run uncounted old r new
without_count G names run counts old new (Ok outcome) says = record {
  records = says.records;
  gave = says.gave;
  same = says.same;
  counted = tt;
}
without_count G names run counts old new (Err faults.Unsound) says = says
without_count G names run counts old new (Err faults.NoMemory) says = tt
without_count G names run counts old new (Err faults.NotBegun) says = tt
