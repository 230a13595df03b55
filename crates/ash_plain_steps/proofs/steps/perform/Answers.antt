use Rattle.std.proofs.Common.{◌∙◌, ap, sym, subst}
use Rattle.std.specs.Prelude.{slice_get}
use Rattle.ash_requests.specs.Tasks.{Remove}
use Rattle.ash_plain_steps.specs.declared.state.LoadedModule.{LoadedModule}
use Rattle.ash_plain_steps.specs.declared.task.Task as task
use Rattle.ash_plain_steps.specs.declared.task.Task.TheVariants as tasks
use Rattle.ash_plain_steps.specs.StateViews.{loaded_seen, state_seen, hosts_seen}
use Rattle.ash_plain_steps.specs.TaskViews.{task_seen}
use Rattle.ash_plain_steps.specs.StepViews.{ChangesState, LosesMemory}
use Rattle.ash_plain_steps.proofs.Ran.{performs_at, loses_changing}
use Rattle.ash_plain_steps.proofs.steps.perform.Goals as goal

pub returns-in-Remove-clause-stepped : goal.returns-in-Remove-clause-stepped
returns-in-Remove-clause-stepped g c one e =
    let ms = c.args.state.modules.items in
    performs_at g.S.SourceReader.fault_seen c.args.budget (state_seen c.args.state) (hosts_seen c.args.hosts) c.discard.result
    (λ (m : LoadedModule). Remove (loaded_seen m).name) (slice_get ms c.in-Remove.place) one
    (ap (λ (t : task.Task). task_seen ms t) (sym c.in-Remove.is) ∙ e)
    (λ m there. c.discard.ensures.stepped c.args.budget m there c.requires.consistent.ascending)

pub returns-in-Initialize-clause-memory : goal.returns-in-Initialize-clause-memory
returns-in-Initialize-clause-memory g c =
    subst (λ (t : task.Task). LosesMemory c.initialize.result (ChangesState t)) (sym c.in-Initialize.is)
    (loses_changing g.S.SourceReader.fault_seen c.initialize.result (tasks.Initialize c.in-Initialize.new) tt)

pub returns-in-Invoke-clause-memory : goal.returns-in-Invoke-clause-memory
returns-in-Invoke-clause-memory g c =
    subst (λ (t : task.Task). LosesMemory c.invoke.result (ChangesState t)) (sym c.in-Invoke.is)
    (loses_changing g.S.SourceReader.fault_seen c.invoke.result (tasks.Invoke c.in-Invoke.call) tt)

pub returns-in-Remove-clause-memory : goal.returns-in-Remove-clause-memory
returns-in-Remove-clause-memory g c =
    subst (λ (t : task.Task). LosesMemory c.discard.result (ChangesState t)) (sym c.in-Remove.is)
    (loses_changing g.S.SourceReader.fault_seen c.discard.result (tasks.Remove c.in-Remove.place) tt)
