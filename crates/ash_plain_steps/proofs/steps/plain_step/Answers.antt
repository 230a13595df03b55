use Rattle.ash_requests.specs.Tasks.{task_of}
use Rattle.ash_plain_steps.specs.StateViews.{state_seen, hosts_seen}
use Rattle.ash_requests.specs.RequestViews.{request_seen}
use Rattle.ash_plain_steps.specs.StepViews.{step_seen}
use Rattle.ash_plain_steps.specs.TaskViews.{task_seen}
use Rattle.std.proofs.Common.{ap, Ok}
use Rattle.ash_plain_steps.proofs.Ran.{steps_so, is_step, is_refusal, steps_of}
use Rattle.ash_plain_steps.proofs.steps.plain_step.Goals as goal

pub returns-in-Ok-clause-stepped : goal.returns-in-Ok-clause-stepped
returns-in-Ok-clause-stepped g c =
    is_step g.S.SourceReader.fault_seen g.S.SourceReader.TakesMemory (g.S.SourceReader.embedding c.args.sources.now) c.args.budget (request_seen c.args.request.now) (state_seen c.args.state) (hosts_seen c.args.hosts) c.args.state.modules.items c.in-Ok.task c.perform.result
    (c.in-Ok.ensures.task c.requires.consistent) c.perform.ensures.memory
    (steps_so g.S.SourceReader.fault_seen c.args.budget (state_seen c.args.state) (hosts_seen c.args.hosts) c.perform.result
    (task_seen c.args.state.modules.items c.in-Ok.task) (task_of (g.S.SourceReader.embedding c.args.sources.now) (request_seen c.args.request.now) (state_seen c.args.state))
    (c.in-Ok.ensures.task c.requires.consistent)
    c.perform.ensures.stepped)

pub returns-in-Err-clause-stepped : goal.returns-in-Err-clause-stepped
returns-in-Err-clause-stepped g c =
    is_refusal g.S.SourceReader.fault_seen g.S.SourceReader.TakesMemory (g.S.SourceReader.embedding c.args.sources.now) c.args.budget (request_seen c.args.request.now) (state_seen c.args.state) (hosts_seen c.args.hosts) c.in-Err.refusal c.replied.result
    (c.in-Err.ensures.task c.requires.consistent)
    (ap (step_seen g.S.SourceReader.fault_seen) c.replied.ensures.value)

pub returns-in-Ok-clause-defined : goal.returns-in-Ok-clause-defined
returns-in-Ok-clause-defined g c =
    steps_of g.S.SourceReader.fault_seen g.S.SourceReader.TakesMemory (g.S.SourceReader.embedding c.args.sources.now) c.args.budget (request_seen c.args.request.now) (state_seen c.args.state) (hosts_seen c.args.hosts) c.perform.result (returns-in-Ok-clause-stepped g c)

pub returns-in-Err-clause-defined : goal.returns-in-Err-clause-defined
returns-in-Err-clause-defined g c =
    steps_of g.S.SourceReader.fault_seen g.S.SourceReader.TakesMemory (g.S.SourceReader.embedding c.args.sources.now) c.args.budget (request_seen c.args.request.now) (state_seen c.args.state) (hosts_seen c.args.hosts) (Ok c.replied.result) (returns-in-Err-clause-stepped g c)
