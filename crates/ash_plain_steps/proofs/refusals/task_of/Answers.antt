use Rattle.std.proofs.Common.{sym, subst}
use Rattle.ash_requests.specs.Tasks.{task_of}
use Rattle.ash_requests.specs.declared.request.Request as request
use Rattle.ash_plain_steps.specs.StateViews.{state_seen}
use Rattle.ash_requests.specs.RequestViews.{request_seen}
use Rattle.ash_plain_steps.specs.TaskViews.{GivesTask}
use Rattle.ash_plain_steps.proofs.refusals.task_of.Goals as goal

pub returns-in-Call-clause-performable : goal.returns-in-Call-clause-performable
returns-in-Call-clause-performable g c = c.calling.ensures.performable (g.S.SourceReader.embedding c.args.sources.now)

pub returns-in-Discard-clause-performable : goal.returns-in-Discard-clause-performable
returns-in-Discard-clause-performable g c = c.discarding.ensures.performable (g.S.SourceReader.embedding c.args.sources.now)

pub returns-in-Discard-clause-task : goal.returns-in-Discard-clause-task
returns-in-Discard-clause-task g c known =
    subst (λ (r : request.Request). GivesTask g.S.SourceReader.fault_seen g.S.SourceReader.TakesMemory c.args.state.now.modules.items c.discarding.result (task_of (g.S.SourceReader.embedding c.args.sources.now) (request_seen r) (state_seen c.args.state.now))) (sym c.in-Discard.is)
    (c.discarding.ensures.task (g.S.SourceReader.embedding c.args.sources.now))

pub returns-in-Global-clause-performable : goal.returns-in-Global-clause-performable
returns-in-Global-clause-performable g c = c.reading.ensures.performable (g.S.SourceReader.embedding c.args.sources.now)
