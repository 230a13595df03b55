use Rattle.std.proofs.Common.{subst}
use Rattle.ash_requests.specs.RequestViews.{request_seen}
use Rattle.ash_durable.specs.Batches.{BatchRequest, Asked, BadRequest, RefusedBad}
use Rattle.ash_durable.specs.BatchViews.{batch_request_seen}
use Rattle.ash_durable.specs.BatchRuns.{RunsRequest}
use Rattle.ash_durable.proofs.BatchLaws.{one_bad}
use Rattle.ash_durable.proofs.BatchRunLaws.{tries_more}
use Rattle.ash_durable.proofs.batching.BatchRun.handle.Goals as goal

pub returns-in-Ok-clause-runs : goal.returns-in-Ok-clause-runs
returns-in-Ok-clause-runs g c live done was =
    subst (λ (request : BatchRequest). RunsRequest g.B.HostObject c.args.budget done live request
    c.handle_asked.result c.handle_asked.new.self c.handle_asked.new.engine) c.in-Ok.ensures.same
    (c.handle_asked.ensures.runs live done was)

pub returns-in-Err-clause-runs : goal.returns-in-Err-clause-runs
returns-in-Err-clause-runs g c live done was =
    let from = was.stepped.after in
    let number = c.in-Err.number in
    subst (λ (request : BatchRequest). RunsRequest g.B.HostObject c.args.budget done live request
    c.add.result c.add.new.self c.args.engine.now) c.in-Err.ensures.same
    (tries_more g.B.HostObject c.args.budget done live (BadRequest number) c.args.self.now c.add.new.self
    c.args.engine.now c.args.engine.now (RefusedBad number) from was
    (one_bad g.B.HostObject c.args.budget number from) was.stepped.live_is
    (c.facts.ensures.reached from was.stepped.live_is).admitted c.add.result
    (c.add.ensures.tries from was.stepped.live_is))
