use Rattle.ash_requests.specs.RequestViews.{request_seen}
use Rattle.ash_durable.specs.BatchViews.{batch_reply_seen}
use Rattle.ash_durable.proofs.BatchRunLaws.{asked_lost, asked_refused, asked_replied, replied_has, replied_not_done}
use Rattle.ash_durable.proofs.batching.BatchRun.handle_asked.Goals as goal

pub returns-in-Err-clause-runs : goal.returns-in-Err-clause-runs
returns-in-Err-clause-runs g c live done was rest =
    asked_lost g.B.HostObject c.args.budget done live (request_seen c.args.request.now) c.args.self.now
    c.args.engine.now c.handle.new.self was c.in-Err.field-0
    (c.in-Err.ensures.handled was.stepped.after was.stepped.live_is).0 rest

pub batch_reply-requires : goal.batch_reply-requires
batch_reply-requires g c = record {
  not_done =
      replied_not_done g.B.HostObject c.args.budget (request_seen c.args.request.now) c.args.engine.now.live
      c.handle.new.self.live c.in-Ok.reply c.requires.live c.in-Ok.ensures.handled c.requires.no_snapshot;
}

pub add-requires-clause-live : goal.add-requires-clause-live
add-requires-clause-live g c =
    replied_has g.B.HostObject c.args.budget (request_seen c.args.request.now) c.args.engine.now.live
    c.handle.new.self.live c.in-Ok.reply c.requires.live c.in-Ok.ensures.handled

pub returns-in-Some-clause-runs : goal.returns-in-Some-clause-runs
returns-in-Some-clause-runs g c live done was =
    asked_replied g.B.HostObject c.args.budget done live (request_seen c.args.request.now) c.args.self.now
    c.args.engine.now c.handle.new.self was c.in-Ok.reply
    (c.in-Ok.ensures.handled was.stepped.after was.stepped.live_is) (batch_reply_seen c.in-Some.reply)
    c.in-Some.ensures.same c.facts.ensures.boxes c.facts.ensures.reached c.add.new.self c.add.result c.add.ensures.tries

pub returns-in-None-clause-runs : goal.returns-in-None-clause-runs
returns-in-None-clause-runs g c live done was rest =
    asked_refused g.B.HostObject c.args.budget done live (request_seen c.args.request.now) c.args.self.now
    c.args.engine.now c.handle.new.self was c.in-Ok.reply
    (c.in-Ok.ensures.handled was.stepped.after was.stepped.live_is) c.in-None.ensures.same c.stop.result
    c.stop.ensures.stop rest
