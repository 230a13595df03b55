use Rattle.std.proofs.Common.{◌≡◌}
use Rattle.ash_serve.specs.Session.{HasSessionRoom}
use Rattle.ash_serve.specs.Serving.{OngoingLog, relations, run_state, serving_with}
use Rattle.ash_serve.proofs.serve.serve.Given as goal

abbrev pub invariant-requests : goal.invariant-requests
invariant-requests g l = record {
  log : OngoingLog (serving_with g.S.Source.feed g.K.Sink.outlet (relations g.H.RequestHandler.handles g.H.RequestHandler.handles_batch l.fn.budget))
      (run_state l.fn.input l.fn.output l.fn.host) (run_state l.input l.output l.host);
  room : HasSessionRoom l.session;
  budget : l.session.budget ≡ l.fn.budget;
}

abbrev pub decreases-requests : goal.decreases-requests
decreases-requests g l = g.S.Source.feed.allowance l.input
