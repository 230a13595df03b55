use Rattle.std.proofs.Common.{sym}
use Rattle.ash_requests.specs.RequestViews.{request_seen}
use Rattle.ash_durable.specs.BatchViews.{batch_request_seen}
use Rattle.ash_durable.proofs.AddingRequests.{adding_next, adding_found, adding_none}
use Rattle.ash_durable.proofs.batching.adding_request.Goals as goal

pub returns-in-Some : goal.returns-in-Some
returns-in-Some c = record {
  value = sym (adding_found batch_request_seen c.args.requests.now c.loop-request.request-index c.loop-request.invariant
      _ c.loop-request-test.true (request_seen c.in-Some.request) (sym c.in-Some.ensures.value));
}

pub loop-request-preserved : goal.loop-request-preserved
loop-request-preserved c =
    adding_next batch_request_seen c.args.requests.now c.loop-request.request-index c.loop-request.invariant _
    c.loop-request-test.true (sym c.in-None.ensures.value)

pub returns : goal.returns
returns c = record {
  value = sym (adding_none batch_request_seen c.args.requests.now c.loop-request.request-index c.loop-request.invariant
      c.loop-request-test.false);
}
