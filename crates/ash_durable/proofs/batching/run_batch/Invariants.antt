use Rattle.std.proofs.Common.{◌≡◌, Some, map, take}
use Rattle.ash_engine.specs.LiveStates.{LiveState}
use Rattle.ash_durable.specs.BatchViews.{batch_request_seen}
use Rattle.ash_durable.specs.BatchRuns.{HasRun}
use Rattle.ash_durable.proofs.batching.run_batch.Given as goal

-- the requests so far have run
abbrev pub invariant-loop-request : goal.invariant-loop-request
invariant-loop-request g l = record {
  runs : (live : LiveState g.row.B.Denot) → l.fn.engine.live ≡ Some live
      → HasRun g.B.HostObject l.budget (map batch_request_seen (take l.request-index l.requests)) live l.run l.engine;
  registered : l.engine.registered ≡ l.fn.engine.registered;
}
