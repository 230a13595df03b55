use Rattle.std.proofs.Common.{◌≡◌, map, drop}
use Rattle.ash_durable.specs.Batches.{adding_request}
use Rattle.ash_durable.specs.BatchViews.{batch_request_seen}
use Rattle.ash_durable.proofs.batching.adding_request.Given as goal

-- none of those so far adds a record
abbrev pub invariant-loop-request : goal.invariant-loop-request
invariant-loop-request l =
    adding_request (map batch_request_seen l.requests)
    ≡ adding_request (map batch_request_seen (drop l.request-index l.requests))
