use Rattle.std.proofs.Common.{◌≡◌, ◌≤◌, ◌++◌, drop, length, map, vec_capacity}
use Rattle.ash_durable.specs.BatchViews.{batch_request_seen}
use Rattle.ash_serve.specs.BatchLines.{owned_seen}
use Rattle.ash_serve.proofs.owned.batch_requests.Given as goal

abbrev pub invariant-loop-request : goal.invariant-loop-request
invariant-loop-request l = record {
  same : map owned_seen l.kept ≡ map batch_request_seen l.requests.items ++ map owned_seen (drop l.request-index l.kept);
  counted : length l.requests.items ≡ l.request-index;
  capacity : length l.kept ≤ vec_capacity l.requests;
}
