use Rattle.std.proofs.Common.{◌≡◌, ◌≤◌, length, vec_capacity}
use Rattle.ash_serve.specs.Session.{HasRoom}
use Rattle.ash_serve.proofs.BatchLemmas.{HasLines}
use Rattle.ash_serve.proofs.buffers.Buffers.read_batch.Given as goal

abbrev pub invariant-loop-i : goal.invariant-loop-i
invariant-loop-i g l = record {
  read : HasLines g.S.Source.feed l.initial.input l.requests.items l.i l.input;
  counted : length l.requests.items ≡ l.i;
  capacity : l.fn.count ≤ vec_capacity l.requests;
  room : HasRoom l.self;
}
