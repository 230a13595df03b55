use Rattle.std.proofs.Common.{IsSome}
use Rattle.ash_state_tests.proofs.stored.hosts.written_after.Given as goal

abbrev pub invariant-loop-request : goal.invariant-loop-request
invariant-loop-request g l = IsSome l.engine.live
