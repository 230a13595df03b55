use Rattle.std.proofs.Common.{◌-◌, ◌≤◌, length}
use Rattle.ash_journal.specs.Reading.{bodies_of}
use Rattle.ash_inspect.specs.Known.{IsKnown}
use Rattle.ash_inspect.proofs.known.halve.Given as goal

abbrev pub invariant-loop-known : goal.invariant-loop-known
invariant-loop-known l = record {
  known : IsKnown l.known l.image (bodies_of l.records);
  within : l.bad ≤ length l.records;
}

abbrev pub decreases-loop-known : goal.decreases-loop-known
decreases-loop-known l = l.bad - l.known.records
