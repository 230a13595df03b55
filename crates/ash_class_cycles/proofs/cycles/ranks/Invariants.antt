use Rattle.std.proofs.Common.{length}
use Rattle.ash_class_cycles.specs.Marking.{rows_of, Goes}
use Rattle.ash_class_cycles.proofs.Ranked.{AreRanked}
use Rattle.ash_class_cycles.proofs.cycles.ranks.Given as goal

abbrev pub invariant-loop-first : goal.invariant-loop-first
invariant-loop-first l = AreRanked (Goes (rows_of l.referrers)) (length l.referrers) l.first l.ranks.items
