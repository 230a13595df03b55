use Rattle.std.proofs.Common.{take}
use Rattle.ash_class_cycles.specs.Marking.{Marks, GoesToOne, Goes, rows_of}
use Rattle.ash_class_cycles.proofs.distances.mark_level.Given as goal

abbrev pub invariant-loop-to : goal.invariant-loop-to
invariant-loop-to l =
    Marks (GoesToOne (Goes (rows_of l.referrers)) (take l.to-index l.level)) l.distance l.initial.distances.items
    l.distances.items l.initial.found.items l.found.items
