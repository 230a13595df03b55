use Rattle.std.proofs.Common.{◌-◌, length}
use Rattle.ash_class_cycles.specs.Marking.{Goes, rows_of}
use Rattle.ash_class_cycles.proofs.Rounds.{IsSearched}
use Rattle.ash_class_cycles.proofs.distances.distances_to.Given as goal

abbrev pub invariant-levels : goal.invariant-levels
invariant-levels l =
    IsSearched (Goes (rows_of l.referrers)) (length l.referrers) l.to l.between l.distances.items l.level.items

abbrev pub decreases-levels : goal.decreases-levels
decreases-levels l = length l.referrers - l.between
