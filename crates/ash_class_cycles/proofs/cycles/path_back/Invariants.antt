use Rattle.ash_class_cycles.specs.Marking.{rows_of, Goes}
use Rattle.ash_class_cycles.proofs.PathsBack.{IsOnPath}
use Rattle.ash_class_cycles.proofs.cycles.path_back.Given as goal

abbrev pub invariant-steps : goal.invariant-steps
invariant-steps l = IsOnPath (Goes (rows_of l.referrers)) l.first l.first l.at l.remaining l.distances l.path.items

abbrev pub decreases-steps : goal.decreases-steps
decreases-steps l = l.remaining
