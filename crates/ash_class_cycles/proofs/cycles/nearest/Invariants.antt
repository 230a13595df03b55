use Rattle.std.proofs.Common.{ℕ, ◌<◌}
use Rattle.ash_class_cycles.specs.Marking.{rows_of, Goes, IsAt}
use Rattle.ash_class_cycles.proofs.cycles.nearest.Given as goal

abbrev pub invariant-loop-place : goal.invariant-loop-place
invariant-loop-place l =
    (other : ℕ) → other < l.place → Goes (rows_of l.referrers) l.from other → IsAt l.distances other l.distance → ⊥
