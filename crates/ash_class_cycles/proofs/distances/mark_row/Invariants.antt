use Rattle.std.proofs.Common.{take, Contains}
use Rattle.ash_class_cycles.specs.Marking.{Marks}
use Rattle.ash_class_cycles.proofs.distances.mark_row.Given as goal

abbrev pub invariant-loop-place : goal.invariant-loop-place
invariant-loop-place l =
    Marks (λ p. Contains (take l.place-index l.row) p) l.distance l.initial.distances.items l.distances.items
    l.initial.found.items l.found.items
