use Rattle.std.specs.List.{AllWithin}
use Rattle.ash_soundness.specs.WellFormed.{IsState}
use Rattle.ash_engine.proofs.boxes.boxes_fit.Given as goal

abbrev pub invariant-loop-object : goal.invariant-loop-object
invariant-loop-object g l = AllWithin (λ box. IsState (g.B.HostObject.state box)) l.boxes 0 l.object-index
