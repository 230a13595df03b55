use Rattle.std.proofs.Common.{◌≡◌, drop}
use Rattle.ash_engine.specs.RestoredBoxes.{kind_missing}
use Rattle.ash_engine.proofs.boxes.kind_missing.Given as goal

abbrev pub invariant-loop-place : goal.invariant-loop-place
invariant-loop-place g l =
    kind_missing g.B.HostObject (drop l.place l.kinds) (drop l.place l.services) ≡ kind_missing g.B.HostObject l.kinds l.services
