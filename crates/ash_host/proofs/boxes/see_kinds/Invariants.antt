use Rattle.std.specs.List.{AllWithin}
use Rattle.ash_host.specs.Saved.{StateFits}
use Rattle.ash_host.proofs.boxes.see_kinds.Given as goal

abbrev pub invariant-loop-object : goal.invariant-loop-object
invariant-loop-object g l = record { seen : AllWithin (StateFits g.B.HostObject) l.boxes 0 l.object-index }
