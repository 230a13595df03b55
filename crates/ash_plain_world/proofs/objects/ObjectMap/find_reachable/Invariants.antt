use Rattle.std.proofs.Common.{◌-◌, length}
use Rattle.ash_plain_world.proofs.Sweeps.{IsSearch}
use Rattle.ash_plain_world.proofs.objects.ObjectMap.find_reachable.Given as goal

abbrev pub invariant-loop-next : goal.invariant-loop-next
invariant-loop-next l = IsSearch l.self l.held l.found.keys l.next

abbrev pub decreases-loop-next : goal.decreases-loop-next
decreases-loop-next l = length l.self - l.next
