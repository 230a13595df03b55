use Rattle.std.proofs.Common.{◌≡◌, ◌++◌, map}
use Rattle.ash_host.specs.declared.event.Event.TheVariants.{Dropped}
use Rattle.ash_plain_world.specs.Sweeping.{gone}
use Rattle.ash_plain_world.proofs.objects.push_dropped.Given as goal

abbrev pub invariant-loop-number : goal.invariant-loop-number
invariant-loop-number l = l.events.items ++ map Dropped (gone l.found.keys l.number-iterator) ≡ l.fn.events.items ++ map Dropped (gone l.found.keys l.entries.entries)
