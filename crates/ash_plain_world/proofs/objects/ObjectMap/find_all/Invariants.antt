use Rattle.std.proofs.Common.{◌≡◌, drop}
use Rattle.ash_plain_world.specs.Sweeping.{with_found}
use Rattle.ash_plain_world.proofs.objects.ObjectMap.find_all.Given as goal

abbrev pub invariant-loop-number : goal.invariant-loop-number
invariant-loop-number l = with_found l.self (drop l.number-index l.numbers) l.found.keys ≡ with_found l.self l.numbers l.fn.found.keys
