use Rattle.std.proofs.Common.{subst}
use Rattle.ash_host.specs.Objects.{IsInOrder}
use Rattle.ash_plain_world.proofs.Entries.{seen_in_order}
use Rattle.ash_plain_world.proofs.objects.ObjectMap.iter.Goals as goal

pub returns-clause-in_order : goal.returns-clause-in_order
returns-clause-in_order c = subst IsInOrder c.self.view_is (seen_in_order c.self.inside.entries.entries c.iter.ensures.ordered)
