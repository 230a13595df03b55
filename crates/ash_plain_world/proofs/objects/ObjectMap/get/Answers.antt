use Rattle.std.proofs.Common.{ap, ◌∙◌}
use Rattle.ash_host.specs.Objects.{object_at}
use Rattle.ash_plain_world.proofs.Entries.{found_at}
use Rattle.ash_plain_world.proofs.objects.ObjectMap.get.Goals as goal

pub returns : goal.returns
returns c =
    record { object = found_at c.args.number c.self.inside.entries.entries c.get.result c.get.ensures.value ∙ ap (object_at c.args.number) c.self.view_is }
