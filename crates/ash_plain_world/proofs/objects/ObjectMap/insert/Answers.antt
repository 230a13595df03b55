use Rattle.std.proofs.Common.{ap, ◌∙◌, map}
use Rattle.ash_host.specs.Objects.{with_at}
use Rattle.ash_plain_data.specs.ObjectViews.{object_seen, entry_seen}
use Rattle.ash_plain_world.proofs.Entries.{seen_with}
use Rattle.ash_plain_world.proofs.objects.ObjectMap.insert.Goals as goal

pub returns : goal.returns
returns c =
    record {
      inserted =
          ap (map entry_seen) c.in_ok-insert.ensures.entries
          ∙ seen_with c.args.number c.args.object c.self.inside.entries.entries
          ∙ ap (with_at c.args.number (object_seen c.args.object)) c.self.view_is;
    }
