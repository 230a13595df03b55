use Rattle.std.proofs.Common.{refl}
use Rattle.ash_image.specs.NamedViews.{modules_seen}
use Rattle.ash_image.proofs.NamingLaws.{object_out, objects_out, no_entries, none_popped}
use Rattle.ash_image.proofs.naming.indexed_objects.Goals as goal

pub loop-entry-preserved : goal.loop-entry-preserved
loop-entry-preserved c =
    object_out (modules_seen c.args.modules.now) c.loop-entry.objects c.pop_first.new.self c.in-Some.entry
    c.loop-entry.stored.items c.push.new.self.items (record { number = c.in-Some.entry.0; body = c.indexed_body-body.result }) _
    c.in-Some.ensures.removal c.in_ok-push.ensures.items refl c.indexed_body-body.ensures.indexed c.loop-entry.invariant

pub returns : goal.returns
returns c = record {
  indexed = objects_out (modules_seen c.args.modules.now) c.loop-entry.objects c.loop-entry.stored.items _ (no_entries c.loop-entry.objects.entries (none_popped c.pop_first.result _ c.pop_first.ensures.variant c.in_default.is))
      c.loop-entry.invariant;
}
