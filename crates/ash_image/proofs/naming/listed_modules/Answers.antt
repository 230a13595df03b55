use Rattle.std.proofs.Common.{refl}
use Rattle.ash_image.proofs.NamingLaws.{module_out, modules_out, no_entries, none_popped}
use Rattle.ash_image.proofs.naming.listed_modules.Goals as goal

pub loop-entry-preserved : goal.loop-entry-preserved
loop-entry-preserved c =
    module_out c.loop-entry.modules c.pop_first.new.self c.in-Some.entry c.loop-entry.stored.items c.push.new.self.items
    (record { name = c.in-Some.entry.0; source = c.in-Some.entry.1.source; globals = c.in-Some.entry.1.globals }) _
    c.in-Some.ensures.removal c.in_ok-push.ensures.items refl c.loop-entry.invariant

pub returns : goal.returns
returns c = record {
  listed = modules_out c.loop-entry.modules c.loop-entry.stored.items _ (no_entries c.loop-entry.modules.entries (none_popped c.pop_first.result _ c.pop_first.ensures.variant c.in_default.is)) c.loop-entry.invariant;
}
