use Rattle.std.proofs.Common.{◌≡◌, ◌+◌, map}
use Rattle.ash_host.specs.Objects.{fields_to}
use Rattle.ash_plain_data.specs.ObjectViews.{entry_seen}
use Rattle.ash_plain_world.proofs.objects.fields_to.Given as goal

-- the count so far, and that of what is left
abbrev pub invariant-loop-object : goal.invariant-loop-object
invariant-loop-object l =
    l.count + fields_to l.number (map entry_seen l.object-iterator) ≡ fields_to l.number (map entry_seen l.entries.entries)
