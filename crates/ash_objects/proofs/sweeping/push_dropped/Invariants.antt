use Rattle.std.proofs.Common.{◌≡◌, ◌≤◌, ◌+◌, ◌++◌, drop, map, vec_len, vec_capacity}
use Rattle.ash_objects.specs.Collecting.{entry_mark, marked_since, marked_drops}
use Rattle.ash_objects.proofs.sweeping.push_dropped.Given as goal

abbrev pub invariant-loop-entry : goal.invariant-loop-entry
invariant-loop-entry g l = record {
  numbers : l.gone.items ++ marked_since l.settled (map entry_mark (drop l.entry-index l.taken))
      ≡ l.initial.gone.items ++ marked_since l.settled (map entry_mark l.taken);
  events : l.events.items ++ marked_drops (map entry_mark (drop l.entry-index l.taken))
      ≡ l.initial.events.items ++ marked_drops (map entry_mark l.taken);
  numbers_fit : vec_len l.gone ≤ vec_len l.initial.gone + l.entry-index;
  numbers_room : vec_capacity l.gone ≡ vec_capacity l.initial.gone;
  events_fit : vec_len l.events ≤ vec_len l.initial.events + l.entry-index;
  events_room : vec_capacity l.events ≡ vec_capacity l.initial.events;
}
