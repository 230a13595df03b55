use Rattle.std.proofs.Common.{◌≡◌, ◌≤◌, drop, length, vec_len, vec_capacity}
use Rattle.ash_objects.specs.Restoring.{draw_boxes}
use Rattle.ash_objects.proofs.Drawing.{with_boxes}
use Rattle.ash_objects.proofs.restoring.take_boxes.Given as goal

abbrev pub invariant-loop-object : goal.invariant-loop-object
invariant-loop-object g l = record {
  drawn : draw_boxes g.B.HostObject l.objects l.initial.pool.items
      ≡ with_boxes l.boxes.items (draw_boxes g.B.HostObject (drop l.object-index l.objects) l.pool.items);
  many : vec_len l.boxes ≡ l.object-index;
  room : length l.objects ≤ vec_capacity l.boxes;
}
