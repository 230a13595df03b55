-- What the code's activities represent.
use Rattle.std.specs.Prelude.{map, string_bytes}
use Rattle.ash_plain_data.specs.CallViews.{record_seen}
use Rattle.ash_plain_world.specs.declared.activity.FreeBox as free_box
use Rattle.ash_plain_world.specs.declared.activity.World as world
use Rattle.ash_plain_world.specs.declared.activity.Frame as frame
use Rattle.ash_plain_world.specs.declared.activity.Activity as activity
use Rattle.ash_meaning.specs.Activity.{FreeBox, World, Frame, Activity}

abbrev pub box_seen : free_box.FreeBox → FreeBox
box_seen b = record { kind = b.kind; state = b.state.items }

abbrev pub world_seen : world.World → World
world_seen w = record {
  globals = w.globals.items;
  outside = w.outside.items;
  objects = w.objects;
  last = w.last;
  services = map (λ state. state.items) w.services.items;
  pool = map box_seen w.pool.items;
  answers =
      map record_seen w.answers.items;
  events = w.events.items;
}

abbrev pub frame_seen : frame.Frame → Frame
frame_seen f = record {
  function = string_bytes f.function;
  line = f.line;
  this = f.this;
  locals = f.locals.items;
  held = f.held.items;
}

unfoldable pub activity_seen : activity.Activity → Activity
activity_seen a = record {
  world = world_seen a.world;
  ticks = a.ticks;
  frame = frame_seen a.frame;
  callers = map frame_seen a.callers.items;
}
