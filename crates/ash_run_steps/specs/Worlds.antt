-- The world that a run finds, and the world that it leaves.
use Rattle.std.specs.Prelude.{ℕ, List, map}
use Rattle.ash_host.specs.declared.event.Event.{Event}
use Rattle.ash_host.specs.declared.host_object.HostObject.{Ghosts}
use Rattle.ash_host.specs.declared.word.Word.{Word}
use Rattle.ash_host.specs.Records.{HostRecord}
use Rattle.ash_meaning.specs.Activity.{World}
use Rattle.ash_objects.specs.Table.{Table}
use Rattle.ash_object_ranks.specs.ShownTables.{objects_shown}
use Rattle.ash_run_steps.specs.RunStates.{Names, box_shown}

-- the world of a table, of globals, of what is held outside and of events, if hosts still answer this
abbrev pub world_of : {B : Type 0} (G : Ghosts B) → Names → List HostRecord → Table B → List Word → List ℕ
    → List Event → World
world_of G names answers table globals outside events = record {
  globals = globals;
  outside = outside;
  objects = objects_shown G names.modules table.objects;
  last = table.last;
  services = map G.state table.services;
  pool = map (box_shown G names) table.pool;
  answers = answers;
  events = events;
}
