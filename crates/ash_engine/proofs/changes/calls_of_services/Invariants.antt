use Rattle.std.proofs.Common.{◌≡◌, ◌++◌, drop}
use Rattle.std.specs.List.{filter_map}
use Rattle.ash_engine.specs.NamedChanges.{service_called}
use Rattle.ash_engine.proofs.changes.calls_of_services.Given as goal

abbrev pub invariant-loop-event : goal.invariant-loop-event
invariant-loop-event l = l.places.items ++ filter_map service_called (drop l.event-index l.events)
    ≡ filter_map service_called l.events
