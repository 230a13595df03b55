-- This definition says what a registry shows.
use Rattle.std.specs.Prelude.{List}
use Rattle.ash_registry.specs.declared.registry.Registry.{Registry}
use Rattle.ash_registrations.specs.Registrations.{Registration}
use Rattle.ash_registrations.specs.Registered as table

-- `registered r` are the accepted registrations, in order.
abbrev pub registered : Registry → List Registration
registered r = table.registered r.table
