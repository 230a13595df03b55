-- This definition says what is registered.
use Rattle.std.specs.Prelude.{List, map}
use Rattle.ash_registrations.specs.declared.registrations.Registrations.{Registrations}
use Rattle.ash_registrations.specs.Registrations.{Registration, registration_of}

-- `registered r` are the accepted registrations, in order.
abbrev pub registered : Registrations → List Registration
registered r = map registration_of r.registrations.items
