-- What the code's locations represent.
use Rattle.ash_plain_world.specs.declared.locations.Location as location
use Rattle.ash_plain_world.specs.declared.locations.Location.TheVariants as locations
use Rattle.ash_meaning.specs.Locations.{Location, Local, Global, Part, Property}

abbrev pub location_seen : location.Location → Location
location_seen (locations.Local slot) = Local slot
location_seen (locations.Global place) = Global place
location_seen (locations.Part number place) = Part number place
location_seen (locations.Property number id of) = Property number id of
