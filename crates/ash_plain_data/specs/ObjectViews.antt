-- What the code's objects represent.
use Rattle.std.specs.Prelude.{ℕ, List, map, string_bytes}
use Rattle.ash_host.specs.Objects as plain
use Rattle.ash_host.specs.Objects.{Plain}
use Rattle.ash_plain_data.specs.declared.object.Elements as element
use Rattle.ash_plain_data.specs.declared.object.Elements.TheVariants as elements
use Rattle.ash_plain_data.specs.declared.object.Object as object
use Rattle.ash_plain_data.specs.declared.object.Object.TheVariants as objects

abbrev pub element_seen : element.Elements → plain.Elements (List ℕ)
element_seen elements.Bools = plain.Bools
element_seen elements.Ints = plain.Ints
element_seen elements.Uints = plain.Uints
element_seen elements.Int64s = plain.Int64s
element_seen elements.Uint64s = plain.Uint64s
element_seen (elements.Handles owner place) = plain.Handles (string_bytes owner) place
element_seen (elements.Hosts kind) = plain.Hosts kind

abbrev pub object_seen : object.Object → Plain (List ℕ)
object_seen (objects.Script owner place fields) = plain.Script (string_bytes owner) place fields.items
object_seen (objects.Array of all) = plain.Array (element_seen of) all.items
object_seen (objects.Host kind state) = plain.Host kind state.items

-- an object with its number
abbrev pub entry_seen : ℕ × object.Object → ℕ × Plain (List ℕ)
entry_seen entry = (entry.0, object_seen entry.1)
