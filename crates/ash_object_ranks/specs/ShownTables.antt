-- A table of objects as plain data, where modules have names in place of slots and a box is its kind and its state.
use Rattle.std.specs.Prelude.{ℕ, List, map}
use Rattle.ash_host.specs.declared.host_object.HostObject.{Ghosts}
use Rattle.ash_host.specs.Objects.{Elements, Bools, Ints, Uints, Int64s, Uint64s, Handles, Hosts}
use Rattle.ash_host.specs.Objects.{Plain, Script, Array, Host, LiveObjects}
use Rattle.ash_host.specs.declared.element.ElementTag.{ElementTag}
use Rattle.ash_host.specs.declared.element.ElementTag.TheVariants as tags
use Rattle.ash_slots.specs.declared.body.Body.{Body}
use Rattle.ash_slots.specs.declared.body.Body.TheVariants as bodies
use Rattle.ash_objects.specs.Table.{Living}

-- the names of the modules, by their slots
abbrev pub SlotNames : Type 0
SlotNames = ℕ → List ℕ

abbrev pub elements_shown : SlotNames → ElementTag → Elements (List ℕ)
elements_shown names tags.Bool = Bools
elements_shown names tags.Int = Ints
elements_shown names tags.Uint = Uints
elements_shown names tags.Int64 = Int64s
elements_shown names tags.Uint64 = Uint64s
elements_shown names (tags.Class slot index) = Handles (names slot) index
elements_shown names (tags.Kind kind) = Hosts kind

module _ {B : Type 0} (G : Ghosts B) (names : SlotNames) where
  abbrev pub body_shown : Body B → Plain (List ℕ)
  body_shown (bodies.Script script) = Script (names script.module) script.class script.fields
  body_shown (bodies.Array array) = Array (elements_shown names array.element) array.elements
  body_shown (bodies.Host box) = Host (G.kind_of box) (G.state box)

  -- the objects of a table as plain data
  abbrev pub objects_shown : List (ℕ × Living B) → LiveObjects (List ℕ)
  objects_shown objects = map (λ e. (e.0, body_shown (e.1).body)) objects
