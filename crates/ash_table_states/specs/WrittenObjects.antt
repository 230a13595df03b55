-- The objects of a table as an image has them: the index of a module in place of its slot.
use Rattle.std.specs.Prelude.{ℕ, List, [], map, nat_eq, position, unwrap_or}
use Rattle.ash_host.specs.declared.host_object.HostObject.{Ghosts}
use Rattle.ash_host.specs.declared.element.ElementTag.{ElementTag}
use Rattle.ash_host.specs.declared.element.ElementTag.TheVariants as tags
use Rattle.ash_host.specs.Objects.{Elements, Bools, Ints, Uints, Int64s, Uint64s, Handles, Hosts}
use Rattle.ash_host.specs.Objects.{Plain, Script, Array, Host, LiveObjects}
use Rattle.ash_slots.specs.declared.body.Body.{Body}
use Rattle.ash_slots.specs.declared.body.Body.TheVariants as bodies
use Rattle.ash_table_states.specs.declared.parts.ListedObject.{ListedObject}

-- the index of the module in a slot, if these are the slots of modules; 0 if it is the slot of none
abbrev pub index_at : List ℕ → ℕ → ℕ
index_at slots slot = unwrap_or (position (nat_eq slot) slots) 0

-- what the elements of an array are
abbrev pub element_written : (ℕ → ℕ) → ElementTag → Elements ℕ
element_written index tags.Bool = Bools
element_written index tags.Int = Ints
element_written index tags.Uint = Uints
element_written index tags.Int64 = Int64s
element_written index tags.Uint64 = Uint64s
element_written index (tags.Class slot place) = Handles (index slot) place
element_written index (tags.Kind kind) = Hosts kind

module _ {B : Type 0} (G : Ghosts B) where
  -- the state of a host object; what is none has none
  abbrev pub state_in : Body B → List ℕ
  state_in (bodies.Script script) = []
  state_in (bodies.Array array) = []
  state_in (bodies.Host box) = G.state box

  -- what an object is
  abbrev pub body_written : (ℕ → ℕ) → Body B → Plain ℕ
  body_written index (bodies.Script script) = Script (index script.module) script.class script.fields
  body_written index (bodies.Array array) = Array (element_written index array.element) array.elements
  body_written index (bodies.Host box) = Host (G.kind_of box) (G.state box)

  -- objects by their numbers
  abbrev pub objects_written : (ℕ → ℕ) → List (ℕ × Body B) → LiveObjects ℕ
  objects_written index objects = map (λ (e : ℕ × Body B). (e.0, body_written index e.1)) objects

module _ {B : Type 0} where
  -- an object that is listed
  abbrev pub listed_entry : ListedObject B → ℕ × Body B
  listed_entry o = (o.number, o.body.now)

  abbrev pub listed_entries : List (ListedObject B) → List (ℕ × Body B)
  listed_entries objects = map listed_entry objects
