-- The objects of a state as a table takes them: the index of a module, which is its slot, in place of its name.
use Rattle.std.specs.Prelude.{◌≡◌, ℕ, List, map}
use Rattle.ash_host.specs.ElementTags.{element_of}
use Rattle.ash_host.specs.Objects.{Plain, Script, Array, Host}
use Rattle.ash_slots.specs.declared.body.Body.{Body}
use Rattle.ash_slots.specs.declared.body.Body.TheVariants as bodies
use Rattle.ash_objects.specs.declared.restoring.SavedHostObject.{SavedHostObject}
use Rattle.ash_objects.specs.declared.restoring.SavedObject.{SavedObject}
use Rattle.ash_requests.specs.States.{State}
use Rattle.ash_states.specs.Indexes.{index_in, entry_indexed}

-- what an object is
abbrev pub body_saved : Body SavedHostObject → Plain ℕ
body_saved (bodies.Script script) = Script script.module script.class script.fields
body_saved (bodies.Array array) = Array (element_of array.element) array.elements
body_saved (bodies.Host saved) = Host saved.kind saved.state.items

-- an object with its number
abbrev pub entry_saved : SavedObject → ℕ × Plain ℕ
entry_saved object = (object.number, body_saved object.body)

-- These are the objects of a state.
abbrev pub AreSavedOf : State → List SavedObject → Type 0
AreSavedOf s objects = map entry_saved objects ≡ map (entry_indexed (index_in s.modules)) s.objects
