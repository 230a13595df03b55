-- The classes that objects are of, by their places in the source of a module.
use Rattle.std.specs.Prelude.{◌≡◌, ℕ, cond, nat_eq, List, Option, Some, None}
use Rattle.std.specs.Option.{option_and_then}
use Rattle.std.specs.Str.{bytes_eq}
use Rattle.ash_host.specs.Objects.{Plain, Script, Array, Host, object_at}
use Rattle.ash_meaning.specs.Activity.{Activity}
use Rattle.ash_meaning.specs.Runs.{look}
use Rattle.ash_slots.specs.declared.body.Body.{Body}
use Rattle.ash_slots.specs.declared.body.Body.TheVariants as bodies
use Rattle.ash_run_steps.specs.Guarded.{Guarded, plain}
use Rattle.ash_run_steps.specs.RunStates.{Names}

-- No other slot has the name of the module in this one: a machine knows a module by its slot, the meaning by its name.
abbrev pub IsAlone : Names → ℕ → Type 0
IsAlone names owner = (slot : ℕ) → names.modules slot ≡ names.modules owner → slot ≡ owner

-- the place of the class of an object, if it is of the module of this name
abbrev pub place_in : List ℕ → Plain (List ℕ) → Option ℕ
place_in name (Script owner place fields) = cond (bytes_eq owner name) (Some place) None
place_in name (Array of elements) = None
place_in name (Host kind state) = None

-- the same of an object of the table, if it is of the module in this slot
abbrev pub place_in_slot : {B : Type 0} → ℕ → Body B → Option ℕ
place_in_slot owner (bodies.Script script) = cond (nat_eq script.module owner) (Some script.class) None
place_in_slot owner (bodies.Array array) = None
place_in_slot owner (bodies.Host box) = None

abbrev pub place_at : List ℕ → ℕ → Activity → Option ℕ
place_at name number activity = option_and_then (place_in name) (object_at number (activity.world).objects)

-- Gives the place of the class of an object, if it is of the module of this name.
abbrev pub class_place : List ℕ → ℕ → Guarded (Option ℕ)
class_place name number = plain (look (place_at name number))
