-- Steps on arrays, under the guards that a machine tests.
use Rattle.std.specs.Prelude.{ℕ, ◌&&◌, Bool, true, false, List, [], ◌∷◌}
use Rattle.std.specs.Option.{option_map_or}
use Rattle.ash_host.specs.declared.word.Word.{Word}
use Rattle.ash_host.specs.Objects.{Plain, Script, Array, Host, Elements, object_at}
use Rattle.ash_typed.specs.declared.tree.operations.ArrayMethod.TheVariants as methods
use Rattle.ash_meaning.specs.declared.exception.Exception.TheVariants as exceptions
use Rattle.ash_meaning.specs.Activity.{Activity}
use Rattle.ash_meaning.specs.ArraySteps as arrays
use Rattle.ash_meaning.specs.ObjectSteps as objects
use Rattle.ash_meaning.specs.Runs.{give as give_value, ◌>>=◌}
use Rattle.ash_objects.specs.declared.arrays.LengthFault.{LengthFault}
use Rattle.ash_objects.specs.declared.arrays.LengthFault.TheVariants as faults
use Rattle.ash_run_steps.specs.declared.arrays.Element.{Element}
use Rattle.ash_run_steps.specs.declared.stop.Stop.{Stop}
use Rattle.ash_run_steps.specs.declared.stop.Stop.TheVariants as stops
use Rattle.ash_run_steps.specs.Guarded.{Guarded, guarded, plain}
use Rattle.ash_run_steps.specs.GuardedSteps.{is_alive}

-- what ends a run if an array doesn't get a length
abbrev pub stop_of_length : LengthFault → Stop
stop_of_length faults.TooLong = stops.Raised exceptions.ArrayLimit
stop_of_length faults.NoMemory = stops.NoMemory

abbrev pub is_array_object : Plain (List ℕ) → Bool
is_array_object (Script owner place fields) = false
is_array_object (Array of elements) = true
is_array_object (Host kind state) = false

-- an array lives by this number
abbrev pub is_array : ℕ → Activity → Bool
is_array number activity = option_map_or is_array_object (object_at number (activity.world).objects) false

-- Gives the element of an array by an index: first null is tested, then the index.
abbrev pub element_at : Word → Word → Guarded Element
element_at array index = plain (objects.object_of array
    >>= (λ number. arrays.index_in number index
    >>= (λ place. give_value (record { number = number; place = place }))))

-- Constructs an array of so many elements, which is held.
abbrev pub construct_array : Elements (List ℕ) → Word → Guarded Word
construct_array of count = plain (arrays.construct_array of (count ∷ []))

-- Gives how many elements an array has, or whether it has none.
abbrev pub array_length : ℕ → Guarded Word
array_length number = plain (arrays.invoke_array methods.Length number [])

abbrev pub array_is_empty : ℕ → Guarded Word
array_is_empty number = plain (arrays.invoke_array methods.IsEmpty number [])

-- Gives an array so many elements. Those that are taken away are held on.
abbrev pub resize_array : ℕ → Word → Guarded (Unit {0})
resize_array number count = guarded (is_array number) (arrays.resize number (arrays.natural_of count))

-- Appends an element to an array.
abbrev pub insert_last : ℕ → Word → Guarded (Unit {0})
insert_last number word = guarded (λ activity. is_array number activity && is_alive word activity)
    (arrays.insert_last number word)

-- Takes the last element of an array away, which is held on.
abbrev pub remove_last : ℕ → Guarded (Unit {0})
remove_last number = guarded (is_array number) (arrays.remove_last number)
