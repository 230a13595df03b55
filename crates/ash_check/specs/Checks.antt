-- What checking finds of a script: its typed module; or the first rule that is broken; else classes that could form
-- cycles.
use Rattle.std.specs.Prelude.{◌≡◌, ℕ, List, [], ◌∷◌, Option, Some, None, Result, Ok, Err, map, slice_get, string_bytes}
use Rattle.std.specs.List.{Contains}
use Rattle.std.specs.Option.{option_map_or}
use Rattle.ash_registrations.specs.Registrations.{Registration}
use Rattle.ash_tree.specs.Tree.{Class, Item}
use Rattle.ash_type_rules.specs.TypingResult.{TypingResult}
use Rattle.ash_typed.specs.Modules.{Module}
use Rattle.ash_type_rules.specs.ItemRules.{check_module}
use Rattle.ash_class_cycles.specs.ClassReferences.{RefersTo, classes_of}
use Rattle.ash_class_cycles.specs.ReportedCycle.{reported_cycle}
use Rattle.ash_check.specs.declared.faults.ScriptFault.TheVariants as faults
use Rattle.ash_check.specs.declared.faults.ScriptError.{ScriptError}
use Rattle.ash_check.specs.declared.faults.ScriptError.TheVariants as errors
use Rattle.ash_check.specs.ScriptFaults.{ScriptFault, Broken, Cyclic, script_fault_of}

-- the name of the class at this place
abbrev pub name_at : List Class → ℕ → List ℕ
name_at classes place = option_map_or (λ (class : Class). class.name) (slice_get classes place) []

-- the names of the classes on a cycle
abbrev pub names_of_cycle : List Class → ℕ × List ℕ → List (List ℕ)
names_of_cycle classes cycle = map (name_at classes) (cycle.0 ∷ cycle.1)

-- the typed module, unless there is a cycle
abbrev pub unless_cycle : List Class → Option (ℕ × List ℕ) → Module → Result Module ScriptFault
unless_cycle classes None typed = Ok typed
unless_cycle classes (Some cycle) typed = Err (Cyclic (names_of_cycle classes cycle))

abbrev pub checked_by : List Class → TypingResult Module → Result Module ScriptFault
checked_by classes (Ok typed) = unless_cycle classes (reported_cycle classes) typed
checked_by classes (Err fault) = Err (Broken fault)

-- The typed module of a script; or its first fault; or, where no rule is broken, the classes that could form a cycle.
unfoldable pub checked : List Registration → List Item → Result Module ScriptFault
checked registrations items = checked_by (classes_of items) (check_module registrations items)

-- how the code's check fails

-- The error is the fault that checking finds; or memory was refused, which says nothing of the script.
abbrev pub ReportsFault : Result Module ScriptFault → ScriptError → Type 0
ReportsFault answer (errors.Fault fault) = answer ≡ Err (script_fault_of fault)
ReportsFault answer errors.NoMemory = Unit {0}

-- a cycle as a reader of the script follows it

-- a class of the one name refers to a class of the other
abbrev pub HoldsNamed : List Class → List ℕ → List ℕ → Type 0
HoldsNamed classes from to =
    (one other : Class) × Contains classes one × (one.name ≡ from) × Contains classes other × (other.name ≡ to)
    × RefersTo one other

-- the class of each name holds the next one, and the last holds this one
abbrev pub LeadsTo : List Class → List ℕ → List (List ℕ) → List ℕ → Type 0
LeadsTo classes from [] to = HoldsNamed classes from to
LeadsTo classes from (next ∷ others) to = HoldsNamed classes from next × LeadsTo classes next others to

-- The classes of these names form a cycle, from the first one by the others back to it.
abbrev pub IsNamedCycle : List Class → List (List ℕ) → Type 0
IsNamedCycle classes [] = ⊥
IsNamedCycle classes (first ∷ others) = LeadsTo classes first others first

-- If the error is a cycle's, its names are those of a cycle.
abbrev pub IsNamedCycleIfCyclic : List Class → ScriptError → Type 0
IsNamedCycleIfCyclic classes (errors.Fault (faults.Cyclic names)) =
    IsNamedCycle classes (map string_bytes names.0.items)
IsNamedCycleIfCyclic classes (errors.Fault (faults.Broken fault)) = Unit {0}
IsNamedCycleIfCyclic classes errors.NoMemory = Unit {0}
