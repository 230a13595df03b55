-- That each class and each interface of a sound module has an index of its own, by which dispatch and casts find it.
use Rattle.std.specs.Prelude.{◌≡◌, ◌<◌, ℕ, ◌+◌, length}
use Rattle.ash_typed.specs.Modules.{Module}
use Rattle.ash_meaning.specs.Classes.{place_of_class, place_of_interface}

-- two classes with the same index are the same
abbrev pub ClassesDiffer : Module → Type 0
ClassesDiffer m = (one other : ℕ) → place_of_class m one ≡ place_of_class m other → one ≡ other

-- two interfaces with the same index are the same
abbrev pub InterfacesDiffer : Module → Type 0
InterfacesDiffer m =
    (one other : ℕ)
    → one < length m.interfaces
    → other < length m.interfaces
    → place_of_interface m one ≡ place_of_interface m other
    → one ≡ other

-- a class and an interface never share an index
abbrev pub ClassesAreNoInterfaces : Module → Type 0
ClassesAreNoInterfaces m =
    (class interface : ℕ)
    → interface < length m.interfaces
    → place_of_class m class ≡ place_of_interface m interface
    → ⊥

-- Each index is below the number of classes and interfaces together, so that a table has room for all of them.
pub record AreBelow (m : Module) : Type 0 where
  pub classes : (class : ℕ) → class < length m.classes
      → place_of_class m class < length m.classes + length m.interfaces
  pub interfaces : (interface : ℕ) → interface < length m.interfaces
      → place_of_interface m interface < length m.classes + length m.interfaces
