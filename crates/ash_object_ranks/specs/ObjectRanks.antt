-- Ranks of objects, by the ranks of their classes: they fall along every reference.
use Rattle.std.specs.Prelude.{◌≡◌, ℕ, ◌+◌, ◌*◌, max, Bool, false, ◌||◌, nat_eq, List, [], ◌∷◌, length, filter}
use Rattle.std.specs.Prelude.{Some, slice_get, slice_index}
use Rattle.std.specs.List.{list_any, range_with_len}
use Rattle.std.specs.Option.{option_map_or}
use Rattle.ash_host.specs.Objects.{Elements, Handles, LiveObjects}
use Rattle.ash_typed.specs.ModuleLimits.{max_module_types}
use Rattle.ash_typed.specs.Modules.{Implementation, Class, Module}
use Rattle.ash_typed.specs.References.{AreRanks}
use Rattle.ash_typed.specs.Signatures.{HostSignatures, signatures_of}
use Rattle.ash_typed.specs.SoundModules.{IsSound}
use Rattle.ash_meaning.specs.Classes.{place_of_class, place_of_interface}
use Rattle.ash_soundness.specs.WellFormed.{Known, Shape, OfClass, OfElements, OfKind, shape_at}

-- modules whose classes have ranks

-- the ranks of the classes of each module, by the module's name
abbrev pub ClassRanks : Type 0
ClassRanks = List ℕ → List ℕ

-- Each module that is known is sound where the host offers this.
abbrev pub AreSound : HostSignatures → Known → Type 0
AreSound host modules = (name : List ℕ) (tree : Module) → modules name ≡ Some tree → IsSound host tree

-- The classes of each module that is known have ranks, which fall along what their fields hold.
abbrev pub HaveRanks : HostSignatures → Known → ClassRanks → Type 0
HaveRanks host modules ranks =
    (name : List ℕ) (tree : Module) → modules name ≡ Some tree → AreRanks (signatures_of host tree) (ranks name)

-- indexes in the source, where classes and interfaces count together

-- whether a class lists the interface with this index
abbrev pub lists_at : Module → ℕ → Class → Bool
lists_at m index c = list_any (λ (i : Implementation). nat_eq index (place_of_interface m i.interface)) c.interfaces

-- whether the class or the interface with this index is a type of the objects of a class: it is the class, or the class
-- lists it
abbrev pub is_type_of : Module → ℕ → ℕ → Bool
is_type_of m index class =
    nat_eq index (place_of_class m class) || option_map_or (lists_at m index) (slice_get m.classes class) false

-- the classes of the objects that have the class or the interface with this index as a type
abbrev pub classes_at : Module → ℕ → List ℕ
classes_at m index = filter (is_type_of m index) (range_with_len 0 (length m.classes))

-- ranks of objects

-- the greatest number that these have, or 0
abbrev pub greatest : (ℕ → ℕ) → List ℕ → ℕ
greatest number [] = 0
greatest number (x ∷ xs) = max (number x) (greatest number xs)

-- The rank of an object of a class, which leaves room for that of an array: a class that has a field of an array of
-- another class's handles refers to that class.
abbrev pub rank_in : List ℕ → ℕ → ℕ
rank_in ranks class = 2 * slice_index ranks class + 2

module _ (modules : Known) (ranks : ClassRanks) where
  -- the greatest rank of an object that a handle of the class or the interface with this index can be to
  abbrev pub rank_of_handles : List ℕ → ℕ → ℕ
  rank_of_handles owner index =
      option_map_or (λ (m : Module). greatest (rank_in (ranks owner)) (classes_at m index)) (modules owner) 0

  -- the greatest rank of an object that an element can be a handle to, or 0
  abbrev pub rank_of_elements : Elements (List ℕ) → ℕ
  rank_of_elements (Handles owner index) = rank_of_handles owner index
  rank_of_elements _ = 0

  -- The rank of an object: that of a host object is 0, that of an array one more than the greatest of what its elements
  -- can be handles to, and that of an object of a class is the class's own, since no other has its index.
  abbrev pub rank_of : Shape → ℕ
  rank_of (OfClass owner index) = rank_of_handles owner index
  rank_of (OfElements of) = rank_of_elements of + 1
  rank_of (OfKind kind) = 0

  -- the rank of the object that lives by a number
  abbrev pub rank_at : LiveObjects (List ℕ) → ℕ → ℕ
  rank_at all number = option_map_or rank_of (shape_at number all) 0

-- No rank of an object is as great.
abbrev pub rank_limit : ℕ
rank_limit = 2 * max_module_types + 4
