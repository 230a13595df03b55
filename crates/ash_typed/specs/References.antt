-- These definitions say what the objects of a module's classes hold of one another, by the typed tree alone, and which
-- ranks fall along it.
use Rattle.std.specs.Prelude.{◌≡◌, ◌<◌, ℕ, length, List, Some, slice_get, slice_index, All}
use Rattle.std.specs.List.{Contains}
use Rattle.ash_typed.specs.declared.types.Element.{Element}
use Rattle.ash_typed.specs.declared.types.Element.TheVariants as elements
use Rattle.ash_typed.specs.declared.types.ObjectType.{ObjectType}
use Rattle.ash_typed.specs.declared.types.ObjectType.TheVariants as objects
use Rattle.ash_typed.specs.declared.types.VarType.{VarType}
use Rattle.ash_typed.specs.declared.types.VarType.TheVariants as vars
use Rattle.ash_typed.specs.Signatures.{ClassTypes, ModuleSignatures}

-- The class of the first place lists the interface of the second.
abbrev pub Lists : ModuleSignatures → ℕ → ℕ → Type 0
Lists s class interface = (c : ClassTypes) × (slice_get s.classes class ≡ Some c) × Contains c.interfaces interface

-- An element of the type can be an object of the class.
pub data ElementHolds (s : ModuleSignatures) (class : ℕ) : Element → Type 0 where
  of_class : ElementHolds s class (elements.Class class)
  of_interface : {interface : ℕ} → Lists s class interface → ElementHolds s class (elements.Interface interface)

-- An object of the type is one of the class, or an array that can hold one.
pub data ObjectHolds (s : ModuleSignatures) (class : ℕ) : ObjectType → Type 0 where
  is_class : ObjectHolds s class (objects.Class class)
  is_interface : {interface : ℕ} → Lists s class interface → ObjectHolds s class (objects.Interface interface)
  in_array : {of : Element} → ElementHolds s class of → ObjectHolds s class (objects.Array of)

-- A variable of the type can hold an object of the class.
pub data VariableHolds (s : ModuleSignatures) (class : ℕ) : VarType → Type 0 where
  object : {o : ObjectType} → ObjectHolds s class o → VariableHolds s class (vars.Object o)
  handle : {o : ObjectType} → ObjectHolds s class o → VariableHolds s class (vars.Handle o)

-- A field of the class of the first place can hold objects of the class of the second.
abbrev pub ClassRefers : ModuleSignatures → ℕ → ℕ → Type 0
ClassRefers s from to =
    (c : ClassTypes) × (of : VarType) × (slice_get s.classes from ≡ Some c) × Contains c.fields of
    × VariableHolds s to of

-- Each class has a rank below the number of classes, which is greater than that of each class that the class refers to,
-- so that objects never hold one another in a cycle.
pub record AreRanks (s : ModuleSignatures) (ranks : List ℕ) : Type 0 where
  pub count : length ranks ≡ length s.classes
  pub within : All (λ rank. rank < length s.classes) ranks
  pub fall : (from to : ℕ) → ClassRefers s from to → slice_index ranks to < slice_index ranks from
