-- These definitions say what the classes of a module refer to.
use Rattle.std.specs.Prelude.{◌≡◌, ◌⊎◌, ℕ, List, Some, slice_get, map}
use Rattle.std.specs.Borrow.{Bor}
use Rattle.std.specs.List.{Any}
use Rattle.ash_tree.specs.declared.tree.items.Class as code
use Rattle.ash_tree.specs.TreeViews.{class_of}
use Rattle.ash_tree.specs.Tree.{Element, HandleElement, Named, Object, Handle, Array, ArrayHandle, Member, AField}
use Rattle.ash_tree.specs.Tree.{Class}
pub use Rattle.ash_tree.specs.Items.{classes_of}

-- The class is of the type of that name: the name is its own, or that of an interface that it lists.
abbrev pub IsOf : Class → List ℕ → Type 0
IsOf class name = (class.name ≡ name) ⊎ Any (λ interface. interface.name ≡ name) class.interfaces

-- The elements are handles of a type that the class is of.
abbrev pub ElementNames : Element → Class → Type 0
ElementNames (HandleElement place name) class = IsOf class name
ElementNames _ class = ⊥

-- The class is of the type, or of that of which the type is a handle; or the type is an array of such handles, or a
-- handle of such an array.
abbrev pub NamesClass : Named → Class → Type 0
NamesClass (Object place name) class = IsOf class name
NamesClass (Handle place name) class = IsOf class name
NamesClass (Array place element) class = ElementNames element class
NamesClass (ArrayHandle place element) class = ElementNames element class
NamesClass _ class = ⊥

-- The member is a field of such a type, so that it can hold objects of the class.
abbrev pub MemberHolds : Member → Class → Type 0
MemberHolds (AField vars) class = NamesClass vars.of class
MemberHolds _ class = ⊥

-- A member of the first class can hold objects of the second.
abbrev pub RefersTo : Class → Class → Type 0
RefersTo from to = Any (λ member. MemberHolds member to) from.members

-- The class at this place refers to the other class.
abbrev pub RefersAt : List Class → ℕ → Class → Type 0
RefersAt classes from other = (one : Class) × (slice_get classes from ≡ Some one) × RefersTo one other

-- The class at the first place refers to the class at the second.
abbrev pub DeclaredClassRefers : List Class → ℕ → ℕ → Type 0
DeclaredClassRefers classes from to = (other : Class) × (slice_get classes to ≡ Some other)
    × RefersAt classes from other

-- `borrowed_classes classes` are the classes that the borrowed ones represent.
abbrev pub borrowed_classes : List (Bor code.Class) → List Class
borrowed_classes classes = map (λ class. class_of class.now) classes
