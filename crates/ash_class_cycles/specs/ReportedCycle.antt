-- These definitions find the cycle of classes that is reported, as a reader would look for it: from the first class
-- that leads back to itself, by the first of its shortest paths.
use Rattle.std.specs.Prelude.{ℕ, zero, suc, Bool, false, ◌||◌, List, [], ◌∷◌, length, Option, Some, None, option_map}
use Rattle.std.specs.Prelude.{slice_get, if◌then◌else◌}
use Rattle.std.specs.Option.{option_or}
use Rattle.std.specs.List.{list_any}
use Rattle.std.specs.Str.{bytes_eq}
use Rattle.ash_tree.specs.Tree.{Element, HandleElement, Named, Object, Handle, Array, ArrayHandle, Member, AField}
use Rattle.ash_tree.specs.Tree.{Class}

-- whether one class refers to another

-- The name is the class's own, or that of an interface that it lists.
abbrev pub is_of : Class → List ℕ → Bool
is_of class name = bytes_eq class.name name || list_any (λ interface. bytes_eq interface.name name) class.interfaces

-- The elements are handles of a type that the class is of.
abbrev pub element_names : Class → Element → Bool
element_names class (HandleElement place name) = is_of class name
element_names class _ = false

-- The class is of the type, or of that of which the type is a handle; or the type is an array of such handles, or a
-- handle of such an array.
abbrev pub names : Class → Named → Bool
names class (Object place name) = is_of class name
names class (Handle place name) = is_of class name
names class (Array place element) = element_names class element
names class (ArrayHandle place element) = element_names class element
names class _ = false

-- The member is a field of such a type, so that it can hold objects of the class.
abbrev pub holds : Class → Member → Bool
holds class (AField vars) = names class vars.of
holds class _ = false

-- A member of the first class can hold objects of the second.
abbrev pub refers_to : Class → Class → Bool
refers_to from to = list_any (holds to) from.members

-- Both classes exist, and the first refers to the second.
abbrev pub refers : Option Class → Option Class → Bool
refers (Some from) (Some to) = refers_to from to
refers _ _ = false

-- The class at the first place refers to the class at the second.
abbrev pub refers_at : List Class → ℕ → ℕ → Bool
refers_at classes from to = refers (slice_get classes from) (slice_get classes to)

-- the search

-- `first_below value_at n` is the value at the first number below n that has one.
abbrev pub first_below : {A : Type 0} → (ℕ → Option A) → ℕ → Option A
first_below value_at zero = None
first_below value_at (suc n) = option_or (first_below value_at n) (value_at n)

-- `foremost goes places count from to` are the places in between on the first path with so many of them: from place to
-- place, to the first from which a path goes on.
abbrev pub foremost : (ℕ → ℕ → Bool) → (places count from to : ℕ) → Option (List ℕ)
foremost goes places zero from to = if goes from to then Some [] else None
foremost goes places (suc count) from to =
    first_below (λ next. if goes from next
    then option_map (λ others. next ∷ others) (foremost goes places count next to) else None) places

-- `shortest_back goes places place` is the first of the shortest paths back to a place: there are fewer places in
-- between than there are places.
abbrev pub shortest_back : (ℕ → ℕ → Bool) → (places place : ℕ) → Option (List ℕ)
shortest_back goes places place = first_below (λ count. foremost goes places count place place) places

-- `first_cycle goes places` is the first place from which a path leads back, and those in between.
abbrev pub first_cycle : (ℕ → ℕ → Bool) → ℕ → Option (ℕ × List ℕ)
first_cycle goes places =
    first_below (λ first. option_map (λ others. (first, others)) (shortest_back goes places first)) places

-- `reported_cycle classes` is the cycle of classes that is reported, by their places, or none where no class leads back
-- to itself.
abbrev pub reported_cycle : List Class → Option (ℕ × List ℕ)
reported_cycle classes = first_cycle (refers_at classes) (length classes)
