-- Which methods of a class an interface that it lists runs (AngelScript manual, "Interfaces").
use Rattle.std.specs.Prelude.{ℕ, ◌&&◌, List, [], ◌∷◌, Bool, true, false, Option, Some, None, slice_get, if◌then◌else◌}
use Rattle.std.specs.Option.{option_map_or}
use Rattle.ash_type_rules.specs.declared.types.Ty.{Ty}
use Rattle.ash_type_rules.specs.TypeRules.{is_same}
use Rattle.ash_type_rules.specs.Environment.{FunctionSignature, InterfaceSignature, ClassSignature, Environment, is_called}
use Rattle.ash_type_rules.specs.Environment.{first_from}

abbrev pub are_same : List Ty → List Ty → Bool
are_same [] [] = true
are_same (t ∷ ts) (u ∷ us) = is_same t u && are_same ts us
are_same _ _ = false

-- A method has the result and the parameters of another.
abbrev pub has_types_of : FunctionSignature → FunctionSignature → Bool
has_types_of f g = is_same f.result g.result && are_same f.parameters g.parameters

-- `matching f found` is the place of the method of a class that a method of an interface runs.
abbrev pub matching : FunctionSignature → Option (ℕ × FunctionSignature) → Option ℕ
matching f None = None
matching f (Some (place, g)) = if has_types_of f g then Some place else None

unfoldable pub method_for : List FunctionSignature → FunctionSignature → Option ℕ
method_for methods f = matching f (first_from (is_called f.name) 0 methods)

abbrev pub with_first : Option ℕ → Option (List ℕ) → Option (List ℕ)
with_first (Some place) (Some places) = Some (place ∷ places)
with_first _ _ = None

-- `methods_for methods fs` are the places of those for each method of an interface, where the class has them all.
abbrev pub methods_for : List FunctionSignature → List FunctionSignature → Option (List ℕ)
methods_for methods [] = Some []
methods_for methods (f ∷ fs) = with_first (method_for methods f) (methods_for methods fs)

abbrev pub methods_of_class : ClassSignature → List FunctionSignature
methods_of_class c = c.methods

abbrev pub methods_of_interface : InterfaceSignature → List FunctionSignature
methods_of_interface i = i.methods

-- The class of this place has the methods of the interface of that place.
unfoldable pub implemented : Environment → ℕ → ℕ → Option (List ℕ)
implemented env class interface =
    methods_for (option_map_or methods_of_class (slice_get env.declarations.classes class) [])
    (option_map_or methods_of_interface (slice_get env.declarations.interfaces interface) [])
