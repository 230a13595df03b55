-- What may be stored in a variable (AngelScript manual, "Conversions" and "Interfaces").
use Rattle.std.specs.Prelude.{ℕ, Bool, true, false, List, slice_get, nat_eq}
use Rattle.std.specs.List.{list_any}
use Rattle.std.specs.Option.{option_map_or}
use Rattle.ash_typed.specs.declared.types.ObjectType.{ObjectType}
use Rattle.ash_typed.specs.declared.types.ObjectType.TheVariants.{Class as OfClass, Interface as OfInterface}
use Rattle.ash_type_rules.specs.declared.types.Ty.{Ty}
use Rattle.ash_type_rules.specs.declared.types.Ty.TheVariants as ty
use Rattle.ash_type_rules.specs.TypeRules.{is_same_object}
use Rattle.ash_type_rules.specs.Environment.{ClassSignature}

abbrev pub has_interface : ℕ → ClassSignature → Bool
has_interface interface c = list_any (nat_eq interface) c.interfaces

-- The class of the first place lists the interface of the second.
unfoldable pub lists : List ClassSignature → ℕ → ℕ → Bool
lists classes class interface = option_map_or (has_interface interface) (slice_get classes class) false

-- An object of the second type is one of the first.
abbrev pub is_of : List ClassSignature → ObjectType → ObjectType → Bool
is_of classes (OfInterface interface) (OfClass class) = lists classes class interface
is_of classes o p = is_same_object o p

-- Whether a value of the second type may be stored in a variable of the first. Nothing converts between `bool` and
-- integers. What is of an unknown type fits everywhere, since the fault is at the type.
abbrev pub fits_object : List ClassSignature → ObjectType → Ty → Bool
fits_object classes o (ty.Object p) = is_of classes o p
fits_object classes o (ty.Handle p) = is_of classes o p
fits_object classes o ty.Null = true
fits_object classes o ty.Unknown = true
fits_object classes _ _ = false

abbrev pub fits : List ClassSignature → Ty → Ty → Bool
fits classes ty.Unknown ty.Void = false
fits classes ty.Unknown _ = true
fits classes ty.Bool ty.Bool = true
fits classes ty.Bool ty.Unknown = true
fits classes (ty.Integer _) (ty.Integer _) = true
fits classes (ty.Integer _) ty.Unknown = true
fits classes (ty.Object o) t = fits_object classes o t
fits classes (ty.Handle o) t = fits_object classes o t
fits classes _ _ = false
