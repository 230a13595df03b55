-- These definitions say what the text of the registrations is: one line for each, in order.
use Rattle.std.specs.Prelude.{ℕ, List, [], ◌∷◌, ◌++◌, Option, None, Some, codes}
use Rattle.std.specs.List.{flat_map, concat}
use Rattle.std.specs.Fmt.{decimal}
use Rattle.ash_tree.specs.declared.tree.types.Primitive.{Primitive}
use Rattle.ash_tree.specs.declared.tree.types.Primitive.TheVariants.{Bool, Int, Int64, Uint, Uint64}
use Rattle.ash_registrations.specs.Registrations.{HostFunction, Registration, TypeRegistration, FactoryRegistration}
use Rattle.ash_registrations.specs.Registrations.{MethodRegistration, PropertyRegistration, ServiceRegistration}
use Rattle.ash_registrations.specs.Registrations.{FunctionRegistration}

-- `primitive_text primitive` is the name of a primitive type.
abbrev pub primitive_text : Primitive → List ℕ
primitive_text Bool = codes "bool"
primitive_text Int = codes "int"
primitive_text Int64 = codes "int64"
primitive_text Uint = codes "uint"
primitive_text Uint64 = codes "uint64"

-- `result_text result` is the type of a result, which is `void` where there is none.
abbrev pub result_text : Option Primitive → List ℕ
result_text None = codes "void"
result_text (Some primitive) = primitive_text primitive

-- `more_parameters rest` are the parameters after the first, each after a comma.
unfoldable pub more_parameters : List Primitive → List ℕ
more_parameters rest = flat_map (λ primitive. codes "," ++ primitive_text primitive) rest

-- `parameters_text parameters` are the parameters, parted by a comma without a blank.
abbrev pub parameters_text : List Primitive → List ℕ
parameters_text [] = []
parameters_text (first ∷ rest) = primitive_text first ++ more_parameters rest

-- `operation_text o` is the operation as in `int add(int)`.
abbrev pub operation_text : HostFunction → List ℕ
operation_text o =
    concat (result_text o.result ∷ codes " " ∷ o.name ∷ codes "(" ∷ parameters_text o.parameters ∷ codes ")" ∷ [])

-- `line_of r` is the line of a registration, with its line feed.
abbrev pub line_of : Registration → List ℕ
line_of (TypeRegistration name kind) = concat (codes "type " ∷ name ∷ codes " " ∷ decimal kind ∷ codes "\n" ∷ [])
line_of (FactoryRegistration of parameters) =
    concat (codes "factory " ∷ of ∷ codes " (" ∷ parameters_text parameters ∷ codes ")\n" ∷ [])
line_of (MethodRegistration of id operation) =
    concat (codes "method " ∷ of ∷ codes " " ∷ decimal id ∷ codes " " ∷ operation_text operation ∷ codes "\n" ∷ [])
line_of (PropertyRegistration of id value name) =
    concat (codes "property " ∷ of ∷ codes " " ∷ decimal id ∷ codes " " ∷ primitive_text value ∷ codes " " ∷ name
    ∷ codes "\n" ∷ [])
line_of (ServiceRegistration kind) = concat (codes "service " ∷ decimal kind ∷ codes "\n" ∷ [])
line_of (FunctionRegistration service id operation) =
    concat (codes "function " ∷ decimal service ∷ codes " " ∷ decimal id ∷ codes " " ∷ operation_text operation
    ∷ codes "\n" ∷ [])

-- The whole text has at most so many bytes.
abbrev pub max_registered_text_bytes : ℕ
max_registered_text_bytes = 1048576

-- `text_of registrations` is the whole text.
abbrev pub text_of : List Registration → List ℕ
text_of registrations = flat_map line_of registrations
