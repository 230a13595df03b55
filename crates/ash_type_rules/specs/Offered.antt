-- What the accepted registrations of a registry offer to typed modules, by numbers.
use Rattle.std.specs.Prelude.{ℕ, ◌&&◌, List, Option, Some, None, find, filter_map, nat_eq, if◌then◌else◌}
use Rattle.std.specs.Option.{option_and_then}
use Rattle.std.specs.Str.{bytes_eq}
use Rattle.ash_tree.specs.declared.tree.types.Primitive.{Primitive}
use Rattle.ash_registrations.specs.Registrations as host
use Rattle.ash_typed.specs.Signatures.{HostSignature, HostSignatures}
use Rattle.ash_type_rules.specs.Environment.{name_of_kind}

abbrev pub host_signature : host.HostFunction → HostSignature
host_signature o = record { result = o.result; parameters = o.parameters }

-- `kind_in registration` is the kind of a registered type.
abbrev pub kind_in : host.Registration → Option ℕ
kind_in (host.TypeRegistration name kind) = Some kind
kind_in _ = None

-- `parameters_of_factory registration` is what the factory of a registered type takes.
abbrev pub parameters_of_factory : host.Registration → Option (List Primitive)
parameters_of_factory (host.FactoryRegistration of parameters) = Some parameters
parameters_of_factory _ = None

abbrev pub factory_at : List host.Registration → ℕ → host.Registration → Option (List Primitive)
factory_at registrations kind (host.TypeRegistration name other) =
    if nat_eq kind other then option_and_then parameters_of_factory (find (host.is_factory_of name) registrations)
    else None
factory_at registrations kind _ = None

-- The method of the type has this number.
abbrev pub method_at : List ℕ → ℕ → host.Registration → Option HostSignature
method_at of id (host.MethodRegistration other taken operation) =
    if bytes_eq of other && nat_eq id taken then Some (host_signature operation) else None
method_at of id _ = None

abbrev pub property_at : List ℕ → ℕ → host.Registration → Option Primitive
property_at of id (host.PropertyRegistration other taken value name) =
    if bytes_eq of other && nat_eq id taken then Some value else None
property_at of id _ = None

abbrev pub function_at : ℕ → ℕ → host.Registration → Option HostSignature
function_at service id (host.FunctionRegistration other taken operation) =
    if nat_eq service other && nat_eq id taken then Some (host_signature operation) else None
function_at service id _ = None

-- `offered registrations` is what is offered with these registrations.
abbrev pub offered : List host.Registration → HostSignatures
offered registrations = record {
  kinds = filter_map kind_in registrations;
  factories = λ kind. filter_map (factory_at registrations kind) registrations;
  methods = λ kind id. filter_map (method_at (name_of_kind registrations kind) id) registrations;
  properties = λ kind id. filter_map (property_at (name_of_kind registrations kind) id) registrations;
  functions = λ service id. filter_map (function_at service id) registrations;
}
