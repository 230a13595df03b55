-- These definitions say what the accepted registrations are, and which names, kinds and numbers they take.
use Rattle.std.specs.Prelude.{ℕ, Bool, true, false, List, Option, None, Some, string_bytes, nat_eq, ◌&&◌, if◌then◌else◌}
use Rattle.std.specs.List.{list_any}
use Rattle.std.specs.Str.{bytes_eq}
use Rattle.ash_tree.specs.declared.tree.types.Primitive.{Primitive}
use Rattle.ash_registrations.specs.declared.registration.Registration as code
use Rattle.ash_registrations.specs.declared.registration.Registration.TheVariants as variants
use Rattle.ash_registrations.specs.declared.registration.HostFunction as operations

-- An operation is a function of primitives, which is void without a result.
pub record HostFunction : Type 0 where
  pub name : List ℕ
  pub result : Option Primitive
  pub parameters : List Primitive

-- A registration is what one accepted call of an embedding program registers.
pub data Registration : Type 0 where
  TypeRegistration : (name : List ℕ) (kind : ℕ) → Registration
  FactoryRegistration : (of : List ℕ) (parameters : List Primitive) → Registration
  MethodRegistration : (of : List ℕ) (id : ℕ) (operation : HostFunction) → Registration
  PropertyRegistration : (of : List ℕ) (id : ℕ) (value : Primitive) (name : List ℕ) → Registration
  ServiceRegistration : (kind : ℕ) → Registration
  FunctionRegistration : (service : ℕ) (id : ℕ) (operation : HostFunction) → Registration

-- `operation_of o` is the operation that the code's represents.
abbrev pub operation_of : operations.HostFunction → HostFunction
operation_of o = record { name = string_bytes o.name; result = o.result; parameters = o.parameters.items }

-- `registration_of r` is the registration that the code's represents.
abbrev pub registration_of : code.Registration → Registration
registration_of (variants.Type name kind) = TypeRegistration (string_bytes name) kind
registration_of (variants.Factory of parameters) = FactoryRegistration (string_bytes of) parameters.items
registration_of (variants.Method of id operation) = MethodRegistration (string_bytes of) id (operation_of operation)
registration_of (variants.Property of id value name) =
    PropertyRegistration (string_bytes of) id value (string_bytes name)
registration_of (variants.Service kind) = ServiceRegistration kind
registration_of (variants.Function service id operation) = FunctionRegistration service id (operation_of operation)

-- The registration is that of a type.
abbrev pub is_type : Registration → Bool
is_type (TypeRegistration _ _) = true
is_type _ = false

-- The registration is that of a type of this name.
abbrev pub names_type : List ℕ → Registration → Bool
names_type name (TypeRegistration other _) = bytes_eq name other
names_type _ _ = false

-- The registration takes this kind, by a type or a service.
abbrev pub takes_kind : ℕ → Registration → Bool
takes_kind kind (TypeRegistration _ other) = nat_eq kind other
takes_kind kind (ServiceRegistration other) = nat_eq kind other
takes_kind _ _ = false

-- The registration takes this name among types and functions.
abbrev pub takes_name : List ℕ → Registration → Bool
takes_name name (TypeRegistration other _) = bytes_eq name other
takes_name name (FunctionRegistration _ _ operation) = bytes_eq name operation.name
takes_name _ _ = false

-- The registration is the factory of this type.
abbrev pub is_factory_of : List ℕ → Registration → Bool
is_factory_of name (FactoryRegistration of _) = bytes_eq name of
is_factory_of _ _ = false

-- The registration is a method or property of this type.
abbrev pub is_member_of : List ℕ → Registration → Bool
is_member_of name (MethodRegistration of _ _) = bytes_eq name of
is_member_of name (PropertyRegistration of _ _ _) = bytes_eq name of
is_member_of _ _ = false

-- The registration takes this name among the methods and properties of the type.
abbrev pub takes_member : List ℕ → List ℕ → Registration → Bool
takes_member of name (MethodRegistration other _ operation) = bytes_eq of other && bytes_eq name operation.name
takes_member of name (PropertyRegistration other _ _ named) = bytes_eq of other && bytes_eq name named
takes_member _ _ _ = false

-- The registration takes this number among the methods of the type.
abbrev pub takes_method : List ℕ → ℕ → Registration → Bool
takes_method of id (MethodRegistration other taken _) = bytes_eq of other && nat_eq id taken
takes_method _ _ _ = false

-- The registration takes this number among the properties of the type.
abbrev pub takes_property : List ℕ → ℕ → Registration → Bool
takes_property of id (PropertyRegistration other taken _ _) = bytes_eq of other && nat_eq id taken
takes_property _ _ _ = false

-- The registration takes this number among the functions of the service.
abbrev pub takes_function : ℕ → ℕ → Registration → Bool
takes_function service id (FunctionRegistration other taken _) = nat_eq service other && nat_eq id taken
takes_function _ _ _ = false

-- The registration is that of a service.
abbrev pub is_service : Registration → Bool
is_service (ServiceRegistration _) = true
is_service _ = false

-- The registration is that of a function of a service.
abbrev pub is_function : Registration → Bool
is_function (FunctionRegistration _ _ _) = true
is_function _ = false

-- The kind of a type, if it has a factory among these registrations.
abbrev pub constructed_kind : List Registration → Registration → Option ℕ
constructed_kind registrations (TypeRegistration name kind) =
    if list_any (is_factory_of name) registrations then Some kind else None
constructed_kind registrations _ = None

-- `service_kind r` is the kind of a service.
unfoldable pub service_kind : Registration → Option ℕ
service_kind (ServiceRegistration kind) = Some kind
service_kind _ = None
