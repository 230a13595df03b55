-- These definitions say which registrations are refused, with the first cause in the order in which they are tested,
-- and what an accepted one adds, and by which code a fault is reported.
use Rattle.std.specs.Prelude.{◌≡◌, ◌⊎◌, ℕ, Bool, true, false, not, ◌||◌, List, [], ◌∷◌, ◌++◌, Option, None, Some}
use Rattle.std.specs.Prelude.{Result, Err, OnOk, OnErr, IfErr, nat_le, count_by, codes}
use Rattle.std.specs.List.{list_any, filter_map}
use Rattle.std.specs.Option.{is_none, option_and_then, option_to_list}
use Rattle.std.specs.Str.{bytes_eq}
use Rattle.ash_tree.specs.declared.tree.types.Primitive.{Primitive}
use Rattle.ash_registry.specs.declared.fault.RegistryFault.{RegistryFault}
use Rattle.ash_registry.specs.declared.fault.RegistryFault.TheVariants.{UnknownType, NoService, BadDeclaration}
use Rattle.ash_registry.specs.declared.fault.RegistryFault.TheVariants.{ReservedName, NotPrimitive, NameTaken}
use Rattle.ash_registry.specs.declared.fault.RegistryFault.TheVariants.{FactoryTaken, TooMany, NoMemory}
use Rattle.ash_tree.specs.Tree.{Element, PrimElement, HandleElement, Named, Prim, Object, Handle, Array, ArrayHandle}
use Rattle.ash_tree.specs.Tree.{Signature, Property, Declaration, ASignature}
use Rattle.ash_tree.specs.Tree as tree
use Rattle.ash_registry.specs.Texts.{NameClass, NameText, ReservedText, OtherText}
use Rattle.ash_registrations.specs.Registrations.{HostFunction, Registration, TypeRegistration, FactoryRegistration}
use Rattle.ash_registrations.specs.Registrations.{MethodRegistration, PropertyRegistration, ServiceRegistration}
use Rattle.ash_registrations.specs.Registrations.{FunctionRegistration}
use Rattle.ash_registrations.specs.Registrations.{is_type, names_type, takes_kind, takes_name, is_factory_of}
use Rattle.ash_registrations.specs.Registrations.{is_member_of}
use Rattle.ash_registrations.specs.Registrations.{takes_member, takes_method, takes_property, takes_function}
use Rattle.ash_registrations.specs.Registrations.{is_service}
use Rattle.ash_registrations.specs.Registrations.{is_function}
use Rattle.ash_registrations.specs.Added.{is_too_long}
use Rattle.ash_registrations.specs.declared.adding.AddFault.{AddFault}
use Rattle.ash_registrations.specs.declared.adding.AddFault.TheVariants as add_faults

-- `fault_of added` is what a registration is refused with where it is not added for this fault.
abbrev pub fault_of : AddFault → RegistryFault
fault_of add_faults.TooLong = TooMany
fault_of add_faults.NoMemory = NoMemory

-- `code_of fault` is the code by which a fault is reported: its number and its name.
abbrev pub code_of : RegistryFault → List ℕ
code_of UnknownType = codes "203 UnknownType"
code_of NoService = codes "208 NoService"
code_of BadDeclaration = codes "201 BadDeclaration"
code_of ReservedName = codes "204 ReservedName"
code_of NotPrimitive = codes "206 NotPrimitive"
code_of NameTaken = codes "202 NameTaken"
code_of FactoryTaken = codes "207 FactoryTaken"
code_of TooMany = codes "205 TooMany"
code_of NoMemory = codes "509 NoMemory"

-- `cause test fault later` is the fault where the test holds, and else what is tested later.
abbrev pub cause : Bool → RegistryFault → Option RegistryFault → Option RegistryFault
cause true fault later = Some fault
cause false fault later = later

-- A type of this name is registered.
abbrev pub is_known : List Registration → List ℕ → Bool
is_known registrations name = list_any (names_type name) registrations

-- The elements of an array are handles of a type that is not registered.
abbrev pub is_unknown_element : List Registration → Element → Bool
is_unknown_element registrations (PrimElement _ _) = false
is_unknown_element registrations (HandleElement _ name) = not (is_known registrations name)

-- A declared type is an object type that is not registered, or an array of handles of one.
abbrev pub is_unknown : List Registration → Named → Bool
is_unknown registrations (Prim _ _) = false
is_unknown registrations (Object _ name) = not (is_known registrations name)
is_unknown registrations (Handle _ name) = not (is_known registrations name)
is_unknown registrations (Array _ element) = is_unknown_element registrations element
is_unknown registrations (ArrayHandle _ element) = is_unknown_element registrations element

-- `primitive_of named` is the declared type, where it is a primitive.
abbrev pub primitive_of : Named → Option Primitive
primitive_of (Prim _ primitive) = Some primitive
primitive_of _ = None

-- A declared type is no primitive.
abbrev pub is_object : Named → Bool
is_object named = is_none (primitive_of named)

-- `cause_in registrations types later` is the first cause that is in the declared types, and else what is tested later.
abbrev pub cause_in : List Registration → List Named → Option RegistryFault → Option RegistryFault
cause_in registrations types later =
    cause (list_any (is_unknown registrations) types) UnknownType (cause (list_any is_object types) NotPrimitive later)

-- `cause_of_many many registrations registration` is the cause that there are too many of a kind, or that the text is
-- too long.
abbrev pub cause_of_many : Bool → List Registration → Registration → Option RegistryFault
cause_of_many many registrations registration = cause (many || is_too_long registrations registration) TooMany None

-- `types_of s` are the types that a signature names, its result first.
abbrev pub types_of : Signature → List Named
types_of s = option_to_list s.result ++ s.parameters

-- `primitive_operation s` is a signature whose types are primitive.
abbrev pub primitive_operation : Signature → HostFunction
primitive_operation s = record {
  name = s.name;
  result = option_and_then primitive_of s.result;
  parameters = filter_map primitive_of s.parameters;
}

-- A registration is accepted where there is no cause to refuse it, and is then added; else it is refused with its
-- cause, or because memory ran out, and nothing changes.
pub record RegisteredIf {A : Type 0} (refusal : Option RegistryFault) (registration : List Registration)
    (result : Result A RegistryFault) (old new : List Registration) : Type 0 where
  pub accepted : OnOk result (refusal ≡ None)
  pub added : OnOk result (new ≡ old ++ registration)
  pub refused : IfErr result (λ fault. (refusal ≡ Some fault) ⊎ (fault ≡ NoMemory))
  pub unchanged : OnErr result (new ≡ old)

-- Where the first test finds a cause to refuse a registration, that is the answer, whether memory is there or not.
abbrev pub RefusedWithoutAllocating : {A : Type 0} → Bool → RegistryFault → Result A RegistryFault → Type 0
RefusedWithoutAllocating test fault result = test ≡ true → result ≡ Err fault

-- The registered types, the methods and properties of one, the services and their functions are at most so many.
abbrev pub max_registered_types : ℕ
max_registered_types = 256

abbrev pub max_registered_members : ℕ
max_registered_members = 32

abbrev pub max_services : ℕ
max_services = 16

abbrev pub max_registered_functions : ℕ
max_registered_functions = 256

-- A type has a name and a kind of its own, and there are not too many.
abbrev pub refusal_of_type : List Registration → List ℕ → NameClass → ℕ → Option RegistryFault
refusal_of_type registrations name OtherText kind = Some BadDeclaration
refusal_of_type registrations name ReservedText kind = Some ReservedName
refusal_of_type registrations name NameText kind =
    cause (list_any (takes_name name) registrations || list_any (takes_kind kind) registrations) NameTaken
    (cause_of_many (nat_le max_registered_types (count_by is_type registrations)) registrations
    (TypeRegistration name kind))

-- A service has a kind of its own, and there are not too many.
abbrev pub refusal_of_service : List Registration → ℕ → Option RegistryFault
refusal_of_service registrations kind =
    cause (list_any (takes_kind kind) registrations) NameTaken
    (cause_of_many (nat_le max_services (count_by is_service registrations)) registrations (ServiceRegistration kind))

-- A method is a function of primitives; a type's methods and properties have names of their own, its methods have
-- numbers of their own, and there are not too many of both.
abbrev pub refusal_of_signature : List Registration → List ℕ → ℕ → Signature → Option RegistryFault
refusal_of_signature registrations of id s =
    cause_in registrations (types_of s)
    (cause (list_any (takes_member of s.name) registrations || list_any (takes_method of id) registrations) NameTaken
    (cause_of_many (nat_le max_registered_members (count_by (is_member_of of) registrations)) registrations
    (MethodRegistration of id (primitive_operation s))))

-- What is declared for a method must be a function.
abbrev pub refusal_of_declared_method : List Registration → List ℕ → ℕ → Option Declaration → Option RegistryFault
refusal_of_declared_method registrations of id (Some (ASignature s)) = refusal_of_signature registrations of id s
refusal_of_declared_method registrations of id _ = Some BadDeclaration

-- The type of a method must be known.
abbrev pub refusal_of_method : List Registration → List ℕ → ℕ → Option Declaration → Option RegistryFault
refusal_of_method registrations of id declared =
    cause (not (is_known registrations of)) UnknownType (refusal_of_declared_method registrations of id declared)

-- `method_registration of id declared` is the registration of a method.
abbrev pub method_registration : List ℕ → ℕ → Option Declaration → List Registration
method_registration of id (Some (ASignature s)) = MethodRegistration of id (primitive_operation s) ∷ []
method_registration _ _ _ = []

-- A property has a name of its own among the type's members and a number of its own among its properties.
abbrev pub refusal_of_primitive : List Registration → List ℕ → ℕ → Primitive → List ℕ → Option RegistryFault
refusal_of_primitive registrations of id value name =
    cause (list_any (takes_member of name) registrations || list_any (takes_property of id) registrations) NameTaken
    (cause_of_many (nat_le max_registered_members (count_by (is_member_of of) registrations)) registrations
    (PropertyRegistration of id value name))

-- A property is of a primitive type.
abbrev pub refusal_of_value : List Registration → List ℕ → ℕ → Named → List ℕ → Option RegistryFault
refusal_of_value registrations of id (Prim _ value) name = refusal_of_primitive registrations of id value name
refusal_of_value registrations of id other name = cause (is_unknown registrations other) UnknownType (Some NotPrimitive)

-- What is declared for a property must be a property.
abbrev pub refusal_of_declared_property : List Registration → List ℕ → ℕ → Option Declaration → Option RegistryFault
refusal_of_declared_property registrations of id (Some (tree.AProperty p)) =
    refusal_of_value registrations of id p.of p.name
refusal_of_declared_property registrations of id _ = Some BadDeclaration

-- The type of a property must be known.
abbrev pub refusal_of_property : List Registration → List ℕ → ℕ → Option Declaration → Option RegistryFault
refusal_of_property registrations of id declared =
    cause (not (is_known registrations of)) UnknownType (refusal_of_declared_property registrations of id declared)

-- `value_registration of id named name` is the registration of a property of this type.
abbrev pub value_registration : List ℕ → ℕ → Named → List ℕ → List Registration
value_registration of id (Prim _ value) name = PropertyRegistration of id value name ∷ []
value_registration _ _ _ _ = []

-- `property_registration of id declared` is the registration of a property.
abbrev pub property_registration : List ℕ → ℕ → Option Declaration → List Registration
property_registration of id (Some (tree.AProperty p)) = value_registration of id p.of p.name
property_registration _ _ _ = []

-- A factory gives a handle of its own type, whatever its name.
abbrev pub gives_handle_of : List ℕ → Option Named → Bool
gives_handle_of of (Some (Handle _ name)) = bytes_eq of name
gives_handle_of _ _ = false

-- A type has one factory, which takes primitives.
abbrev pub refusal_of_constructor : List Registration → List ℕ → List Named → Option RegistryFault
refusal_of_constructor registrations of parameters =
    cause_in registrations parameters
    (cause (list_any (is_factory_of of) registrations) FactoryTaken
    (cause_of_many false registrations (FactoryRegistration of (filter_map primitive_of parameters))))

-- What is declared for a factory must be a function that gives a handle of the type.
abbrev pub refusal_of_declared_factory : List Registration → List ℕ → Option Declaration → Option RegistryFault
refusal_of_declared_factory registrations of (Some (ASignature s)) =
    cause (not (gives_handle_of of s.result)) BadDeclaration (refusal_of_constructor registrations of s.parameters)
refusal_of_declared_factory registrations of _ = Some BadDeclaration

-- The type of a factory must be known.
abbrev pub refusal_of_factory : List Registration → List ℕ → Option Declaration → Option RegistryFault
refusal_of_factory registrations of declared =
    cause (not (is_known registrations of)) UnknownType (refusal_of_declared_factory registrations of declared)

-- `factory_registration of declared` is the registration of a factory.
abbrev pub factory_registration : List ℕ → Option Declaration → List Registration
factory_registration of (Some (ASignature s)) = FactoryRegistration of (filter_map primitive_of s.parameters) ∷ []
factory_registration _ _ = []

-- A function of a service has a name of its own among types and functions and a number of its own in its service, and
-- there are not too many.
abbrev pub refusal_of_operation : List Registration → ℕ → ℕ → Signature → Option RegistryFault
refusal_of_operation registrations service id s =
    cause_in registrations (types_of s)
    (cause (list_any (takes_name s.name) registrations || list_any (takes_function service id) registrations) NameTaken
    (cause_of_many (nat_le max_registered_functions (count_by is_function registrations)) registrations
    (FunctionRegistration service id (primitive_operation s))))

-- What is declared for a function of a service must be a function.
abbrev pub refusal_of_declared_function : List Registration → ℕ → ℕ → Option Declaration → Option RegistryFault
refusal_of_declared_function registrations service id (Some (ASignature s)) =
    refusal_of_operation registrations service id s
refusal_of_declared_function registrations service id _ = Some BadDeclaration

-- The service of a function must be registered.
abbrev pub refusal_of_function : List Registration → ℕ → ℕ → Option Declaration → Option RegistryFault
refusal_of_function registrations service id declared =
    cause (nat_le (count_by is_service registrations) service) NoService
    (refusal_of_declared_function registrations service id declared)

-- `function_registration service id declared` is the registration of a function of a service.
abbrev pub function_registration : ℕ → ℕ → Option Declaration → List Registration
function_registration service id (Some (ASignature s)) = FunctionRegistration service id (primitive_operation s) ∷ []
function_registration _ _ _ = []
