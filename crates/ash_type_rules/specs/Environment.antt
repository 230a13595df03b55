-- What an expression sees: what its module declares, what is registered, the class whose object runs, and the locals.
use Rattle.std.specs.Prelude.{ℕ, codes, ◌+◌, Bool, List, [], ◌∷◌, Option, Some, None, map, find, slice_get}
use Rattle.std.specs.Prelude.{if◌then◌else◌}
use Rattle.std.specs.Option.{option_and_then, option_map, option_or}
use Rattle.std.specs.Str.{bytes_eq}
use Rattle.ash_tree.specs.declared.tree.types.Primitive.{Primitive}
use Rattle.ash_registrations.specs.Registrations as host
use Rattle.ash_typed.specs.declared.types.VarType.{VarType}
use Rattle.ash_typed.specs.declared.types.ObjectType.{ObjectType}
use Rattle.ash_integers.specs.declared.int_type.IntType.TheVariants.{Uint}
use Rattle.ash_typed.specs.declared.types.Element.{Element}
use Rattle.ash_typed.specs.declared.types.ObjectType.TheVariants.{Class as OfClass, Interface as OfInterface}
use Rattle.ash_typed.specs.declared.types.ObjectType.TheVariants.{Host as OfHost, Array as OfArray}
use Rattle.ash_type_rules.specs.declared.types.Ty.{Ty}
use Rattle.ash_type_rules.specs.declared.types.Ty.TheVariants as ty
use Rattle.ash_typed.specs.declared.tree.operations.Variable.TheVariants as variables
use Rattle.ash_typed.specs.declared.tree.operations.ObjectMember.{ObjectMember}
use Rattle.ash_typed.specs.declared.tree.operations.ObjectMember.TheVariants as members
use Rattle.ash_typed.specs.declared.tree.operations.Method.{Method}
use Rattle.ash_typed.specs.declared.tree.operations.Method.TheVariants as methods
use Rattle.ash_typed.specs.declared.tree.operations.ArrayMethod.{ArrayMethod}
use Rattle.ash_typed.specs.declared.tree.operations.ArrayMethod.TheVariants as arrays
use Rattle.ash_typed.specs.declared.tree.operations.CallTarget.TheVariants as targets
use Rattle.ash_type_rules.specs.declared.forms.Callable.{Callable}
use Rattle.ash_type_rules.specs.declared.forms.Callable.TheVariants as callables
use Rattle.ash_type_rules.specs.TypeRules.{ty_of, ty_of_element, var_type, result_type}
use Rattle.ash_typed.specs.TypedTree.{Expr, This, Read, Stored, Held}
use Rattle.ash_type_rules.specs.Terms.{array_parameters}

-- A variable, a parameter or a field has a name and a type.
pub record Declared : Type 0 where
  pub name : List ℕ
  pub of : Ty

abbrev pub type_declared : Declared → VarType
type_declared v = var_type v.of

-- A function or a method has the result `Void` where it has none.
pub record FunctionSignature : Type 0 where
  pub name : List ℕ
  pub result : Ty
  pub parameters : List Ty

-- An interface has the methods that it declares.
pub record InterfaceSignature : Type 0 where
  pub name : List ℕ
  pub methods : List FunctionSignature

-- A class has the places of the interfaces that it lists, and the parameters that its construction takes.
pub record ClassSignature : Type 0 where
  pub name : List ℕ
  pub interfaces : List ℕ
  pub fields : List Declared
  pub methods : List FunctionSignature
  pub parameters : List Ty

-- A module declares these.
pub record ModuleDeclarations : Type 0 where
  pub interfaces : List InterfaceSignature
  pub classes : List ClassSignature
  pub functions : List FunctionSignature
  pub globals : List Declared

pub record Environment : Type 0 where
  pub declarations : ModuleDeclarations
  pub registered : List host.Registration
  pub this : Option ℕ
  pub locals : List Declared

abbrev pub with_locals : Environment → List Declared → Environment
with_locals env locals = record {
  declarations = env.declarations;
  registered = env.registered;
  this = env.this;
  locals = locals;
}

-- `module_environment registrations h` is what each item of a module sees.
abbrev pub module_environment : List host.Registration → ModuleDeclarations → Environment
module_environment registrations h = record { declarations = h; registered = registrations; this = None; locals = [] }

-- `inside env place` is what the members of the class of a place see.
abbrev pub inside : Environment → ℕ → Environment
inside env place = record {
  declarations = env.declarations;
  registered = env.registered;
  this = Some place;
  locals = [];
}

-- look-ups

-- `first_from test i xs` is the first that passes, with its place; the first of the list has place `i`.
abbrev pub first_from : {A : Type 0} → (A → Bool) → ℕ → List A → Option (ℕ × A)
first_from test i [] = None
first_from test i (x ∷ xs) = if test x then Some (i, x) else first_from test (i + 1) xs

-- `last_named name i found vs` is the place and the type of the last variable of a name, where `found` is the last one
-- before.
abbrev pub last_named : List ℕ → ℕ → Option (ℕ × Ty) → List Declared → Option (ℕ × Ty)
last_named name i found [] = found
last_named name i found (v ∷ vs) = last_named name (i + 1) (if bytes_eq name v.name then Some (i, v.of) else found) vs

abbrev pub declares : List ℕ → Declared → Bool
declares name v = bytes_eq name v.name

abbrev pub is_called : List ℕ → FunctionSignature → Bool
is_called name f = bytes_eq name f.name

abbrev pub is_class : List ℕ → ClassSignature → Bool
is_class name c = bytes_eq name c.name

abbrev pub is_interface_named : List ℕ → InterfaceSignature → Bool
is_interface_named name i = bytes_eq name i.name

-- `this_class env` is the class whose object runs.
abbrev pub this_class : Environment → Option (ℕ × ClassSignature)
this_class env =
    option_and_then (λ (i : ℕ). option_map (λ (c : ClassSignature). (i, c)) (slice_get env.declarations.classes i))
    env.this

-- A name alone is a local, the nearest one, else a field of the object that runs, else a global.

-- A variable has a tree and a type.
abbrev pub Known : Type 0
Known = Expr × Ty

abbrev pub local_in : List Declared → List ℕ → Option Known
local_in locals name =
    option_map (λ (found : ℕ × Ty). (Read (Stored (variables.Local found.0 (var_type found.1))), found.1))
    (last_named name 0 None locals)

-- `field_in class c name` is a field of the class of this place.
abbrev pub field_in : ℕ → ClassSignature → List ℕ → Option (ObjectMember × Ty)
field_in class c name =
    option_map (λ (found : ℕ × Declared). (members.Field class found.0 (var_type found.1.of), found.1.of))
    (first_from (declares name) 0 c.fields)

abbrev pub own_field_in : Environment → List ℕ → Option Known
own_field_in env name =
    option_and_then
    (λ (c : ℕ × ClassSignature).
    option_map (λ (found : ObjectMember × Ty). (Read (Held (This c.0) found.0), found.1)) (field_in c.0 c.1 name))
    (this_class env)

abbrev pub global_in : List Declared → List ℕ → Option Known
global_in globals name =
    option_map (λ (found : ℕ × Declared). (Read (Stored (variables.Global found.0 (var_type found.1.of))), found.1.of))
    (first_from (declares name) 0 globals)

unfoldable pub variable_in : Environment → List ℕ → Option Known
variable_in env name =
    option_or (local_in env.locals name) (option_or (own_field_in env name) (global_in env.declarations.globals name))

-- A name before brackets is a method of the object that runs, a function of the module, a registered function, a class,
-- or a registered type.

-- What is called has a target, what it gives, and what it takes; a type without factory takes nothing that can be said.
pub record Callee : Type 0 where
  pub target : Callable
  pub result : Ty
  pub parameters : Option (List Ty)

abbrev pub result_of : Option Primitive → Ty
result_of None = ty.Void
result_of (Some primitive) = ty_of primitive

abbrev pub own_method_in : Environment → List ℕ → Option Callee
own_method_in env name =
    option_and_then
    (λ (c : ℕ × ClassSignature).
    option_map (λ (found : ℕ × FunctionSignature).
    record {
      target = callables.OwnMethod c.0 found.0 (result_type found.1.result);
      result = found.1.result;
      parameters = Some found.1.parameters;
    }) (first_from (is_called name) 0 c.1.methods)) (this_class env)

abbrev pub function_in : List FunctionSignature → List ℕ → Option Callee
function_in functions name =
    option_map (λ (found : ℕ × FunctionSignature).
    record {
      target = callables.Target (targets.Function found.0 (result_type found.1.result));
      result = found.1.result;
      parameters = Some found.1.parameters;
    }) (first_from (is_called name) 0 functions)

abbrev pub service_function : host.Registration → Option Callee
service_function (host.FunctionRegistration service id operation) =
    Some (record {
      target = callables.Target (targets.Service service id (result_type (result_of operation.result)));
      result = result_of operation.result;
      parameters = Some (map ty_of operation.parameters);
    })
service_function _ = None

abbrev pub class_in : List ClassSignature → List ℕ → Option Callee
class_in classes name =
    option_map (λ (found : ℕ × ClassSignature).
    record {
      target = callables.Target (targets.Class found.0);
      result = ty.Handle (OfClass found.0);
      parameters = Some found.1.parameters;
    }) (first_from (is_class name) 0 classes)

abbrev pub factory_parameters : host.Registration → Option (List Ty)
factory_parameters (host.FactoryRegistration of parameters) = Some (map ty_of parameters)
factory_parameters _ = None

unfoldable pub factory_in : List host.Registration → List ℕ → Option (List Ty)
factory_in registrations of = option_and_then factory_parameters (find (host.is_factory_of of) registrations)

abbrev pub host_type : List host.Registration → host.Registration → Option Callee
host_type registrations (host.TypeRegistration name kind) = Some (record {
  target = callables.Target (targets.Host kind);
  result = ty.Handle (OfHost kind);
  parameters = factory_in registrations name;
})
host_type registrations _ = None

abbrev pub named_in : List host.Registration → List ℕ → Option host.Registration
named_in registrations name = find (host.takes_name name) registrations

-- What is called is neither a method nor a function of the module.
abbrev pub callee_beside : Environment → List ℕ → Option Callee
callee_beside env name =
    option_or (option_and_then service_function (named_in env.registered name))
    (option_or (class_in env.declarations.classes name)
    (option_and_then (host_type env.registered) (named_in env.registered name)))

unfoldable pub callee_in : Environment → List ℕ → Option Callee
callee_in env name =
    option_or (own_method_in env name)
    (option_or (function_in env.declarations.functions name) (callee_beside env name))

-- Members of an object.

abbrev pub type_name : Option host.Registration → List ℕ
type_name (Some (host.TypeRegistration name kind)) = name
type_name _ = []

-- `name_of_kind registrations kind` is the name of a registered type, by its kind.
unfoldable pub name_of_kind : List host.Registration → ℕ → List ℕ
name_of_kind registrations kind = type_name (find (host.takes_kind kind) registrations)

-- `host_member_in registrations kind name` is a method or a property of a registered type.
unfoldable pub host_member_in : List host.Registration → ℕ → List ℕ → Option host.Registration
host_member_in registrations kind name = find (host.takes_member (name_of_kind registrations kind) name) registrations

abbrev pub property : host.Registration → Option (ObjectMember × Ty)
property (host.PropertyRegistration of id value name) = Some (members.Property id (var_type (ty_of value)), ty_of value)
property _ = None

-- `member_in env o name` is what an object holds by this name; an interface and an array hold nothing that has a name.
unfoldable pub member_in : Environment → ObjectType → List ℕ → Option (ObjectMember × Ty)
member_in env (OfClass i) name =
    option_and_then (λ (c : ClassSignature). field_in i c name) (slice_get env.declarations.classes i)
member_in env (OfInterface i) name = None
member_in env (OfHost kind) name = option_and_then property (host_member_in env.registered kind name)
member_in env (OfArray of) name = None

-- A method has what it gives and what it takes.
pub record Invoked : Type 0 where
  pub method : Method
  pub result : Ty
  pub parameters : List Ty

abbrev pub host_method : host.Registration → Option Invoked
host_method (host.MethodRegistration of id operation) = Some (record {
  method = methods.Host id (result_type (result_of operation.result));
  result = result_of operation.result;
  parameters = map ty_of operation.parameters;
})
host_method _ = None

abbrev pub class_method : ℕ → List ℕ → ClassSignature → Option Invoked
class_method i name c =
    option_map (λ (found : ℕ × FunctionSignature).
    record {
      method = methods.Script i found.0 (result_type found.1.result);
      result = found.1.result;
      parameters = found.1.parameters;
    }) (first_from (is_called name) 0 c.methods)

unfoldable pub method_of_class : List ClassSignature → ℕ → List ℕ → Option Invoked
method_of_class classes i name = option_and_then (class_method i name) (slice_get classes i)

abbrev pub interface_method : ℕ → List ℕ → InterfaceSignature → Option Invoked
interface_method i name of =
    option_map (λ (found : ℕ × FunctionSignature).
    record {
      method = methods.Interface i found.0 (result_type found.1.result);
      result = found.1.result;
      parameters = found.1.parameters;
    }) (first_from (is_called name) 0 of.methods)

unfoldable pub method_of_interface : List InterfaceSignature → ℕ → List ℕ → Option Invoked
method_of_interface interfaces i name = option_and_then (interface_method i name) (slice_get interfaces i)

-- methods of arrays

abbrev pub array_method_name : ArrayMethod → List ℕ
array_method_name arrays.Length = codes "length"
array_method_name arrays.Resize = codes "resize"
array_method_name arrays.InsertLast = codes "insertLast"
array_method_name arrays.RemoveLast = codes "removeLast"
array_method_name arrays.IsEmpty = codes "isEmpty"

-- `array_method_of of method` is what a method of arrays gives and takes, where the elements are of a type.
abbrev pub array_method_of : Element → ArrayMethod → Invoked
array_method_of of arrays.Length =
    record { method = methods.Array arrays.Length; result = ty.Integer Uint; parameters = [] }
array_method_of of arrays.Resize =
    record { method = methods.Array arrays.Resize; result = ty.Void; parameters = ty.Integer Uint ∷ [] }
array_method_of of arrays.InsertLast =
    record { method = methods.Array arrays.InsertLast; result = ty.Void; parameters = ty_of_element of ∷ [] }
array_method_of of arrays.RemoveLast =
    record { method = methods.Array arrays.RemoveLast; result = ty.Void; parameters = [] }
array_method_of of arrays.IsEmpty = record { method = methods.Array arrays.IsEmpty; result = ty.Bool; parameters = [] }

abbrev pub is_array_method : List ℕ → ArrayMethod → Bool
is_array_method name m = bytes_eq name (array_method_name m)

unfoldable pub method_of_array : Element → List ℕ → Option Invoked
method_of_array of name =
    option_map (array_method_of of)
    (find (is_array_method name)
    (arrays.Length ∷ arrays.Resize ∷ arrays.InsertLast ∷ arrays.RemoveLast ∷ arrays.IsEmpty ∷ []))

unfoldable pub method_of_kind : List host.Registration → ℕ → List ℕ → Option Invoked
method_of_kind registrations kind name = option_and_then host_method (host_member_in registrations kind name)

unfoldable pub method_in : Environment → ObjectType → List ℕ → Option Invoked
method_in env (OfClass i) name = method_of_class env.declarations.classes i name
method_in env (OfInterface i) name = method_of_interface env.declarations.interfaces i name
method_in env (OfHost kind) name = method_of_kind env.registered kind name
method_in env (OfArray of) name = method_of_array of name

-- Objects are constructed.

abbrev pub class_built : ℕ → ClassSignature → Callee
class_built place c = record {
  target = callables.Target (targets.Class place);
  result = ty.Handle (OfClass place);
  parameters = Some c.parameters;
}

unfoldable pub class_construction : List ClassSignature → ℕ → Option Callee
class_construction classes place = option_map (class_built place) (slice_get classes place)

unfoldable pub kind_construction : List host.Registration → ℕ → Option Callee
kind_construction registrations kind =
    option_and_then (host_type registrations) (find (host.takes_kind kind) registrations)

abbrev pub array_built : Element → ℕ → Callee
array_built of count = record {
  target = callables.Target (targets.Array of);
  result = ty.Handle (OfArray of);
  parameters = Some (array_parameters count);
}

-- `construction env o count` is the construction of an object by so many arguments.
unfoldable pub construction : Environment → ObjectType → ℕ → Option Callee
construction env (OfClass place) count = class_construction env.declarations.classes place
construction env (OfInterface place) count = None
construction env (OfHost kind) count = kind_construction env.registered kind
construction env (OfArray of) count = Some (array_built of count)
