-- What a module declares, as each of its items sees it: items see each other in any order. Of several items of one name
-- the first counts, and what is of an unknown type is reported where it is declared.
use Rattle.std.specs.Prelude.{ℕ, List, [], ◌∷◌, ◌++◌, Option, Some, None, map, find}
use Rattle.std.specs.Option.{option_and_then, option_map, option_or}
use Rattle.ash_registrations.specs.Registrations as host
use Rattle.ash_tree.specs.Tree as written
use Rattle.ash_typed.specs.declared.types.ObjectType.{ObjectType}
use Rattle.ash_tree.specs.declared.tree.types.Primitive.{Primitive}
use Rattle.ash_tree.specs.declared.tree.types.Primitive.TheVariants as primitives
use Rattle.ash_integers.specs.declared.int_type.IntType.TheVariants.{Int, Uint, Int64, Uint64}
use Rattle.ash_typed.specs.declared.types.Element.{Element}
use Rattle.ash_typed.specs.declared.types.Element.TheVariants as elements
use Rattle.ash_typed.specs.declared.types.ObjectType.TheVariants.{Class as OfClass, Interface as OfInterface}
use Rattle.ash_typed.specs.declared.types.ObjectType.TheVariants.{Host as OfHost, Array as OfArray}
use Rattle.ash_type_rules.specs.declared.types.Ty.{Ty}
use Rattle.ash_type_rules.specs.declared.types.Ty.TheVariants as ty
use Rattle.ash_type_rules.specs.TypeRules.{ty_of}
use Rattle.ash_type_rules.specs.Environment.{Declared, FunctionSignature, InterfaceSignature, ClassSignature}
use Rattle.ash_type_rules.specs.Environment.{ModuleDeclarations, first_from, is_class}
use Rattle.ash_type_rules.specs.Environment.{is_interface_named, Environment}
use Rattle.ash_tree.specs.Items.{classes_of, interfaces_of, functions_of, globals_of, fields_of, methods_of}
use Rattle.ash_tree.specs.Items.{constructors_of}

-- types by their names

abbrev pub class_type : List ClassSignature → List ℕ → Option ObjectType
class_type classes name = option_map (λ (found : ℕ × ClassSignature). OfClass found.0)
    (first_from (is_class name) 0 classes)

abbrev pub host_object : host.Registration → Option ObjectType
host_object (host.TypeRegistration name kind) = Some (OfHost kind)
host_object _ = None

abbrev pub interface_type : List InterfaceSignature → List ℕ → Option ObjectType
interface_type interfaces name =
    option_map (λ (found : ℕ × InterfaceSignature). OfInterface found.0)
    (first_from (is_interface_named name) 0 interfaces)

-- The name is that of a class of the module, else of an interface, else of a registered type.
unfoldable pub object_named : List host.Registration → ModuleDeclarations → List ℕ → Option ObjectType
object_named registrations named name =
    option_or (class_type named.classes name)
    (option_or (interface_type named.interfaces name)
    (option_and_then host_object (find (host.takes_name name) registrations)))

-- what the elements of an array are of

abbrev pub element_of : Primitive → Element
element_of primitives.Bool = elements.Bool
element_of primitives.Int = elements.Integer Int
element_of primitives.Int64 = elements.Integer Int64
element_of primitives.Uint = elements.Integer Uint
element_of primitives.Uint64 = elements.Integer Uint64

abbrev pub element_by : ObjectType → Option Element
element_by (OfClass class) = Some (elements.Class class)
element_by (OfInterface interface) = Some (elements.Interface interface)
element_by (OfHost kind) = Some (elements.Host kind)
element_by (OfArray of) = None

unfoldable pub element_named : List host.Registration → ModuleDeclarations → written.Element → Option Element
element_named registrations named (written.PrimElement p primitive) = Some (element_of primitive)
element_named registrations named (written.HandleElement p name) =
    option_and_then element_by (object_named registrations named name)

abbrev pub array_named : List host.Registration → ModuleDeclarations → written.Element → Option ObjectType
array_named registrations named of = option_map OfArray (element_named registrations named of)

abbrev pub object_ty : Option ObjectType → Ty
object_ty None = ty.Unknown
object_ty (Some o) = ty.Object o

abbrev pub handle_ty : Option ObjectType → Ty
handle_ty None = ty.Unknown
handle_ty (Some o) = ty.Handle o

-- `ty_named registrations named of` is the type that is written.
unfoldable pub ty_named : List host.Registration → ModuleDeclarations → written.Named → Ty
ty_named registrations named (written.Prim p primitive) = ty_of primitive
ty_named registrations named (written.Object p name) = object_ty (object_named registrations named name)
ty_named registrations named (written.Handle p name) = handle_ty (object_named registrations named name)
ty_named registrations named (written.Array p of) = object_ty (array_named registrations named of)
ty_named registrations named (written.ArrayHandle p of) = handle_ty (array_named registrations named of)

-- `result_named registrations named result` is what a function gives.
abbrev pub result_named : List host.Registration → ModuleDeclarations → Option written.Named → Ty
result_named registrations named None = ty.Void
result_named registrations named (Some of) = ty_named registrations named of

-- the same where they are seen

-- `ty_in env of` is the type that is written, where it is seen.
abbrev pub ty_in : Environment → written.Named → Ty
ty_in env of = ty_named env.registered env.declarations of

abbrev pub result_in : Environment → Option written.Named → Ty
result_in env of = result_named env.registered env.declarations of

-- what is declared

abbrev pub declared : Ty → written.Decl → Declared
declared of d = record { name = d.name; of = of }

abbrev pub variables : List host.Registration → ModuleDeclarations → written.Vars → List Declared
variables registrations named v = map (declared (ty_named registrations named v.of)) v.decls

-- `all_variables registrations named vs` are the variables of several declarations.
abbrev pub all_variables : List host.Registration → ModuleDeclarations → List written.Vars → List Declared
all_variables registrations named [] = []
all_variables registrations named (v ∷ vs) = variables registrations named v ++ all_variables registrations named vs

abbrev pub parameter_ty : List host.Registration → ModuleDeclarations → written.Parameter → Ty
parameter_ty registrations named p = ty_named registrations named p.of

abbrev pub function_declaration : List host.Registration → ModuleDeclarations → written.Function → FunctionSignature
function_declaration registrations named f = record {
  name = f.name;
  result = result_named registrations named f.result;
  parameters = map (parameter_ty registrations named) f.parameters;
}

abbrev pub signature_declaration : List host.Registration → ModuleDeclarations → written.InterfaceMethod
    → FunctionSignature
signature_declaration registrations named m = record {
  name = m.name;
  result = result_named registrations named m.result;
  parameters = map (parameter_ty registrations named) m.parameters;
}

abbrev pub interface_declaration : List host.Registration → ModuleDeclarations → written.Interface → InterfaceSignature
interface_declaration registrations named i = record {
  name = i.name;
  methods = map (signature_declaration registrations named) i.methods;
}

-- `constructed_by registrations named cs` is what the construction of an object takes: nothing where no constructor
-- is written.
abbrev pub constructed_by : List host.Registration → ModuleDeclarations → List written.Constructor → List Ty
constructed_by registrations named [] = []
constructed_by registrations named (c ∷ cs) = map (parameter_ty registrations named) c.parameters

-- the interfaces that a class lists

abbrev pub interface_place : Option ObjectType → Option ℕ
interface_place (Some (OfInterface place)) = Some place
interface_place _ = None

abbrev pub with_place : Option ℕ → List ℕ → List ℕ
with_place None places = places
with_place (Some place) places = place ∷ places

abbrev pub listed_in : List host.Registration → ModuleDeclarations → List written.TypeName → List ℕ
listed_in registrations named [] = []
listed_in registrations named (n ∷ ns) =
    with_place (interface_place (object_named registrations named n.name)) (listed_in registrations named ns)

abbrev pub class_declaration : List host.Registration → ModuleDeclarations → written.Class → ClassSignature
class_declaration registrations named c = record {
  name = c.name;
  interfaces = listed_in registrations named c.interfaces;
  fields = all_variables registrations named (fields_of c.members);
  methods = map (function_declaration registrations named) (methods_of c.members);
  parameters = constructed_by registrations named (constructors_of c.members);
}

-- a class and an interface of which only the name is known, since types name no more of them

abbrev pub named_class : written.Class → ClassSignature
named_class c = record { name = c.name; interfaces = []; fields = []; methods = []; parameters = [] }

abbrev pub named_interface : written.Interface → InterfaceSignature
named_interface i = record { name = i.name; methods = [] }

-- `names_in is` is what types name.
abbrev pub names_in : List written.Item → ModuleDeclarations
names_in is = record {
  interfaces = map named_interface (interfaces_of is);
  classes = map named_class (classes_of is);
  functions = [];
  globals = [];
}

abbrev pub declarations_by : List host.Registration → ModuleDeclarations → List written.Item → ModuleDeclarations
declarations_by registrations named is = record {
  interfaces = map (interface_declaration registrations named) (interfaces_of is);
  classes = map (class_declaration registrations named) (classes_of is);
  functions = map (function_declaration registrations named) (functions_of is);
  globals = all_variables registrations named (globals_of is);
}

unfoldable pub declarations : List host.Registration → List written.Item → ModuleDeclarations
declarations registrations is = declarations_by registrations (names_in is) is
