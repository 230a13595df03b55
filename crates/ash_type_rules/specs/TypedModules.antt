-- The typed tree of a module, one case for each phrase. Items see each other in any order, so that each is typed in the
-- environment that all of them make.
use Rattle.std.specs.Prelude.{◌≡◌, ◌≤◌, ◌⊎◌, ◌+◌, ℕ, List, [], ◌∷◌, ◌++◌, Bool, true, false, Option, Some, None, map}
use Rattle.std.specs.Prelude.{length}
use Rattle.std.specs.Bool.{IsTrue}
use Rattle.std.specs.List.{AllByRecursion, AllZip, IsDistinct}
use Rattle.std.specs.Str.{bytes_eq}
use Rattle.ash_registrations.specs.Registrations as host
use Rattle.ash_tree.specs.Tree as written
use Rattle.ash_type_rules.specs.declared.types.Ty.{Ty}
use Rattle.ash_type_rules.specs.declared.types.Ty.TheVariants as ty
use Rattle.ash_typed.specs.declared.types.VarType.{VarType}
use Rattle.ash_typed.specs.declared.types.ObjectType.TheVariants.{Interface as OfInterface}
use Rattle.ash_type_rules.specs.TypeRules.{var_type, result_type}
use Rattle.ash_type_rules.specs.Environment.{Declared, Environment, named_in, inside, module_environment, with_locals}
use Rattle.ash_type_rules.specs.Typing.{IsVariableType, IsDeclaredType}
use Rattle.ash_type_rules.specs.ModuleDeclarations.{declarations, object_named, ty_in, result_in}
use Rattle.ash_typed.specs.ModuleLimits.{max_module_types, max_globals, max_class_members}
use Rattle.ash_typed.specs.StatementTree.{Initialization, Body}
use Rattle.ash_type_rules.specs.TypedStatements.{AreTypedStmts}
use Rattle.ash_typed.specs.Modules.{Variables, Function, Signature, Interface, Implementation, Class, Module}
use Rattle.ash_type_rules.specs.Scopes.{body_scope}
use Rattle.ash_type_rules.specs.Returning.{returns_in}
use Rattle.ash_tree.specs.Items.{Routine, routine_of, constructing, classes_of, interfaces_of, classes_before}
use Rattle.ash_tree.specs.Items.{functions_of, globals_of, fields_of, methods_of, constructors_of, variable_names}
use Rattle.ash_tree.specs.Items.{member_names, item_names, parameter_name}
use Rattle.ash_type_rules.specs.Implementations.{implemented}

-- names

-- No type and no function is registered by this name.
abbrev pub IsFree : List host.Registration → List ℕ → Type 0
IsFree registrations name = named_in registrations name ≡ None

-- types

-- A parameter or a result may be of this type: it is primitive, or a handle, since objects are passed by handles.
abbrev pub is_passed : Ty → Bool
is_passed ty.Bool = true
is_passed (ty.Integer k) = true
is_passed (ty.Handle o) = true
is_passed _ = false

abbrev pub IsPassed : Ty → Type 0
IsPassed of = is_passed of ≡ true

abbrev pub type_of_parameter : Environment → written.Parameter → VarType
type_of_parameter env p = var_type (ty_in env p.of)

abbrev pub parameter_of : Environment → written.Parameter → Declared
parameter_of env p = record { name = p.name; of = ty_in env p.of }

abbrev pub IsPassedParameter : Environment → written.Parameter → Type 0
IsPassedParameter env p = IsPassed (ty_in env p.of)

-- variables of a module or of a class

-- `T x = a, y(b), z` has these typed variables.
pub record AreTypedVariables (env : Environment) (v : written.Vars) (typed : Variables) : Type 0 where
  pub variable : IsVariableType (ty_in env v.of)
  pub line : typed.line ≡ (written.place_of_type v.of).line
  pub values : AllZip (IsDeclaredType env (ty_in env v.of)) v.decls typed.values

-- The fields of a class are the variables of each declaration, in source order.
abbrev pub AreFields : Environment → List written.Vars → List Initialization → Type 0
AreFields env [] typed = typed ≡ []
AreFields env (v ∷ vs) typed =
    (values : List Initialization) × (more : List Initialization) × IsVariableType (ty_in env v.of)
    × AllZip (IsDeclaredType env (ty_in env v.of)) v.decls values × AreFields env vs more × (typed ≡ values ++ more)

-- functions

-- Parameters and the variables of a body are one block.
abbrev pub IsTypedBody : Environment → Ty → List written.Stmt → Body → Type 0
IsTypedBody env of body typed = AreTypedStmts (body_scope env of) (written.stmts body) typed

-- A function, a method or a constructor that gives this type. Its parameters differ in name, and a function with a
-- result returns however its conditions turn out.
pub record IsRoutine (env : Environment) (of : Ty) (r : Routine) (typed : Function) : Type 0 where
  pub name : typed.name ≡ r.name
  pub line : typed.line ≡ r.place.line
  pub result : typed.result ≡ result_type of
  pub passed : AllByRecursion (IsPassedParameter env) r.parameters
  pub differ : IsDistinct bytes_eq (map parameter_name r.parameters)
  pub parameters : typed.parameters ≡ map (type_of_parameter env) r.parameters
  pub body : IsTypedBody (with_locals env (map (parameter_of env) r.parameters)) of r.body typed.body
  pub returns : (of ≡ ty.Void) ⊎ IsTrue (returns_in r.body)

-- A function without a result is void.
abbrev pub IsTypedResult : Environment → Option written.Named → Type 0
IsTypedResult env None = Unit {0}
IsTypedResult env (Some of) = IsPassed (ty_in env of)

-- `T f(..) { .. }` has this typed function.
pub record IsTypedFunction (env : Environment) (f : written.Function) (typed : Function) : Type 0 where
  pub passed : IsTypedResult env f.result
  pub routine : IsRoutine env (result_in env f.result) (routine_of f) typed

-- interfaces

abbrev pub signature_name : written.InterfaceMethod → List ℕ
signature_name m = m.name

-- `T m(..);` in an interface has this typed signature: its parameters differ in name.
pub record IsTypedSignature (env : Environment) (m : written.InterfaceMethod) (typed : Signature) : Type 0 where
  pub name : typed.name ≡ m.name
  pub passed_result : IsTypedResult env m.result
  pub result : typed.result ≡ result_type (result_in env m.result)
  pub passed : AllByRecursion (IsPassedParameter env) m.parameters
  pub differ : IsDistinct bytes_eq (map parameter_name m.parameters)
  pub parameters : typed.parameters ≡ map (type_of_parameter env) m.parameters

-- An interface after so many classes. It has at most `max_class_members` methods, which differ in name.
pub record IsTypedInterface (env : Environment) (i : written.Interface) (classes : ℕ) (typed : Interface) : Type 0 where
  pub name : typed.name ≡ i.name
  pub line : typed.line ≡ i.place.line
  pub before : typed.classes_before ≡ classes
  pub differ : IsDistinct bytes_eq (map signature_name i.methods)
  pub few : length i.methods ≤ max_class_members
  pub methods : AllZip (IsTypedSignature env) i.methods typed.methods

-- These are interfaces, each after so many classes.
abbrev pub AreTypedInterfaces : Environment → List written.Interface → List ℕ → List Interface → Type 0
AreTypedInterfaces env [] [] [] = Unit {0}
AreTypedInterfaces env (i ∷ is) (before ∷ befores) (typed ∷ more) =
    IsTypedInterface env i before typed × AreTypedInterfaces env is befores more
AreTypedInterfaces env _ _ _ = ⊥

-- classes

abbrev pub listed_name : written.TypeName → List ℕ
listed_name n = n.name

-- The class of this place lists an interface, and has each of its methods, with the same types.
pub record IsListed (env : Environment) (class : ℕ) (n : written.TypeName) (typed : Implementation) : Type 0 where
  pub interface : object_named env.registered env.declarations n.name ≡ Some (OfInterface typed.interface)
  pub methods : implemented env class typed.interface ≡ Some typed.methods

-- A constructor has its class's name.
pub record IsTypedConstructor (env : Environment) (class : List ℕ) (c : written.Constructor)
    (typed : Function) : Type 0 where
  pub named : c.name ≡ class
  pub routine : IsRoutine env ty.Void (constructing c) typed

-- A class has at most one constructor.
abbrev pub HasConstructor : Environment → List ℕ → List written.Constructor → Option Function → Type 0
HasConstructor env class [] None = Unit {0}
HasConstructor env class (c ∷ []) (Some typed) = IsTypedConstructor env class c typed
HasConstructor env class _ _ = ⊥

-- A class, of this place among those of the module. It has at most `max_class_members` fields and
-- methods, which differ in name.
pub record IsTypedClass (env : Environment) (place : ℕ) (c : written.Class) (typed : Class) : Type 0 where
  pub name : typed.name ≡ c.name
  pub line : typed.line ≡ c.place.line
  pub listed_once : IsDistinct bytes_eq (map listed_name c.interfaces)
  pub interfaces : AllZip (IsListed env place) c.interfaces typed.interfaces
  pub differ : IsDistinct bytes_eq (member_names c.members)
  pub few : length (member_names c.members) ≤ max_class_members
  pub fields : AreFields (inside env place) (fields_of c.members) typed.fields
  pub methods : AllZip (IsTypedFunction (inside env place)) (methods_of c.members) typed.methods
  pub constructor : HasConstructor (inside env place) c.name (constructors_of c.members) typed.constructor

-- These are classes, of which the first has this place.
abbrev pub AreTypedClasses : Environment → ℕ → List written.Class → List Class → Type 0
AreTypedClasses env place [] [] = Unit {0}
AreTypedClasses env place (c ∷ cs) (typed ∷ more) = IsTypedClass env place c typed
    × AreTypedClasses env (place + 1) cs more
AreTypedClasses env place _ _ = ⊥

-- modules

-- `environment registrations is` is what each item of a module sees.
abbrev pub environment : List host.Registration → List written.Item → Environment
environment registrations is = module_environment registrations (declarations registrations is)

-- A module, with these registrations. It has at most 256 classes and interfaces, and 256 variables. What it
-- declares differs in name, and has no registered name.
pub record IsTyped (registrations : List host.Registration) (is : List written.Item) (typed : Module) : Type 0 where
  pub differ : IsDistinct bytes_eq (item_names is)
  pub free : AllByRecursion (IsFree registrations) (item_names is)
  pub few_types : length (classes_of is) + length (interfaces_of is) ≤ max_module_types
  pub few_globals : length (variable_names (globals_of is)) ≤ max_globals
  pub interfaces : AreTypedInterfaces (environment registrations is) (interfaces_of is) (classes_before 0 is)
      typed.interfaces
  pub classes : AreTypedClasses (environment registrations is) 0 (classes_of is) typed.classes
  pub functions : AllZip (IsTypedFunction (environment registrations is)) (functions_of is) typed.functions
  pub globals : AllZip (AreTypedVariables (environment registrations is)) (globals_of is) typed.globals
