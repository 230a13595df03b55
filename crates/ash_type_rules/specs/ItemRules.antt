-- The typing of a module, or its first fault. Items are walked in source order: an item's types and names in the order
-- of the text, then its body. The members of a class, and the variables of one declaration, are items of their own. Of
-- several faults of one name the one that comes first in the list of rules is reported.
use Rattle.std.specs.Prelude.{ℕ, ◌+◌, ◌-◌, List, [], ◌∷◌, ◌++◌, Bool, ◌||◌, Option, Some, None, Ok, map, length, nat_eq}
use Rattle.std.specs.Prelude.{nat_le, if◌then◌else◌}
use Rattle.std.specs.List.{list_any}
use Rattle.std.specs.Option.{is_some}
use Rattle.std.specs.Str.{bytes_eq}
use Rattle.ash_registrations.specs.Registrations as host
use Rattle.ash_tree.specs.Tree as written
use Rattle.ash_type_rules.specs.declared.fault.Rule.TheVariants.{UnknownType, NameTaken, TypeMismatch, NoReturn, Misplaced}
use Rattle.ash_type_rules.specs.declared.fault.Rule.TheVariants.{TooMany}
use Rattle.ash_type_rules.specs.declared.types.Ty.{Ty}
use Rattle.ash_type_rules.specs.declared.types.Ty.TheVariants as ty
use Rattle.ash_typed.specs.declared.types.ObjectType.{ObjectType}
use Rattle.ash_typed.specs.declared.types.ObjectType.TheVariants.{Class as OfClass, Interface as OfInterface}
use Rattle.ash_type_rules.specs.TypeRules.{result_type}
use Rattle.ash_type_rules.specs.TypingResult.{TypingResult, ◌>>=◌, broken}
use Rattle.ash_type_rules.specs.Environment.{Declared, type_declared, ModuleDeclarations, Environment, with_locals}
use Rattle.ash_type_rules.specs.Environment.{declares, named_in}
pub use Rattle.ash_type_rules.specs.Environment.{inside, module_environment}
use Rattle.ash_type_rules.specs.ExpressionRules.{is_void}
use Rattle.ash_type_rules.specs.ModuleDeclarations.{object_named, declarations}
pub use Rattle.ash_type_rules.specs.ModuleDeclarations.{ty_in}
use Rattle.ash_type_rules.specs.Declarations.{Initialization, check_decl}
pub use Rattle.ash_type_rules.specs.Declarations.{at_type, at_type_name, known_ty}
use Rattle.ash_typed.specs.StatementTree.{Body}
use Rattle.ash_typed.specs.ModuleLimits.{max_module_types, max_globals, max_class_members}
use Rattle.ash_type_rules.specs.StatementRules.{check_body}
use Rattle.ash_typed.specs.Modules.{Variables, Function, Signature, Interface, Implementation, Class, Module}
use Rattle.ash_type_rules.specs.Returning.{returns_in}
use Rattle.ash_tree.specs.Items.{Routine, routine_of, constructing}
use Rattle.ash_type_rules.specs.Implementations.{implemented}

-- names

-- The names of a module that are taken: those that are registered, and those of the items before; or those of the
-- members of a class. `room` is how many more variables of a module, or members of a class, there may be.
pub record Names : Type 0 where
  pub registered : List host.Registration
  pub taken : List (List ℕ)
  pub room : ℕ

abbrev pub is_taken : Names → List ℕ → Bool
is_taken names name = is_some (named_in names.registered name) || list_any (bytes_eq name) names.taken

-- The name at this offset was not taken, and is from now on.
unfoldable pub untaken : Names → ℕ → List ℕ → TypingResult Names
untaken names at name =
    if is_taken names name then broken NameTaken at
    else Ok (record { registered = names.registered; taken = names.taken ++ name ∷ []; room = names.room })

-- There may be one more, at this offset.
unfoldable pub one_more : Names → ℕ → TypingResult Names
one_more names at =
    if nat_eq names.room 0 then broken TooMany at
    else Ok (record { registered = names.registered; taken = names.taken; room = names.room - 1 })

abbrev pub placed : Names → ℕ → List ℕ → TypingResult Names
placed names at name = untaken names at name >>= λ next. one_more next at

-- types

-- A parameter or a result may be of this type: objects are passed by handles.
unfoldable pub passed_ty : written.Named → Ty → TypingResult Ty
passed_ty of ty.Unknown = broken UnknownType (at_type_name of)
passed_ty of (ty.Object o) = broken Misplaced (at_type of)
passed_ty of t = Ok t

abbrev pub check_result : Environment → Option written.Named → TypingResult Ty
check_result env None = Ok ty.Void
check_result env (Some of) = passed_ty of (ty_in env of)

-- variables of a module or of a class

-- A row has the variables so far.
pub record Row : Type 0 where
  pub names : Names
  pub variables : Variables

abbrev pub with_variable : Variables → Initialization → Variables
with_variable v value = record { line = v.line; values = v.values ++ value ∷ [] }

abbrev pub check_decls : Environment → ℕ → Ty → Row → List written.Decl → TypingResult Row
check_decls env at of row [] = Ok row
check_decls env at of row (d ∷ ds) =
    placed row.names d.place.at d.name >>= λ names. check_decl env at of d
    >>= λ value. check_decls env at of (record { names = names; variables = with_variable row.variables value }) ds

abbrev pub no_variables : written.Named → Variables
no_variables of = record { line = (written.place_of_type of).line; values = [] }

unfoldable pub check_vars : Environment → Names → written.Vars → TypingResult Row
check_vars env names v =
    known_ty v.of (ty_in env v.of)
    >>= λ of. check_decls env (at_type v.of) of (record { names = names; variables = no_variables v.of }) v.decls

-- functions

abbrev pub check_parameters : Environment → List Declared → List written.Parameter → TypingResult (List Declared)
check_parameters env before [] = Ok before
check_parameters env before (p ∷ ps) =
    passed_ty p.of (ty_in env p.of) >>= λ of. if list_any (declares p.name) before then broken NameTaken p.place.at
    else check_parameters env (before ++ record { name = p.name; of = of } ∷ []) ps

-- A function with a result has to return.
unfoldable pub returning : ℕ → Ty → List written.Stmt → Body → TypingResult Body
returning at of statements body = if is_void of || returns_in statements then Ok body else broken NoReturn at

unfoldable pub check_routine : Environment → Ty → Routine → TypingResult Function
check_routine env of c =
    check_parameters env [] c.parameters >>= λ locals. check_body (with_locals env locals) of c.body
    >>= λ body. returning c.place.at of c.body body
    >>= λ done. Ok (record {
      name = c.name;
      line = c.place.line;
      result = result_type of;
      parameters = map type_declared locals;
      body = done;
    })

-- interfaces

-- These are the names and the methods of an interface so far.
pub record InterfaceMembers : Type 0 where
  pub names : Names
  pub methods : List Signature

abbrev pub signature_of : List ℕ → Ty → List Declared → Signature
signature_of name of parameters =
    record { name = name; result = result_type of; parameters = map type_declared parameters }

-- An interface declares a method, after those before it.
unfoldable pub check_signature : Environment → InterfaceMembers → written.InterfaceMethod
    → TypingResult InterfaceMembers
check_signature env ss m =
    check_result env m.result >>= λ of. placed ss.names m.place.at m.name
    >>= λ names. check_parameters env [] m.parameters
    >>= λ parameters. Ok (record { names = names; methods = ss.methods ++ signature_of m.name of parameters ∷ [] })

abbrev pub check_signatures : Environment → InterfaceMembers → List written.InterfaceMethod
    → TypingResult InterfaceMembers
check_signatures env ss [] = Ok ss
check_signatures env ss (m ∷ ms) = check_signature env ss m >>= λ next. check_signatures env next ms

-- An interface has at most `max_class_members` methods.
abbrev pub no_signatures : InterfaceMembers
no_signatures = record { names = record { registered = []; taken = []; room = max_class_members }; methods = [] }

abbrev pub interface_of : written.Interface → ℕ → InterfaceMembers → Interface
interface_of i classes ss =
    record { name = i.name; line = i.place.line; classes_before = classes; methods = ss.methods }

-- An interface comes after so many classes.
unfoldable pub check_interface : Environment → ℕ → written.Interface → TypingResult Interface
check_interface env classes i = check_signatures env no_signatures i.methods >>= λ ss. Ok (interface_of i classes ss)

-- the interfaces that a class lists

-- The name of an interface is at this offset.
abbrev pub listed_at : ℕ → Option ObjectType → TypingResult ℕ
listed_at at (Some (OfInterface place)) = Ok place
listed_at at (Some (OfClass place)) = broken Misplaced at
listed_at at _ = broken UnknownType at

abbrev pub implemented_at : ℕ → ℕ → Option (List ℕ) → TypingResult Implementation
implemented_at at interface None = broken TypeMismatch at
implemented_at at interface (Some methods) = Ok (record { interface = interface; methods = methods })

-- These are the interfaces so far.
pub record Listed : Type 0 where
  pub names : Names
  pub interfaces : List Implementation

-- The class of this place lists an interface, after those before it.
unfoldable pub check_listed : Environment → ℕ → Listed → written.TypeName → TypingResult Listed
check_listed env class listed n =
    listed_at n.place.at (object_named env.registered env.declarations n.name)
    >>= λ interface. untaken listed.names n.place.at n.name
    >>= λ names. implemented_at n.place.at interface (implemented env class interface)
    >>= λ implementation. Ok (record { names = names; interfaces = listed.interfaces ++ implementation ∷ [] })

abbrev pub all_listed : Environment → ℕ → Listed → List written.TypeName → TypingResult Listed
all_listed env class listed [] = Ok listed
all_listed env class listed (n ∷ ns) = check_listed env class listed n >>= λ next. all_listed env class next ns

abbrev pub none_listed : Listed
none_listed = record { names = record { registered = []; taken = []; room = 0 }; interfaces = [] }

-- classes

-- These are the members of a class so far.
pub record Members : Type 0 where
  pub names : Names
  pub class : Class

abbrev pub with_fields : Class → Variables → Class
with_fields c v = record {
  name = c.name;
  line = c.line;
  interfaces = c.interfaces;
  fields = c.fields ++ v.values;
  constructor = c.constructor;
  methods = c.methods;
}

abbrev pub with_method : Class → Function → Class
with_method c f = record {
  name = c.name;
  line = c.line;
  interfaces = c.interfaces;
  fields = c.fields;
  constructor = c.constructor;
  methods = c.methods ++ f ∷ [];
}

abbrev pub with_constructor : Class → Function → Class
with_constructor c f = record {
  name = c.name;
  line = c.line;
  interfaces = c.interfaces;
  fields = c.fields;
  constructor = Some f;
  methods = c.methods;
}

-- A class has one constructor, which has its name.
unfoldable pub constructor_named : Class → written.Constructor → TypingResult Routine
constructor_named class c =
    if is_some class.constructor then broken NameTaken c.place.at
    else (if bytes_eq c.name class.name then Ok (constructing c) else broken Misplaced c.place.at)

unfoldable pub check_member : Environment → Members → written.Member → TypingResult Members
check_member env ms (written.AField v) =
    check_vars env ms.names v >>= λ row. Ok (record { names = row.names; class = with_fields ms.class row.variables })
check_member env ms (written.AMethod f) =
    check_result env f.result >>= λ of. placed ms.names f.place.at f.name
    >>= λ names. check_routine env of (routine_of f)
    >>= λ t. Ok (record { names = names; class = with_method ms.class t })
check_member env ms (written.AConstructor c) =
    constructor_named ms.class c >>= λ named. check_routine env ty.Void named
    >>= λ t. Ok (record { names = ms.names; class = with_constructor ms.class t })

abbrev pub check_members : Environment → Members → List written.Member → TypingResult Members
check_members env ms [] = Ok ms
check_members env ms (m ∷ rest) = check_member env ms m >>= λ next. check_members env next rest

-- A class has at most `max_class_members` fields and methods.
abbrev pub no_members : written.Class → List Implementation → Members
no_members c listed = record {
  names = record { registered = []; taken = []; room = max_class_members };
  class = record {
    name = c.name;
    line = c.place.line;
    interfaces = listed;
    fields = [];
    constructor = None;
    methods = [];
  };
}

abbrev pub class_of_members : Members → Class
class_of_members ms = ms.class

-- The class of this place is typed so.
unfoldable pub check_class : Environment → ℕ → written.Class → TypingResult Class
check_class env place c =
    all_listed env place none_listed c.interfaces
    >>= λ listed. check_members (inside env place) (no_members c listed.interfaces) c.members
    >>= λ ms. Ok (class_of_members ms)

-- modules

-- These are the items of a module so far.
pub record Walked : Type 0 where
  pub names : Names
  pub typed : Module

-- A module has at most `max_module_types` classes and interfaces.
unfoldable pub room_for_type : ℕ → Module → TypingResult ℕ
room_for_type at m =
    if nat_le max_module_types (length m.classes + length m.interfaces) then broken TooMany at
    else Ok (length m.classes)

abbrev pub with_interface : Module → Interface → Module
with_interface m i =
    record { interfaces = m.interfaces ++ i ∷ []; classes = m.classes; functions = m.functions; globals = m.globals }

abbrev pub with_class : Module → Class → Module
with_class m c =
    record { interfaces = m.interfaces; classes = m.classes ++ c ∷ []; functions = m.functions; globals = m.globals }

abbrev pub with_function : Module → Function → Module
with_function m f =
    record { interfaces = m.interfaces; classes = m.classes; functions = m.functions ++ f ∷ []; globals = m.globals }

abbrev pub with_globals : Module → Variables → Module
with_globals m v =
    record { interfaces = m.interfaces; classes = m.classes; functions = m.functions; globals = m.globals ++ v ∷ [] }

-- The next item is typed so.
unfoldable pub check_item : Environment → Walked → written.Item → TypingResult Walked
check_item env w (written.AClass c) =
    untaken w.names c.place.at c.name >>= λ names. room_for_type c.place.at w.typed >>= λ place. check_class env place c
    >>= λ t. Ok (record { names = names; typed = with_class w.typed t })
check_item env w (written.AnInterface i) =
    untaken w.names i.place.at i.name >>= λ names. room_for_type i.place.at w.typed
    >>= λ classes. check_interface env classes i
    >>= λ t. Ok (record { names = names; typed = with_interface w.typed t })
check_item env w (written.AFunction f) =
    check_result env f.result >>= λ of. untaken w.names f.place.at f.name
    >>= λ names. check_routine env of (routine_of f)
    >>= λ t. Ok (record { names = names; typed = with_function w.typed t })
check_item env w (written.AGlobal v) =
    check_vars env w.names v >>= λ row. Ok (record { names = row.names; typed = with_globals w.typed row.variables })

abbrev pub check_items : Environment → Walked → List written.Item → TypingResult Walked
check_items env w [] = Ok w
check_items env w (i ∷ is) = check_item env w i >>= λ next. check_items env next is

-- A module has at most `max_globals` variables.
abbrev pub nothing : List host.Registration → Walked
nothing registrations = record {
  names = record { registered = registrations; taken = []; room = max_globals };
  typed = record { interfaces = []; classes = []; functions = []; globals = [] };
}

abbrev pub module_walked : Walked → Module
module_walked w = w.typed

abbrev pub module_by : List host.Registration → ModuleDeclarations → List written.Item → TypingResult Module
module_by registrations h is =
    check_items (module_environment registrations h) (nothing registrations) is >>= λ w. Ok (module_walked w)

unfoldable pub check_module : List host.Registration → List written.Item → TypingResult Module
check_module registrations is = module_by registrations (declarations registrations is) is
