-- Typed modules are given here without where their parts lie in memory.
use Rattle.std.specs.Prelude.{ℕ, List, Option, map, option_map, string_bytes}
use Rattle.ash_typed.specs.declared.tree.items.Variables as variables
use Rattle.ash_typed.specs.declared.tree.items.Function as function
use Rattle.ash_typed.specs.declared.tree.items.Signature as signature
use Rattle.ash_typed.specs.declared.tree.items.Interface as interface
use Rattle.ash_typed.specs.declared.tree.items.Implementation as implementation
use Rattle.ash_typed.specs.declared.tree.items.Class as class
use Rattle.ash_typed.specs.declared.tree.items.Module as script
use Rattle.ash_typed.specs.declared.types.VarType.{VarType}
use Rattle.ash_typed.specs.StatementTree.{Initialization, Body}
use Rattle.ash_typed.specs.BodyViews.{body_of, value_of}

-- These variables of a module are declared together, with the line of their first token.
pub record Variables : Type 0 where
  pub line : ℕ
  pub values : List Initialization

-- A function has the line of its name, and what it gives where it gives a value.
pub record Function : Type 0 where
  pub name : List ℕ
  pub line : ℕ
  pub result : Option VarType
  pub parameters : List VarType
  pub body : Body

-- An interface declares a method with what it gives, where it gives a value.
pub record Signature : Type 0 where
  pub name : List ℕ
  pub result : Option VarType
  pub parameters : List VarType

-- An interface has the line of its name, and how many classes are declared before it.
pub record Interface : Type 0 where
  pub name : List ℕ
  pub line : ℕ
  pub classes_before : ℕ
  pub methods : List Signature

-- A class lists an interface, by its place, and has a method for each of the interface's, by its place.
pub record Implementation : Type 0 where
  pub interface : ℕ
  pub methods : List ℕ

-- A class has the line of its name.
pub record Class : Type 0 where
  pub name : List ℕ
  pub line : ℕ
  pub interfaces : List Implementation
  pub fields : List Initialization
  pub constructor : Option Function
  pub methods : List Function

-- A module has what it declares, each in source order.
pub record Module : Type 0 where
  pub interfaces : List Interface
  pub classes : List Class
  pub functions : List Function
  pub globals : List Variables

-- what the code's typed modules represent

abbrev pub variables_of : variables.Variables → Variables
variables_of v = record { line = v.line; values = map value_of v.initializations.items }

abbrev pub function_of : function.Function → Function
function_of f = record {
  name = string_bytes f.name;
  line = f.line;
  result = f.result;
  parameters = f.parameters.items;
  body = body_of f.body.items;
}

abbrev pub signature_of : signature.Signature → Signature
signature_of s = record { name = string_bytes s.name; result = s.result; parameters = s.parameters.items }

abbrev pub interface_of : interface.Interface → Interface
interface_of i = record {
  name = string_bytes i.name;
  line = i.line;
  classes_before = i.classes_before;
  methods = map signature_of i.methods.items;
}

abbrev pub implementation_of : implementation.Implementation → Implementation
implementation_of i = record { interface = i.interface; methods = i.methods.items }

abbrev pub class_of : class.Class → Class
class_of c = record {
  name = string_bytes c.name;
  line = c.line;
  interfaces = map implementation_of c.interfaces.items;
  fields = map value_of c.fields.items;
  constructor = option_map function_of c.constructor;
  methods = map function_of c.methods.items;
}

abbrev pub module_of : script.Module → Module
module_of m = record {
  interfaces = map interface_of m.interfaces.items;
  classes = map class_of m.classes.items;
  functions = map function_of m.functions.items;
  globals = map variables_of m.globals.items;
}
