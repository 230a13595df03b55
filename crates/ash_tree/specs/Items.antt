-- These definitions say what the items of a module and the members of a class are by kind, in source order, and what
-- their names are.
use Rattle.std.specs.Prelude.{◌+◌, ℕ, List, [], ◌∷◌, ◌++◌, map}
use Rattle.ash_tree.specs.declared.tree.places.Position.{Position}
use Rattle.ash_tree.specs.Tree.{Decl, Vars, Stmt, Parameter, Function, Constructor, Member, AMethod, AField}
use Rattle.ash_tree.specs.Tree.{AConstructor, Class, Interface, Item, AClass, AnInterface, AFunction, AGlobal}

abbrev pub classes_of : List Item → List Class
classes_of [] = []
classes_of (AClass c ∷ is) = c ∷ classes_of is
classes_of (_ ∷ is) = classes_of is

abbrev pub interfaces_of : List Item → List Interface
interfaces_of [] = []
interfaces_of (AnInterface i ∷ is) = i ∷ interfaces_of is
interfaces_of (_ ∷ is) = interfaces_of is

-- `classes_before count items` says of each interface how many classes are declared before it, where there are `count`
-- before the first item.
abbrev pub classes_before : ℕ → List Item → List ℕ
classes_before count [] = []
classes_before count (AnInterface i ∷ is) = count ∷ classes_before count is
classes_before count (AClass c ∷ is) = classes_before (count + 1) is
classes_before count (_ ∷ is) = classes_before count is

abbrev pub functions_of : List Item → List Function
functions_of [] = []
functions_of (AFunction f ∷ is) = f ∷ functions_of is
functions_of (_ ∷ is) = functions_of is

abbrev pub globals_of : List Item → List Vars
globals_of [] = []
globals_of (AGlobal v ∷ is) = v ∷ globals_of is
globals_of (_ ∷ is) = globals_of is

abbrev pub fields_of : List Member → List Vars
fields_of [] = []
fields_of (AField v ∷ ms) = v ∷ fields_of ms
fields_of (_ ∷ ms) = fields_of ms

abbrev pub methods_of : List Member → List Function
methods_of [] = []
methods_of (AMethod f ∷ ms) = f ∷ methods_of ms
methods_of (_ ∷ ms) = methods_of ms

abbrev pub constructors_of : List Member → List Constructor
constructors_of [] = []
constructors_of (AConstructor c ∷ ms) = c ∷ constructors_of ms
constructors_of (_ ∷ ms) = constructors_of ms

abbrev pub decl_name : Decl → List ℕ
decl_name d = d.name

abbrev pub names_of : Vars → List (List ℕ)
names_of v = map decl_name v.decls

-- `variable_names vs` are the names of variables.
abbrev pub variable_names : List Vars → List (List ℕ)
variable_names [] = []
variable_names (v ∷ vs) = names_of v ++ variable_names vs

-- `member_names ms` are the names of a class's fields and methods.
abbrev pub member_names : List Member → List (List ℕ)
member_names [] = []
member_names (AField v ∷ ms) = names_of v ++ member_names ms
member_names (AMethod f ∷ ms) = f.name ∷ member_names ms
member_names (AConstructor c ∷ ms) = member_names ms

-- `item_names items` are the names of a module's classes, interfaces, functions and variables.
abbrev pub item_names : List Item → List (List ℕ)
item_names [] = []
item_names (AClass c ∷ is) = c.name ∷ item_names is
item_names (AnInterface i ∷ is) = i.name ∷ item_names is
item_names (AFunction f ∷ is) = f.name ∷ item_names is
item_names (AGlobal v ∷ is) = names_of v ++ item_names is

abbrev pub parameter_name : Parameter → List ℕ
parameter_name p = p.name

-- A routine is a function, a method or a constructor, as it is written after its result.
pub record Routine : Type 0 where
  pub place : Position
  pub name : List ℕ
  pub parameters : List Parameter
  pub body : List Stmt

abbrev pub routine_of : Function → Routine
routine_of f = record { place = f.place; name = f.name; parameters = f.parameters; body = f.body }

abbrev pub constructing : Constructor → Routine
constructing c = record { place = c.place; name = c.name; parameters = c.parameters; body = c.body }
