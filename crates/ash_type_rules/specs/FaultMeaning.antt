-- What is wrong where the fault of a module is reported, for each rule: a phrase that breaks the rule is there, with
-- what it sees. It is not said that nothing before is wrong: which fault is the first is in the definitions of the
-- walk.
use Rattle.std.specs.Prelude.{◌≡◌, ℕ, ◌+◌, Bool, true, false, ◌&&◌, ◌||◌, List, [], ◌∷◌, Option, Some, None, Ok}
use Rattle.std.specs.Prelude.{option_map, length, nat_eq, nat_le}
use Rattle.std.specs.List.{Any, list_any}
use Rattle.std.specs.Option.{is_some}
use Rattle.std.specs.Str.{bytes_eq}
use Rattle.ash_lex.specs.Tokens.{Meaning, name, reserved}
use Rattle.ash_lex.specs.declared.words.ReservedWord.TheVariants as words
use Rattle.ash_registrations.specs.Registrations.{Registration}
use Rattle.ash_tree.specs.Tree as written
use Rattle.ash_tree.specs.GrammarTokens.{Tokens}
use Rattle.ash_tree.specs.declared.tree.places.Position.{Position}
use Rattle.ash_tree.specs.declared.tree.operators.UnaryOp.{UnaryOp}
use Rattle.ash_tree.specs.declared.tree.operators.UnaryOp.TheVariants as unary
use Rattle.ash_tree.specs.declared.tree.operators.AssignOp.{AssignOp}
use Rattle.ash_tree.specs.declared.tree.statements.Label.{Label}
use Rattle.ash_tree.specs.declared.tree.statements.Label.TheVariants as labels
use Rattle.ash_integers.specs.declared.int_type.IntType.{IntType}
use Rattle.ash_typed.specs.ModuleLimits.{max_module_types}
use Rattle.ash_typed.specs.declared.types.ObjectType.{ObjectType}
use Rattle.ash_typed.specs.declared.types.ObjectType.TheVariants as objects
use Rattle.ash_type_rules.specs.declared.fault.Rule.{Rule}
use Rattle.ash_type_rules.specs.declared.fault.Rule.TheVariants as rules
use Rattle.ash_type_rules.specs.declared.fault.Fault.{Fault}
use Rattle.ash_type_rules.specs.declared.types.Ty.{Ty}
use Rattle.ash_type_rules.specs.declared.types.Ty.TheVariants as ty
use Rattle.ash_type_rules.specs.TypeRules.{is_interface, object_of}
use Rattle.ash_type_rules.specs.Environment.{Environment, Callee, Invoked, declares, variable_in, callee_in, member_in}
use Rattle.ash_type_rules.specs.Environment.{method_in, construction}
use Rattle.ash_type_rules.specs.ModuleDeclarations.{declarations, object_named, ty_named}
use Rattle.ash_type_rules.specs.ExpressionRules.{TypedExpr, is_void, is_assign, check_expr}
use Rattle.ash_type_rules.specs.Terms.{assignable, is_stored, array_parameters}
use Rattle.ash_type_rules.specs.Declarations.{at_type, at_type_name}
use Rattle.ash_type_rules.specs.Switches.{is_within}
use Rattle.ash_type_rules.specs.Labels.{is_same_constant, is_last}
use Rattle.ash_type_rules.specs.Scopes as scopes
use Rattle.ash_type_rules.specs.Scopes.{Scope}
use Rattle.ash_type_rules.specs.Returning.{returns_in}
use Rattle.ash_type_rules.specs.ItemRules.{is_taken}
use Rattle.ash_tree.specs.Items.{Routine, classes_of, interfaces_of}
use Rattle.ash_type_rules.specs.FaultPlaces.{breaks_at}
use Rattle.ash_type_rules.specs.Mismatches.{counts_after, Mismatches}
use Rattle.ash_type_rules.specs.Phrases.{names_before, names_of_members, names_of_methods, names_listed, Phrase, Expression}
use Rattle.ash_type_rules.specs.Phrases.{Suffixes, Initializer, Locals, Statement, Cases}
use Rattle.ash_type_rules.specs.Phrases.{Parameters, RoutinePhrase, Variables}
use Rattle.ash_type_rules.specs.Phrases.{Methods, Interfaces, ClassMembers, Items, Occurs}

-- `argument_count es` is how many arguments there are.
abbrev pub argument_count : written.Exprs → ℕ
argument_count written.no_expr = 0
argument_count (written.expr e es) = argument_count es + 1

-- `initial_count i` is how many arguments the object takes that a variable begins with.
abbrev pub initial_count : written.Initializer → ℕ
initial_count written.Default = 0
initial_count (written.Value e) = 1
initial_count (written.Arguments es) = argument_count (written.exprs es)

-- What is constructed takes something: of a type without factory nothing can be said.
abbrev pub is_constructible : Option Callee → Bool
is_constructible None = false
is_constructible (Some callee) = is_some callee.parameters

-- The name of a type means a class or an interface.
abbrev pub is_declared : Option ObjectType → Bool
is_declared (Some (objects.Class place)) = true
is_declared (Some (objects.Interface place)) = true
is_declared _ = false

-- names that are declared

-- A name that a phrase declares at an offset, and whether it may not be declared there.
pub record Naming : Type 0 where
  pub at : ℕ
  pub text : List ℕ
  pub is_refused : Bool

abbrev pub naming : Position → List ℕ → Bool → Option Naming
naming p text b = Some (record { at = p.at; text = text; is_refused = b })

-- A constructor is among the members before.
abbrev pub has_constructor : List written.Member → Bool
has_constructor [] = false
has_constructor (written.AConstructor c ∷ ms) = true
has_constructor (written.AMethod f ∷ ms) = has_constructor ms
has_constructor (written.AField v ∷ ms) = has_constructor ms

-- What the first of these declares, and whether the name is taken: by something registered or an item before, a member
-- before, a method of the interface before, an interface that the class lists before, a parameter before, or a local of
-- the block. A class has one constructor.
abbrev pub named_by : Phrase → Option Naming
named_by (Items env before (written.AClass c ∷ is)) =
    naming c.place c.name (is_taken (names_before env.registered before) c.name)
named_by (Items env before (written.AnInterface i ∷ is)) =
    naming i.place i.name (is_taken (names_before env.registered before) i.name)
named_by (Items env before (written.AFunction f ∷ is)) =
    naming f.place f.name (is_taken (names_before env.registered before) f.name)
named_by (Variables env at of names (d ∷ ds)) = naming d.place d.name (is_taken names d.name)
named_by (ClassMembers env class before (written.AMethod f ∷ ms)) =
    naming f.place f.name (is_taken (names_of_members before) f.name)
named_by (ClassMembers env class before (written.AConstructor c ∷ ms)) = naming c.place c.name (has_constructor before)
named_by (Methods env before (m ∷ ms)) = naming m.place m.name (is_taken (names_of_methods before) m.name)
named_by (Interfaces env place before (n ∷ ns)) = naming n.place n.name (is_taken (names_listed before) n.name)
named_by (Parameters env before (x ∷ xs)) = naming x.place x.name (list_any (declares x.name) before)
named_by (Locals scope at of (d ∷ ds)) = naming d.place d.name (scopes.is_taken scope d.name)
named_by _ = None

-- What the first of these declares, where there may be only so many, and whether there are that many before it:
-- `max_module_types` classes and interfaces and `max_globals` variables in a module, `max_class_members` members of a
-- class or methods of an interface.
abbrev pub counted_by : Phrase → Option Naming
counted_by (Items env before (written.AClass c ∷ is)) =
    naming c.place c.name (nat_le max_module_types (length (classes_of before) + length (interfaces_of before)))
counted_by (Items env before (written.AnInterface i ∷ is)) =
    naming i.place i.name (nat_le max_module_types (length (classes_of before) + length (interfaces_of before)))
counted_by (Variables env at of names (d ∷ ds)) = naming d.place d.name (nat_eq names.room 0)
counted_by (ClassMembers env class before (written.AMethod f ∷ ms)) =
    naming f.place f.name (nat_eq (names_of_members before).room 0)
counted_by (Methods env before (m ∷ ms)) = naming m.place m.name (nat_eq (names_of_methods before).room 0)
counted_by _ = None

-- types that are written

-- A type that a phrase writes, and whether it is that of what is passed.
pub record TypeUse : Type 0 where
  pub of : written.Named
  pub is_passed : Bool

-- `stored_use of` is the type of variables.
abbrev pub stored_use : written.Named → TypeUse
stored_use of = record { of = of; is_passed = false }

-- `passed of` is the type of a parameter or of a result.
abbrev pub passed : written.Named → TypeUse
passed of = record { of = of; is_passed = true }

-- `written_by phrase` is the type that the first of these is declared by.
abbrev pub written_by : Phrase → Option TypeUse
written_by (Statement scope (written.Declare p v)) = Some (stored_use v.of)
written_by (Items env before (written.AGlobal v ∷ is)) = Some (stored_use v.of)
written_by (ClassMembers env class before (written.AField v ∷ ms)) = Some (stored_use v.of)
written_by (Parameters env before (x ∷ xs)) = Some (passed x.of)
written_by (Items env before (written.AFunction f ∷ is)) = option_map passed f.result
written_by (ClassMembers env class before (written.AMethod f ∷ ms)) = option_map passed f.result
written_by (Methods env before (m ∷ ms)) = option_map passed m.result
written_by _ = None

-- An object of this type may not be so: objects are passed by handles, and no variable is itself an object of an
-- interface.
abbrev pub is_misplaced : TypeUse → ObjectType → Bool
is_misplaced used o = used.is_passed || is_interface o

-- what is written to

-- Something may be assigned to what is typed so: to a place, of a type that takes a value.
abbrev pub takes_value : TypedExpr → Bool
takes_value t = is_some (assignable t.form t.tree) && is_stored t.form t.ty

-- `++` and `--` before a place

abbrev pub counts : UnaryOp → Bool
counts unary.Increment = true
counts unary.Decrement = true
counts _ = false

-- What is wrong at an offset, where a token means this: in the module of this script, with these registrations.
pub data IsWrong (registrations : List Registration) (script : List written.Item) : Rule → ℕ → Meaning → Type 0 where
  -- no local, field or global has this name
  no_variable : {env : Environment} {p : Position} {text : List ℕ}
      → Occurs registrations script (Expression env (written.Name p text))
      → variable_in env text ≡ None
      → IsWrong registrations script rules.UnknownName p.at (name text)
  -- no method, function, class or registered type or function has this name
  no_callee : {env : Environment} {p : Position} {text : List ℕ} {es : written.Exprs}
      → Occurs registrations script (Expression env (written.Call p text es))
      → callee_in env text ≡ None
      → IsWrong registrations script rules.UnknownName p.at (name text)
  -- objects of the type of what is before the point have no field and no property of this name, or no method
  no_member : {env : Environment} {t : TypedExpr} {p : Position} {text : List ℕ} {ss : written.Suffixes}
      {o : ObjectType} → Occurs registrations script (Suffixes env t (written.suffix (written.Field p text) ss))
      → object_of t.ty ≡ Some o
      → member_in env o text ≡ None
      → IsWrong registrations script rules.UnknownName p.at (name text)
  no_method : {env : Environment} {t : TypedExpr} {p : Position} {text : List ℕ} {es : written.Exprs}
      {ss : written.Suffixes}
      {o : ObjectType}
      → Occurs registrations script (Suffixes env t (written.suffix (written.Method p text es) ss))
      → object_of t.ty ≡ Some o
      → method_in env o text ≡ None
      → IsWrong registrations script rules.UnknownName p.at (name text)
  -- no class, interface or registered type has this name
  no_type : {x : Phrase} {used : TypeUse} {text : List ℕ}
      → Occurs registrations script x
      → written_by x ≡ Some used
      → object_named registrations (declarations registrations script) text ≡ None
      → IsWrong registrations script rules.UnknownType (at_type_name used.of) (name text)
  no_cast_type : {env : Environment} {p : Position} {to : written.TypeName} {e : written.Expr}
      → Occurs registrations script (Expression env (written.Cast p to e))
      → object_named registrations (declarations registrations script) to.name ≡ None
      → IsWrong registrations script rules.UnknownType to.place.at (name to.name)
  no_element_type : {env : Environment} {p at : Position} {text : List ℕ} {es : written.Exprs}
      → Occurs registrations script (Expression env (written.NewArray p (written.HandleElement at text) es))
      → object_named registrations (declarations registrations script) text ≡ None
      → IsWrong registrations script rules.UnknownType at.at (name text)
  -- a class lists what is neither an interface nor a class
  no_interface : {env : Environment} {place : ℕ} {before : List written.TypeName} {n : written.TypeName}
      {ns : List written.TypeName}
      → Occurs registrations script (Interfaces env place before (n ∷ ns))
      → is_declared (object_named registrations (declarations registrations script) n.name) ≡ false
      → IsWrong registrations script rules.UnknownType n.place.at (name n.name)
  -- another one of its space has the name that is declared
  taken : {x : Phrase} {n : Naming}
      → Occurs registrations script x
      → named_by x ≡ Some n
      → n.is_refused ≡ true
      → IsWrong registrations script rules.NameTaken n.at (name n.text)
  -- there are as many before as there may be
  too_many : {x : Phrase} {n : Naming}
      → Occurs registrations script x
      → counted_by x ≡ Some n
      → n.is_refused ≡ true
      → IsWrong registrations script rules.TooMany n.at (name n.text)
  -- what gives a value may end without one
  no_return : {env : Environment} {of : Ty} {r : Routine}
      → Occurs registrations script (RoutinePhrase env of r)
      → is_void of ≡ false
      → returns_in r.body ≡ false
      → IsWrong registrations script rules.NoReturn r.place.at (name r.name)
  -- what is called takes another number of arguments than it is given
  call_count : {env : Environment} {p : Position} {text : List ℕ} {es : written.Exprs} {callee : Callee}
      {parameters : List Ty}
      → Occurs registrations script (Expression env (written.Call p text es))
      → callee_in env text ≡ Some callee
      → callee.parameters ≡ Some parameters
      → nat_eq (length parameters) (argument_count es) ≡ false
      → IsWrong registrations script rules.WrongArgumentCount p.at (name text)
  method_count : {env : Environment} {t : TypedExpr} {p : Position} {text : List ℕ} {es : written.Exprs}
      {ss : written.Suffixes} {o : ObjectType} {m : Invoked}
      → Occurs registrations script (Suffixes env t (written.suffix (written.Method p text es) ss))
      → object_of t.ty ≡ Some o
      → method_in env o text ≡ Some m
      → nat_eq (length m.parameters) (argument_count es) ≡ false
      → IsWrong registrations script rules.WrongArgumentCount p.at (name text)
  array_count : {env : Environment} {p : Position} {of : written.Element} {es : written.Exprs}
      → Occurs registrations script (Expression env (written.NewArray p of es))
      → nat_eq (length (array_parameters (argument_count es))) (argument_count es) ≡ false
      → IsWrong registrations script rules.WrongArgumentCount p.at (reserved words.Array)
  variable_count : {env : Environment} {of_at at : ℕ} {o : ObjectType} {i : written.Initializer} {callee : Callee}
      {parameters : List Ty} {m : Meaning}
      → Occurs registrations script (Initializer env of_at at (ty.Object o) i)
      → construction env o (initial_count i) ≡ Some callee
      → callee.parameters ≡ Some parameters
      → nat_eq (length parameters) (initial_count i) ≡ false
      → IsWrong registrations script rules.WrongArgumentCount of_at m
  -- a registered type is constructed, and has no factory
  call_factory : {env : Environment} {p : Position} {text : List ℕ} {es : written.Exprs} {callee : Callee}
      → Occurs registrations script (Expression env (written.Call p text es))
      → callee_in env text ≡ Some callee
      → callee.parameters ≡ None
      → IsWrong registrations script rules.NoFactory p.at (name text)
  variable_factory : {env : Environment} {of_at at : ℕ} {o : ObjectType} {i : written.Initializer} {m : Meaning}
      → Occurs registrations script (Initializer env of_at at (ty.Object o) i)
      → is_constructible (construction env o (initial_count i)) ≡ false
      → IsWrong registrations script rules.NoFactory of_at m
  -- the type of the value of a `switch` does not hold the constant of a label
  out_of_range : {scope : Scope} {int_type : Option IntType} {before : List Label} {p : Position} {l : Label}
      {ss : written.Stmts} {cs : written.Cases} {m : Meaning}
      → Occurs registrations script (Cases scope int_type before (written.next_case (written.labelled p l ss) cs))
      → is_within int_type l ≡ false
      → IsWrong registrations script rules.ConstantOutOfRange p.at m
  -- a label before has the same constant
  duplicate : {scope : Scope} {int_type : Option IntType} {before : List Label} {p : Position} {l : Label}
      {ss : written.Stmts} {cs : written.Cases} {m : Meaning}
      → Occurs registrations script (Cases scope int_type before (written.next_case (written.labelled p l ss) cs))
      → list_any (is_same_constant l) before ≡ true
      → IsWrong registrations script rules.DuplicateCase p.at m
  -- `this` where no object runs
  no_object : {env : Environment} {p : Position}
      → Occurs registrations script (Expression env (written.This p))
      → env.this ≡ None
      → IsWrong registrations script rules.Misplaced p.at (reserved words.This)
  -- `break` and `continue` where there is nothing that they leave
  no_loop_to_leave : {scope : Scope} {p : Position}
      → Occurs registrations script (Statement scope (written.Break p))
      → (scope.in_loop || scope.in_switch) ≡ false
      → IsWrong registrations script rules.Misplaced p.at (reserved words.Break)
  no_loop : {scope : Scope} {p : Position}
      → Occurs registrations script (Statement scope (written.Continue p))
      → scope.in_loop ≡ false
      → IsWrong registrations script rules.Misplaced p.at (reserved words.Continue)
  -- `default` before another label
  early_default : {scope : Scope} {int_type : Option IntType} {before : List Label} {p : Position} {ss : written.Stmts}
      {cs : written.Cases}
      → Occurs registrations script
      (Cases scope int_type before (written.next_case (written.labelled p labels.Default ss) cs))
      → is_last cs ≡ false
      → IsWrong registrations script rules.Misplaced p.at (reserved words.Default)
  -- a type of objects is written where none of them may be
  misplaced_type : {x : Phrase} {used : TypeUse} {o : ObjectType} {m : Meaning}
      → Occurs registrations script x
      → written_by x ≡ Some used
      → ty_named registrations (declarations registrations script) used.of ≡ ty.Object o
      → is_misplaced used o ≡ true
      → IsWrong registrations script rules.Misplaced (at_type used.of) m
  -- a class lists a class
  listed_class : {env : Environment} {place class : ℕ} {before : List written.TypeName} {n : written.TypeName}
      {ns : List written.TypeName}
      → Occurs registrations script (Interfaces env place before (n ∷ ns))
      → object_named registrations (declarations registrations script) n.name ≡ Some (objects.Class class)
      → IsWrong registrations script rules.Misplaced n.place.at (name n.name)
  -- a constructor has another name than its class
  other_constructor : {env : Environment} {class : List ℕ} {before : List written.Member} {c : written.Constructor}
      {ms : List written.Member}
      → Occurs registrations script (ClassMembers env class before (written.AConstructor c ∷ ms))
      → bytes_eq c.name class ≡ false
      → IsWrong registrations script rules.Misplaced c.place.at (name c.name)
  -- the type of an expression does not fit where it is
  mismatch : {at : ℕ} {m : Meaning}
      → Mismatches registrations script at
      → IsWrong registrations script rules.TypeMismatch at m
  -- what is left of `=` or of `op=` takes no value
  takes_none : {env : Environment} {p : Position} {op : AssignOp} {e v : written.Expr} {t : TypedExpr} {m : Meaning}
      → Occurs registrations script (Expression env (written.Assign p e op v))
      → check_expr env (is_assign op) e ≡ Ok t
      → takes_value t ≡ false
      → IsWrong registrations script rules.NotAssignable t.at m
  -- what is counted up or down is no place
  no_place : {env : Environment} {p : Position} {op : UnaryOp} {e : written.Expr} {t : TypedExpr} {m : Meaning}
      → Occurs registrations script (Expression env (written.Unary p op e))
      → counts op ≡ true
      → check_expr env false e ≡ Ok t
      → assignable t.form t.tree ≡ None
      → IsWrong registrations script rules.NotAssignable t.at m
  no_place_before : {env : Environment} {t : TypedExpr} {s : written.Suffix} {ss : written.Suffixes} {m : Meaning}
      → Occurs registrations script (Suffixes env t (written.suffix s ss))
      → counts_after s ≡ true
      → assignable t.form t.tree ≡ None
      → IsWrong registrations script rules.NotAssignable t.at m
  -- a variable of objects begins with a value: objects are constructed
  object_assigned : {env : Environment} {of_at at : ℕ} {o : ObjectType} {e : written.Expr} {m : Meaning}
      → Occurs registrations script (Initializer env of_at at (ty.Object o) (written.Value e))
      → IsWrong registrations script rules.NotAssignable at m

-- A token of the list has its first byte at the offset of the fault, means what one of its rule may, and there the rule
-- is broken.
abbrev pub IsBrokenAt : List Registration → List written.Item → Tokens → Fault → Type 0
IsBrokenAt registrations script tokens f =
    Any (λ token. (token.1.at ≡ f.at) × (breaks_at f.rule token.0 ≡ true)
    × IsWrong registrations script f.rule f.at token.0)
    tokens
