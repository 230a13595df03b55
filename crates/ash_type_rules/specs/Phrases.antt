-- The phrases of a module, and what each of them sees: of the module all that its items declare, of a class that its
-- object runs, and of a body the variables before the phrase. It is not said that what comes before is free of faults.
use Rattle.std.specs.Prelude.{◌≡◌, ℕ, ◌-◌, List, [], ◌∷◌, ◌++◌, map, length, false, Option, Some, Ok}
use Rattle.ash_registrations.specs.Registrations.{Registration}
use Rattle.ash_tree.specs.Tree as written
use Rattle.ash_tree.specs.declared.tree.places.Position.{Position}
use Rattle.ash_tree.specs.declared.tree.types.Primitive.{Primitive}
use Rattle.ash_tree.specs.declared.tree.operators.UnaryOp.{UnaryOp}
use Rattle.ash_tree.specs.declared.tree.operators.BinaryOp.{BinaryOp}
use Rattle.ash_tree.specs.declared.tree.operators.AssignOp.{AssignOp}
use Rattle.ash_tree.specs.declared.tree.statements.Label.{Label}
use Rattle.ash_integers.specs.declared.int_type.IntType.{IntType}
use Rattle.ash_typed.specs.ModuleLimits.{max_globals, max_class_members}
use Rattle.ash_type_rules.specs.declared.types.Ty.{Ty}
use Rattle.ash_type_rules.specs.declared.types.Ty.TheVariants as ty
use Rattle.ash_type_rules.specs.Environment.{Environment, Declared, with_locals, inside}
use Rattle.ash_type_rules.specs.ModuleDeclarations.{declared, ty_in}
use Rattle.ash_type_rules.specs.ExpressionRules.{TypedExpr, operate, check_expr, check_suffix}
use Rattle.ash_type_rules.specs.Declarations.{at_type, known_ty}
use Rattle.ash_type_rules.specs.Switches.{integer_type_in}
use Rattle.ash_type_rules.specs.Scopes.{Scope, block_of, loop_of, switch_of, with_variables, after, body_scope}
use Rattle.ash_type_rules.specs.ItemRules.{Names, passed_ty, check_result, check_parameters}
use Rattle.ash_tree.specs.Items.{Routine, routine_of, constructing, classes_of, globals_of, variable_names}
use Rattle.ash_tree.specs.Items.{member_names, item_names}
use Rattle.ash_type_rules.specs.TypedModules.{signature_name, listed_name, environment}

-- names that are taken

-- Those that are registered, and those of the items before. There are at most `max_globals` variables in a
-- module.
abbrev pub names_before : List Registration → List written.Item → Names
names_before registrations before =
    record {
      registered = registrations;
      taken = item_names before;
      room = max_globals - length (variable_names (globals_of before));
    }

-- Those of the members before. There are at most `max_class_members` fields and methods in a class.
abbrev pub names_of_members : List written.Member → Names
names_of_members before =
    record { registered = []; taken = member_names before; room = max_class_members - length (member_names before) }

-- Those of the methods before. There are at most `max_class_members` in an interface.
abbrev pub names_of_methods : List written.InterfaceMethod → Names
names_of_methods before =
    record { registered = []; taken = map signature_name before; room = max_class_members - length before }

-- Those of the interfaces that a class lists before.
abbrev pub names_listed : List written.TypeName → Names
names_listed before = record { registered = []; taken = map listed_name before; room = 0 }

-- That of a variable more.
abbrev pub with_decl : Names → written.Decl → Names
with_decl names d = record { registered = names.registered; taken = names.taken ++ d.name ∷ []; room = names.room - 1 }

-- A phrase, or what is left of a list of phrases, with what it sees.
pub data Phrase : Type 0 where
  Expression : Environment → written.Expr → Phrase
  Arguments : Environment → written.Exprs → Phrase
  -- after what is typed so
  Links : Environment → TypedExpr → written.Links → Phrase
  Suffixes : Environment → TypedExpr → written.Suffixes → Phrase
  -- of a variable at the second offset, whose type is written at the first
  Initializer : Environment → ℕ → ℕ → Ty → written.Initializer → Phrase
  -- variables of a block, whose type is written at the offset
  Locals : Scope → ℕ → Ty → List written.Decl → Phrase
  Statement : Scope → written.Stmt → Phrase
  Statements : Scope → written.Stmts → Phrase
  -- labels of a `switch` over a value of this type, after those
  Cases : Scope → Option IntType → List Label → written.Cases → Phrase
  -- after these
  Parameters : Environment → List Declared → List written.Parameter → Phrase
  -- what gives this type
  RoutinePhrase : Environment → Ty → Routine → Phrase
  -- variables of a module or of a class, whose type is written at the offset, where these names are taken
  Variables : Environment → ℕ → Ty → Names → List written.Decl → Phrase
  -- what an interface declares, after these
  Methods : Environment → List written.InterfaceMethod → List written.InterfaceMethod → Phrase
  -- the interfaces that the class of this place lists, after these
  Interfaces : Environment → ℕ → List written.TypeName → List written.TypeName → Phrase
  -- the members of the class of this name, after these
  ClassMembers : Environment → List ℕ → List written.Member → List written.Member → Phrase
  -- items, after these
  Items : Environment → List written.Item → List written.Item → Phrase

-- `environment_of phrase` is what a phrase sees.
abbrev pub environment_of : Phrase → Environment
environment_of (Expression env e) = env
environment_of (Arguments env es) = env
environment_of (Links env t ls) = env
environment_of (Suffixes env t ss) = env
environment_of (Initializer env of_at at of i) = env
environment_of (Locals scope at of ds) = scope.env
environment_of (Statement scope s) = scope.env
environment_of (Statements scope ss) = scope.env
environment_of (Cases scope int_type before cs) = scope.env
environment_of (Parameters env before ps) = env
environment_of (RoutinePhrase env of r) = env
environment_of (Variables env at of names ds) = env
environment_of (Methods env before ms) = env
environment_of (Interfaces env place before ns) = env
environment_of (ClassMembers env class before ms) = env
environment_of (Items env before is) = env

-- A phrase is one of the module of this script, with these registrations, and sees this.
pub data Occurs (registrations : List Registration) (script : List written.Item) : Phrase → Type 0 where
  -- expressions
  call_arguments : {env : Environment} {p : Position} {text : List ℕ} {es : written.Exprs}
      → Occurs registrations script (Expression env (written.Call p text es))
      → Occurs registrations script (Arguments env es)
  in_brackets : {env : Environment} {p : Position} {e : written.Expr}
      → Occurs registrations script (Expression env (written.Brackets p e))
      → Occurs registrations script (Expression env e)
  converted : {env : Environment} {p : Position} {to : Primitive} {e : written.Expr}
      → Occurs registrations script (Expression env (written.Convert p to e))
      → Occurs registrations script (Expression env e)
  array_arguments : {env : Environment} {p : Position} {of : written.Element} {es : written.Exprs}
      → Occurs registrations script (Expression env (written.NewArray p of es))
      → Occurs registrations script (Arguments env es)
  cast : {env : Environment} {p : Position} {to : written.TypeName} {e : written.Expr}
      → Occurs registrations script (Expression env (written.Cast p to e))
      → Occurs registrations script (Expression env e)
  before_suffixes : {env : Environment} {p : Position} {e : written.Expr} {ss : written.Suffixes}
      → Occurs registrations script (Expression env (written.Postfix p e ss))
      → Occurs registrations script (Expression env e)
  suffixes : {env : Environment} {p : Position} {e : written.Expr} {ss : written.Suffixes} {t : TypedExpr}
      → Occurs registrations script (Expression env (written.Postfix p e ss))
      → check_expr env false e ≡ Ok t
      → Occurs registrations script (Suffixes env t ss)
  operand : {env : Environment} {p : Position} {op : UnaryOp} {e : written.Expr}
      → Occurs registrations script (Expression env (written.Unary p op e))
      → Occurs registrations script (Expression env e)
  first_operand : {env : Environment} {p : Position} {e : written.Expr} {ls : written.Links}
      → Occurs registrations script (Expression env (written.Binary p e ls))
      → Occurs registrations script (Expression env e)
  links : {env : Environment} {p : Position} {e : written.Expr} {ls : written.Links} {t : TypedExpr}
      → Occurs registrations script (Expression env (written.Binary p e ls))
      → check_expr env false e ≡ Ok t
      → Occurs registrations script (Links env t ls)
  condition : {env : Environment} {p : Position} {c a b : written.Expr}
      → Occurs registrations script (Expression env (written.Conditional p c a b))
      → Occurs registrations script (Expression env c)
  chosen : {env : Environment} {p : Position} {c a b : written.Expr}
      → Occurs registrations script (Expression env (written.Conditional p c a b))
      → Occurs registrations script (Expression env a)
  otherwise : {env : Environment} {p : Position} {c a b : written.Expr}
      → Occurs registrations script (Expression env (written.Conditional p c a b))
      → Occurs registrations script (Expression env b)
  target : {env : Environment} {p : Position} {op : AssignOp} {e v : written.Expr}
      → Occurs registrations script (Expression env (written.Assign p e op v))
      → Occurs registrations script (Expression env e)
  value : {env : Environment} {p : Position} {op : AssignOp} {e v : written.Expr}
      → Occurs registrations script (Expression env (written.Assign p e op v))
      → Occurs registrations script (Expression env v)
  argument : {env : Environment} {e : written.Expr} {es : written.Exprs}
      → Occurs registrations script (Arguments env (written.expr e es))
      → Occurs registrations script (Expression env e)
  other_arguments : {env : Environment} {e : written.Expr} {es : written.Exprs}
      → Occurs registrations script (Arguments env (written.expr e es))
      → Occurs registrations script (Arguments env es)
  linked : {env : Environment} {t : TypedExpr} {op : BinaryOp} {e : written.Expr} {ls : written.Links}
      → Occurs registrations script (Links env t (written.link op e ls))
      → Occurs registrations script (Expression env e)
  other_links : {env : Environment} {t u next : TypedExpr} {op : BinaryOp} {e : written.Expr} {ls : written.Links}
      → Occurs registrations script (Links env t (written.link op e ls))
      → check_expr env false e ≡ Ok u
      → operate op t u ≡ Ok next
      → Occurs registrations script (Links env next ls)
  method_arguments : {env : Environment} {t : TypedExpr} {p : Position} {text : List ℕ} {es : written.Exprs}
      {ss : written.Suffixes}
      → Occurs registrations script (Suffixes env t (written.suffix (written.Method p text es) ss))
      → Occurs registrations script (Arguments env es)
  index : {env : Environment} {t : TypedExpr} {e : written.Expr} {ss : written.Suffixes}
      → Occurs registrations script (Suffixes env t (written.suffix (written.Index e) ss))
      → Occurs registrations script (Expression env e)
  other_suffixes : {env : Environment} {t next : TypedExpr} {s : written.Suffix} {ss : written.Suffixes}
      → Occurs registrations script (Suffixes env t (written.suffix s ss))
      → check_suffix env t s ≡ Ok next
      → Occurs registrations script (Suffixes env next ss)
  -- variables
  initial_value : {env : Environment} {of_at at : ℕ} {of : Ty} {e : written.Expr}
      → Occurs registrations script (Initializer env of_at at of (written.Value e))
      → Occurs registrations script (Expression env e)
  initial_arguments : {env : Environment} {of_at at : ℕ} {of : Ty} {es : List written.Expr}
      → Occurs registrations script (Initializer env of_at at of (written.Arguments es))
      → Occurs registrations script (Arguments env (written.exprs es))
  local : {scope : Scope} {at : ℕ} {of : Ty} {d : written.Decl} {ds : List written.Decl}
      → Occurs registrations script (Locals scope at of (d ∷ ds))
      → Occurs registrations script (Initializer scope.env at d.place.at of d.initializer)
  other_locals : {scope : Scope} {at : ℕ} {of : Ty} {d : written.Decl} {ds : List written.Decl}
      → Occurs registrations script (Locals scope at of (d ∷ ds))
      → Occurs registrations script (Locals (with_variables scope (declared of d ∷ [])) at of ds)
  -- statements
  locals : {scope : Scope} {p : Position} {v : written.Vars} {of : Ty}
      → Occurs registrations script (Statement scope (written.Declare p v))
      → known_ty v.of (ty_in scope.env v.of) ≡ Ok of
      → Occurs registrations script (Locals scope (at_type v.of) of v.decls)
  evaluated : {scope : Scope} {p : Position} {e : written.Expr}
      → Occurs registrations script (Statement scope (written.Evaluate p e))
      → Occurs registrations script (Expression scope.env e)
  block : {scope : Scope} {p : Position} {ss : written.Stmts}
      → Occurs registrations script (Statement scope (written.Block p ss))
      → Occurs registrations script (Statements (block_of scope) ss)
  if_condition : {scope : Scope} {p : Position} {c : written.Expr} {s : written.Stmt}
      → Occurs registrations script (Statement scope (written.If p c s))
      → Occurs registrations script (Expression scope.env c)
  if_body : {scope : Scope} {p : Position} {c : written.Expr} {s : written.Stmt}
      → Occurs registrations script (Statement scope (written.If p c s))
      → Occurs registrations script (Statement scope s)
  else_condition : {scope : Scope} {p : Position} {c : written.Expr} {s t : written.Stmt}
      → Occurs registrations script (Statement scope (written.IfElse p c s t))
      → Occurs registrations script (Expression scope.env c)
  then_body : {scope : Scope} {p : Position} {c : written.Expr} {s t : written.Stmt}
      → Occurs registrations script (Statement scope (written.IfElse p c s t))
      → Occurs registrations script (Statement scope s)
  else_body : {scope : Scope} {p : Position} {c : written.Expr} {s t : written.Stmt}
      → Occurs registrations script (Statement scope (written.IfElse p c s t))
      → Occurs registrations script (Statement scope t)
  while_condition : {scope : Scope} {p : Position} {c : written.Expr} {s : written.Stmt}
      → Occurs registrations script (Statement scope (written.While p c s))
      → Occurs registrations script (Expression scope.env c)
  while_body : {scope : Scope} {p : Position} {c : written.Expr} {s : written.Stmt}
      → Occurs registrations script (Statement scope (written.While p c s))
      → Occurs registrations script (Statement (loop_of scope) s)
  do_condition : {scope : Scope} {p : Position} {c : written.Expr} {s : written.Stmt}
      → Occurs registrations script (Statement scope (written.DoWhile p s c))
      → Occurs registrations script (Expression scope.env c)
  do_body : {scope : Scope} {p : Position} {c : written.Expr} {s : written.Stmt}
      → Occurs registrations script (Statement scope (written.DoWhile p s c))
      → Occurs registrations script (Statement (loop_of scope) s)
  for_head : {scope : Scope} {p : Position} {f s : written.Stmt} {c : Option written.Expr} {es : List written.Expr}
      → Occurs registrations script (Statement scope (written.For p f c es s))
      → Occurs registrations script (Statement (block_of scope) f)
  for_condition : {scope : Scope} {p : Position} {f s : written.Stmt} {c : written.Expr} {es : List written.Expr}
      → Occurs registrations script (Statement scope (written.For p f (Some c) es s))
      → Occurs registrations script (Expression (after (block_of scope) f).env c)
  for_steps : {scope : Scope} {p : Position} {f s : written.Stmt} {c : Option written.Expr} {es : List written.Expr}
      → Occurs registrations script (Statement scope (written.For p f c es s))
      → Occurs registrations script (Arguments (after (block_of scope) f).env (written.exprs es))
  for_body : {scope : Scope} {p : Position} {f s : written.Stmt} {c : Option written.Expr} {es : List written.Expr}
      → Occurs registrations script (Statement scope (written.For p f c es s))
      → Occurs registrations script (Statement (loop_of (after (block_of scope) f)) s)
  switch_value : {scope : Scope} {p : Position} {e : written.Expr} {cs : written.Cases}
      → Occurs registrations script (Statement scope (written.Switch p e cs))
      → Occurs registrations script (Expression scope.env e)
  cases : {scope : Scope} {p : Position} {e : written.Expr} {cs : written.Cases} {t : TypedExpr}
      → Occurs registrations script (Statement scope (written.Switch p e cs))
      → check_expr scope.env false e ≡ Ok t
      → Occurs registrations script (Cases (switch_of scope) (integer_type_in t.ty) [] cs)
  returned : {scope : Scope} {p : Position} {e : written.Expr}
      → Occurs registrations script (Statement scope (written.Return p (Some e)))
      → Occurs registrations script (Expression scope.env e)
  statement : {scope : Scope} {s : written.Stmt} {ss : written.Stmts}
      → Occurs registrations script (Statements scope (written.stmt s ss))
      → Occurs registrations script (Statement scope s)
  other_statements : {scope : Scope} {s : written.Stmt} {ss : written.Stmts}
      → Occurs registrations script (Statements scope (written.stmt s ss))
      → Occurs registrations script (Statements (after scope s) ss)
  labelled : {scope : Scope} {int_type : Option IntType} {before : List Label} {p : Position} {l : Label}
      {ss : written.Stmts} {cs : written.Cases}
      → Occurs registrations script (Cases scope int_type before (written.next_case (written.labelled p l ss) cs))
      → Occurs registrations script (Statements scope ss)
  other_cases : {scope : Scope} {int_type : Option IntType} {before : List Label} {p : Position} {l : Label}
      {ss : written.Stmts} {cs : written.Cases}
      → Occurs registrations script (Cases scope int_type before (written.next_case (written.labelled p l ss) cs))
      → Occurs registrations script (Cases scope int_type (before ++ l ∷ []) cs)
  -- functions
  parameters : {env : Environment} {of : Ty} {r : Routine}
      → Occurs registrations script (RoutinePhrase env of r)
      → Occurs registrations script (Parameters env [] r.parameters)
  other_parameters : {env : Environment} {before : List Declared} {x : written.Parameter} {xs : List written.Parameter}
      {of : Ty}
      → Occurs registrations script (Parameters env before (x ∷ xs))
      → passed_ty x.of (ty_in env x.of) ≡ Ok of
      → Occurs registrations script (Parameters env (before ++ record { name = x.name; of = of } ∷ []) xs)
  body : {env : Environment} {of : Ty} {r : Routine} {passed : List Declared}
      → Occurs registrations script (RoutinePhrase env of r)
      → check_parameters env [] r.parameters ≡ Ok passed
      → Occurs registrations script (Statements (body_scope (with_locals env passed) of) (written.stmts r.body))
  -- variables of a module or of a class
  variable : {env : Environment} {at : ℕ} {of : Ty} {names : Names} {d : written.Decl} {ds : List written.Decl}
      → Occurs registrations script (Variables env at of names (d ∷ ds))
      → Occurs registrations script (Initializer env at d.place.at of d.initializer)
  other_variables : {env : Environment} {at : ℕ} {of : Ty} {names : Names} {d : written.Decl} {ds : List written.Decl}
      → Occurs registrations script (Variables env at of names (d ∷ ds))
      → Occurs registrations script (Variables env at of (with_decl names d) ds)
  -- interfaces
  method_parameters : {env : Environment} {before : List written.InterfaceMethod} {m : written.InterfaceMethod}
      {ms : List written.InterfaceMethod}
      → Occurs registrations script (Methods env before (m ∷ ms))
      → Occurs registrations script (Parameters env [] m.parameters)
  other_methods : {env : Environment} {before : List written.InterfaceMethod} {m : written.InterfaceMethod}
      {ms : List written.InterfaceMethod}
      → Occurs registrations script (Methods env before (m ∷ ms))
      → Occurs registrations script (Methods env (before ++ m ∷ []) ms)
  -- classes
  other_interfaces : {env : Environment} {place : ℕ} {before : List written.TypeName} {n : written.TypeName}
      {ns : List written.TypeName}
      → Occurs registrations script (Interfaces env place before (n ∷ ns))
      → Occurs registrations script (Interfaces env place (before ++ n ∷ []) ns)
  fields : {env : Environment} {class : List ℕ} {before : List written.Member} {v : written.Vars}
      {ms : List written.Member} {of : Ty}
      → Occurs registrations script (ClassMembers env class before (written.AField v ∷ ms))
      → known_ty v.of (ty_in env v.of) ≡ Ok of
      → Occurs registrations script (Variables env (at_type v.of) of (names_of_members before) v.decls)
  method : {env : Environment} {class : List ℕ} {before : List written.Member} {f : written.Function}
      {ms : List written.Member} {of : Ty}
      → Occurs registrations script (ClassMembers env class before (written.AMethod f ∷ ms))
      → check_result env f.result ≡ Ok of
      → Occurs registrations script (RoutinePhrase env of (routine_of f))
  constructor : {env : Environment} {class : List ℕ} {before : List written.Member} {c : written.Constructor}
      {ms : List written.Member}
      → Occurs registrations script (ClassMembers env class before (written.AConstructor c ∷ ms))
      → Occurs registrations script (RoutinePhrase env ty.Void (constructing c))
  other_members : {env : Environment} {class : List ℕ} {before : List written.Member} {m : written.Member}
      {ms : List written.Member}
      → Occurs registrations script (ClassMembers env class before (m ∷ ms))
      → Occurs registrations script (ClassMembers env class (before ++ m ∷ []) ms)
  -- items
  items : Occurs registrations script (Items (environment registrations script) [] script)
  other_items : {env : Environment} {before : List written.Item} {i : written.Item} {is : List written.Item}
      → Occurs registrations script (Items env before (i ∷ is))
      → Occurs registrations script (Items env (before ++ i ∷ []) is)
  interfaces : {env : Environment} {before : List written.Item} {c : written.Class} {is : List written.Item}
      → Occurs registrations script (Items env before (written.AClass c ∷ is))
      → Occurs registrations script (Interfaces env (length (classes_of before)) [] c.interfaces)
  members : {env : Environment} {before : List written.Item} {c : written.Class} {is : List written.Item}
      → Occurs registrations script (Items env before (written.AClass c ∷ is))
      → Occurs registrations script (ClassMembers (inside env (length (classes_of before))) c.name [] c.members)
  methods : {env : Environment} {before : List written.Item} {i : written.Interface} {is : List written.Item}
      → Occurs registrations script (Items env before (written.AnInterface i ∷ is))
      → Occurs registrations script (Methods env [] i.methods)
  function : {env : Environment} {before : List written.Item} {f : written.Function} {is : List written.Item} {of : Ty}
      → Occurs registrations script (Items env before (written.AFunction f ∷ is))
      → check_result env f.result ≡ Ok of
      → Occurs registrations script (RoutinePhrase env of (routine_of f))
  globals : {env : Environment} {before : List written.Item} {v : written.Vars} {is : List written.Item} {of : Ty}
      → Occurs registrations script (Items env before (written.AGlobal v ∷ is))
      → known_ty v.of (ty_in env v.of) ≡ Ok of
      → Occurs registrations script (Variables env (at_type v.of) of (names_before registrations before) v.decls)
