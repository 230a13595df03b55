-- What a phrase of a sound module leaves, at each of its ends, where it begins in a well-formed activity.
use Rattle.std.specs.Prelude.{◌≡◌, ℕ, Bool, true, List, [], Option, Some, None, IsSome, Contains, slice_get}
use Rattle.ash_host.specs.declared.word.Word.{Word}
use Rattle.ash_host.specs.Objects.{Handles, LiveObjects, handle, handles, Lives, AreNumbered}
use Rattle.ash_host.specs.Reach.{ReachableIn}
use Rattle.ash_tree.specs.declared.tree.types.Primitive.{Primitive}
use Rattle.ash_typed.specs.declared.types.VarType.{VarType}
use Rattle.ash_typed.specs.declared.types.VarType.TheVariants as vars
use Rattle.ash_typed.specs.declared.types.ObjectType.{ObjectType}
use Rattle.ash_typed.specs.declared.tree.operations.Method.{Method}
use Rattle.ash_typed.specs.declared.tree.operations.CallTarget.{CallTarget}
use Rattle.ash_typed.specs.TypedTree.{Expr}
use Rattle.ash_typed.specs.StatementTree.{Stmt, Stmts}
use Rattle.ash_typed.specs.TypeOf.{ValueType, value_of_result}
use Rattle.ash_typed.specs.Modules.{Function, Module}
use Rattle.ash_typed.specs.Signatures.{HostSignature, HostSignatures}
use Rattle.ash_typed.specs.SoundOperations.{IsMethod, IsTarget}
use Rattle.ash_typed.specs.SoundExpressions.{TypedEnvironment, IsWellTyped}
use Rattle.ash_typed.specs.SoundStatements.{TypedScope, with_locals, IsSoundStmt, AreSoundStmts}
use Rattle.ash_meaning.specs.Activity.{World, Activity}
use Rattle.ash_meaning.specs.Runs.{Interrupt, Progress, Done, Ended, NoStep}
use Rattle.ash_meaning.specs.Releases.{roots}
use Rattle.ash_meaning.specs.Classes.{Program}
use Rattle.ash_meaning.specs.CallMeaning.{value_or_null, invoke, call_target}
use Rattle.ash_meaning.specs.ExpressionMeaning.{expression}
use Rattle.ash_meaning.specs.StatementMeaning.{Flow, On, Broke, Continued, Returned, statement, statements}
use Rattle.ash_meaning.specs.Functions.{calls_within}
use Rattle.ash_meaning.specs.Ends.{End, Finished, Outcome, with_globals as with_zero_globals}
use Rattle.ash_meaning.specs.Ends.{call_function, load_module}
use Rattle.ash_soundness.specs.WellFormed.{Known, Context, declared, Shape, OfClass, OfElements}
use Rattle.ash_soundness.specs.WellFormed.{shape_at, IsOf, AreValues, IsGiven, AreObjects}
use Rattle.ash_soundness.specs.WellFormed.{AllLive, Follows, IsWorld, IsWellFormed, IsSafe}

-- The frame goes on in this environment, with the object and the callers that it had.
pub record Passes (c : Context) (env : TypedEnvironment) (envs : List TypedEnvironment) (a b : Activity) : Type 0 where
  pub well : IsWellFormed c env envs b
  pub follows : Follows a.world b.world
  pub this : (b.frame).this ≡ (a.frame).this
  pub callers : b.callers ≡ a.callers

-- It does so inside an expression, and holds all that it held.
pub record Goes (c : Context) (env : TypedEnvironment) (envs : List TypedEnvironment) (a b : Activity) : Type 0 where
  pub passes : Passes c env envs a b
  pub held : (number : ℕ) → Contains (a.frame).held number → Contains (b.frame).held number

-- A word is what an expression gives, and what it refers to is held.
pub record IsCarried (c : Context) (of : ValueType) (a : Activity) (word : Word) : Type 0 where
  pub value : IsGiven c.program (a.world).objects of word
  pub held : (number : ℕ) → handle word ≡ Some number → Contains (a.frame).held number

-- The host offers something to scripts: a function of a service, a construction of an object, a method or a property.
pub data Offers (host : HostSignatures) : Type 0 where
  a_function : (service id : ℕ) (offered : HostSignature) → Contains (host.functions service id) offered → Offers host
  a_construction : (kind : ℕ) (parameters : List Primitive) → Contains (host.factories kind) parameters → Offers host
  a_method : (kind id : ℕ) (offered : HostSignature) → Contains (host.methods kind id) offered → Offers host
  a_property : (kind id : ℕ) (of : Primitive) → Contains (host.properties kind id) of → Offers host

abbrev pub OffersNothing : HostSignatures → Type 0
OffersNothing host = Offers host → ⊥

-- What is left at each end: this after a value, and some well-formed activity where a run was interrupted. There is no
-- step only where the host offers something: a host may answer nothing to a call, or find no memory.
pub data Leaves {A : Type 0} (c : Context) (Left : A → Activity → Type 0) : Progress A → Type 0 where
  done : {v : A} {b : Activity} → Left v b → Leaves c Left (Done v b)
  ended : {interrupt : Interrupt} {b : Activity} → IsSafe c b → Leaves c Left (Ended interrupt b)
  no_step : Offers c.host → Leaves c Left NoStep

-- an expression gives a value of its type, and the frame goes on
pub record Evaluates (c : Context) (env : TypedEnvironment) (envs : List TypedEnvironment) (of : ValueType)
    (a : Activity) (word : Word) (b : Activity) : Type 0 where
  pub goes : Goes c env envs a b
  pub carried : IsCarried c of b word

-- words are values of types, and what they refer to is held
pub record AreCarried (c : Context) (types : List VarType) (a : Activity) (ws : List Word) : Type 0 where
  pub values : AreValues c.program (a.world).objects types ws
  pub held : (number : ℕ) → Contains (handles ws) number → Contains (a.frame).held number

-- How a statement is left that may break, may continue, and returns this: what is returned is held.
pub data IsLeftBy (c : Context) (gives : Option VarType) (breaks continues : Bool) (a : Activity) : Flow → Type 0 where
  by_itself : IsLeftBy c gives breaks continues a On
  by_break : breaks ≡ true → IsLeftBy c gives breaks continues a Broke
  by_continue : continues ≡ true → IsLeftBy c gives breaks continues a Continued
  by_return : {v : Option Word} → IsCarried c (value_of_result gives) a (value_or_null v)
      → IsLeftBy c gives breaks continues a (Returned v)

-- a statement leads on in its environment
pub record Leads (c : Context) (env : TypedEnvironment) (gives : Option VarType) (breaks continues : Bool)
    (envs : List TypedEnvironment) (a : Activity) (flow : Flow) (b : Activity) : Type 0 where
  pub passes : Passes c env envs a b
  pub left : IsLeftBy c gives breaks continues b flow

-- the statements of a block may have declared more locals
pub record LeadsOn (c : Context) (env : TypedEnvironment) (gives : Option VarType) (breaks continues : Bool)
    (envs : List TypedEnvironment) (a : Activity) (flow : Flow) (b : Activity) : Type 0 where
  pub types : List VarType
  pub leads : Leads c (with_locals env types) gives breaks continues envs a flow b

-- between requests: a well-formed world in which every object can be reached, after that in which the run began
pub record IsBetweenRequests (c : Context) (w : World) : Type 0 where
  pub world : IsWorld c w
  pub since : Follows c.began w
  pub reached : (number : ℕ) → Lives w.objects number → ReachableIn (Contains (roots [] w)) w.objects number

-- a type of no objects
abbrev pub IsPrimitive : VarType → Type 0
IsPrimitive vars.Bool = Unit {0}
IsPrimitive (vars.Integer int_type) = Unit {0}
IsPrimitive _ = ⊥

abbrev pub IsNoObjectResult : Option VarType → Type 0
IsNoObjectResult None = Unit {0}
IsNoObjectResult (Some of) = IsPrimitive of

-- a function that gives no object comes to its end with a value of its type
abbrev pub GivesItsResult : Context → Function → End → Type 0
GivesItsResult c f (Finished v) =
    IsNoObjectResult f.result → IsGiven c.program [] (value_of_result f.result) (value_or_null v)
GivesItsResult c f end = Unit {0}

-- the laws, at each depth

module _ (c : Context) (depth : ℕ) where
  abbrev pub ExpressionsKeep : Type 0
  ExpressionsKeep =
      (env : TypedEnvironment) (envs : List TypedEnvironment) (e : Expr) (of : ValueType) (a : Activity)
      → env.signatures ≡ declared c
      → IsWellTyped env e of
      → IsWellFormed c env envs a
      → Leaves c (Evaluates c env envs of a) (expression (calls_within c.program depth) e a)

  abbrev pub StatementsKeep : Type 0
  StatementsKeep =
      (scope : TypedScope) (envs : List TypedEnvironment) (s : Stmt) (a : Activity)
      → (scope.env).signatures ≡ declared c
      → IsSoundStmt scope s
      → IsWellFormed c scope.env envs a
      → Leaves c (Leads c scope.env scope.result scope.may_break scope.may_continue envs a)
      (statement (calls_within c.program depth) depth s a)

  abbrev pub BlocksKeep : Type 0
  BlocksKeep =
      (scope : TypedScope) (envs : List TypedEnvironment) (ss : Stmts) (a : Activity)
      → (scope.env).signatures ≡ declared c
      → AreSoundStmts scope ss
      → IsWellFormed c scope.env envs a
      → Leaves c (LeadsOn c scope.env scope.result scope.may_break scope.may_continue envs a)
      (statements (calls_within c.program depth) depth ss a)

  -- functions, services, and constructions of objects and of arrays
  abbrev pub CallsKeep : Type 0
  CallsKeep =
      (env : TypedEnvironment) (envs : List TypedEnvironment) (target : CallTarget) (parameters : List VarType)
      (result : Option VarType) (args : List Word) (a : Activity)
      → IsTarget (declared c) target parameters result
      → IsWellFormed c env envs a
      → AreCarried c parameters a args
      → Leaves c (Evaluates c env envs (value_of_result result) a)
      (call_target (calls_within c.program depth) target args a)

  -- methods of classes, through interfaces, of host objects and of arrays
  abbrev pub MethodsKeep : Type 0
  MethodsKeep =
      (env : TypedEnvironment) (envs : List TypedEnvironment) (o : ObjectType) (method : Method)
      (parameters : List VarType)
      (result : Option VarType) (number : ℕ) (shape : Shape) (args : List Word) (a : Activity)
      → IsMethod (declared c) o method parameters result
      → IsWellFormed c env envs a
      → shape_at number (a.world).objects ≡ Some shape
      → IsOf c.program o shape
      → AreValues c.program (a.world).objects parameters args
      → Leaves c (Evaluates c env envs (value_of_result result) a)
      (invoke (calls_within c.program depth) method number args a)

module _ (c : Context) where
  -- a call from outside, whatever it ends by
  abbrev pub RunsKeep : Type 0
  RunsKeep =
      (place : ℕ) (f : Function) (args : List Word) (budget : ℕ) (w : World) (o : Outcome)
      → slice_get ((c.program).tree).functions place ≡ Some f
      → IsWorld c w
      → Follows c.began w
      → AreValues c.program w.objects f.parameters args
      → call_function c.program place args budget w ≡ Some o
      → IsBetweenRequests c o.world × GivesItsResult c f o.end

  -- the initializers of a module, whatever they end by
  abbrev pub LoadsKeep : Type 0
  LoadsKeep =
      (budget : ℕ) (w : World) (o : Outcome)
      → IsWorld c (with_zero_globals (c.program).tree w)
      → Follows c.began (with_zero_globals (c.program).tree w)
      → load_module c.program budget w ≡ Some o
      → IsBetweenRequests c o.world

  -- Where the host offers nothing, a call from outside comes to an end, in any well-formed world.
  abbrev pub CallsComeToAnEnd : Type 0
  CallsComeToAnEnd =
      (place : ℕ) (f : Function) (args : List Word) (budget : ℕ) (w : World)
      → OffersNothing c.host
      → slice_get ((c.program).tree).functions place ≡ Some f
      → IsWorld c w
      → AreValues c.program w.objects f.parameters args
      → IsSome (call_function c.program place args budget w)

  -- and so do the initializers of a module
  abbrev pub LoadsComeToAnEnd : Type 0
  LoadsComeToAnEnd =
      (budget : ℕ) (w : World)
      → OffersNothing c.host
      → IsWorld c (with_zero_globals (c.program).tree w)
      → IsSome (load_module c.program budget w)

-- modules that come and go

-- each module that is known at first is known then
abbrev pub KnowsAll : Known → Known → Type 0
KnowsAll one other = (name : List ℕ) (tree : Module) → one name ≡ Some tree → other name ≡ Some tree

-- a shape is of no module that is not known
abbrev pub IsKnownShape : Known → Shape → Type 0
IsKnownShape modules (OfClass owner place) = IsSome (modules owner)
IsKnownShape modules (OfElements (Handles owner place)) = IsSome (modules owner)
IsKnownShape modules _ = Unit {0}

-- Objects stay well-formed where more modules are known.
abbrev pub MoreModulesKeep : Type 0
MoreModulesKeep =
    (modules more : Known) (all : LiveObjects (List ℕ))
    → KnowsAll modules more
    → AreObjects modules all
    → AreObjects more all

-- They do so where fewer are, if all are reached from objects of those that are left: no object leads to one of another
-- module.
abbrev pub FewerModulesKeep : Type 0
FewerModulesKeep =
    (modules fewer : Known) (held : List ℕ) (all : LiveObjects (List ℕ))
    → KnowsAll fewer modules
    → ((number : ℕ) (shape : Shape) → Contains held number → shape_at number all ≡ Some shape
    → IsKnownShape fewer shape)
    → ((number : ℕ) → Lives all number → ReachableIn (Contains held) all number)
    → AreObjects modules all
    → AreObjects fewer all

-- what values of a module refer to is of no other module
abbrev pub ValuesAreOfTheirModule : Type 0
ValuesAreOfTheirModule =
    (p : Program) (modules : Known) (all : LiveObjects (List ℕ)) (types : List VarType) (ws : List Word) (number : ℕ)
    (shape : Shape)
    → IsSome (modules p.name)
    → AreValues p all types ws
    → Contains (handles ws) number
    → shape_at number all ≡ Some shape
    → IsKnownShape modules shape

-- Words keep their types while what they refer to lives, whatever runs.
abbrev pub ValuesKeepTheirTypes : Type 0
ValuesKeepTheirTypes =
    (p : Program) (old new : World) (types : List VarType) (ws : List Word)
    → AreNumbered old.last old.objects
    → Follows old new
    → AllLive new.objects (handles ws)
    → AreValues p old.objects types ws
    → AreValues p new.objects types ws
