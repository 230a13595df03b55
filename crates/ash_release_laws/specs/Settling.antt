-- What a phrase leaves of the objects: none that can't be reached, and all that its frame has.
use Rattle.std.specs.Prelude.{◌≡◌, ◌++◌, ◌∷◌, ℕ, List, Contains, flat_map, length}
use Rattle.ash_host.specs.Objects.{Lives, AreNumbered}
use Rattle.ash_host.specs.Reach.{ReachableIn}
use Rattle.ash_typed.specs.declared.tree.operations.Method.{Method}
use Rattle.ash_typed.specs.declared.tree.operations.CallTarget.{CallTarget}
use Rattle.ash_host.specs.declared.word.Word.{Word}
use Rattle.ash_typed.specs.TypedTree.{Expr, Place, Exprs}
use Rattle.ash_typed.specs.StatementTree.{Initialization, Stmt, Stmts}
use Rattle.ash_meaning.specs.Activity.{World, Frame, Activity}
use Rattle.ash_meaning.specs.Releases.{roots_of_frame, roots, full}
use Rattle.ash_meaning.specs.Runs.{Progress, Done, Ended, NoStep, Run}
use Rattle.ash_meaning.specs.Locations.{Location}
use Rattle.ash_meaning.specs.Classes.{Program, ModuleCallee}
use Rattle.ash_meaning.specs.CallMeaning.{call, construct, invoke, call_target}
use Rattle.ash_meaning.specs.ExpressionMeaning.{expression, location, arguments}
use Rattle.ash_meaning.specs.StatementMeaning.{Flow, On, statement, statements, declare_all}
use Rattle.ash_meaning.specs.Functions.{calls_within, initialize_fields}
use Rattle.ash_meaning.specs.MeaningLaws.{initialized}

-- what can be reached

-- an object can be reached from the globals, from what is held outside and from these frames
abbrev pub ReachesFrom : List Frame → World → ℕ → Type 0
ReachesFrom frames world number = ReachableIn (Contains (roots frames world)) world.objects number

-- an object can be reached from the frames of an activity
abbrev pub Reaches : Activity → ℕ → Type 0
Reaches activity number = ReachesFrom (activity.frame ∷ activity.callers) activity.world number

-- Every object that lives can be reached from these frames.
pub record IsSettledFrom (frames : List Frame) (world : World) : Type 0 where
  pub reached : (number : ℕ) → Lives world.objects number → ReachesFrom frames world number

-- Every object that lives can be reached.
abbrev pub IsSettled : Activity → Type 0
IsSettled activity = IsSettledFrom (activity.frame ∷ activity.callers) activity.world

-- runs

-- This holds of the value and the activity to which a run comes, and that of the activity in which it is interrupted.
abbrev pub AtEachEnd : {A : Type 0} → (A → Activity → Type 0) → (Activity → Type 0) → Progress A → Type 0
AtEachEnd Left Interrupted (Done value activity) = Left value activity
AtEachEnd Left Interrupted (Ended interrupt activity) = Interrupted activity
AtEachEnd Left Interrupted NoStep = Unit {0}

-- This holds of the value and the activity to which a run comes.
abbrev pub AtTheValue : {A : Type 0} → (A → Activity → Type 0) → Progress A → Type 0
AtTheValue Left (Done value activity) = Left value activity
AtTheValue Left (Ended interrupt activity) = Unit {0}
AtTheValue Left NoStep = Unit {0}

-- Numbers rise, and none is above the last that was given.
abbrev pub IsNumbered : Activity → Type 0
IsNumbered activity = AreNumbered (activity.world).last (activity.world).objects

-- If every object that lives can be reached, so it is at each end of the run.
abbrev pub Settles : (A : Type 0) → Run A → Type 0
Settles A run =
    (activity : Activity) → IsNumbered activity → IsSettled activity
    → AtEachEnd (λ value left. IsSettled left) IsSettled (run activity)

-- Every object that lives can be reached if a statement goes on. A jump is on its way to a release point, and nothing
-- is said before it is there.
abbrev pub IsSettledBy : Flow → Activity → Type 0
IsSettledBy On activity = IsSettled activity
IsSettledBy _ activity = Unit {0}

-- If every object that lives can be reached, so it is at each end of a run at which it goes on.
abbrev pub SettlesIfItGoesOn : Run Flow → Type 0
SettlesIfItGoesOn run =
    (activity : Activity) → IsNumbered activity → IsSettled activity → AtEachEnd IsSettledBy IsSettled (run activity)

-- Every phrase of a module settles, at this depth: expressions, full expressions, variables, statements and blocks that
-- go on, calls of functions, methods and constructors, and initializers.
pub record ReleasePointsSettle (program : Program) (depth : ℕ) : Type 0 where
  pub expressions : (e : Expr) → Settles Word (expression (calls_within program depth) e)
  pub places : (place : Place) → Settles Location (location (calls_within program depth) place)
  pub argument_lists : (es : Exprs) → Settles (List Word) (arguments (calls_within program depth) es)
  pub full_expressions : (e : Expr) → Settles Word (full (expression (calls_within program depth) e))
  pub variables : (vs : List Initialization) → Settles (Unit {0}) (declare_all (calls_within program depth) vs)
  pub blocks : (ss : Stmts) → SettlesIfItGoesOn (statements (calls_within program depth) depth ss)
  pub statements : (s : Stmt) → SettlesIfItGoesOn (statement (calls_within program depth) depth s)
  pub calls : (callee : ModuleCallee) (this : Word) (args : List Word)
      → Settles Word (call (calls_within program depth) callee this args)
  pub constructions : (class : ℕ) (args : List Word) → Settles Word (construct (calls_within program depth) class args)
  pub methods : (method : Method) (number : ℕ) (args : List Word)
      → Settles Word (invoke (calls_within program depth) method number args)
  pub targets : (target : CallTarget) (args : List Word)
      → Settles Word (call_target (calls_within program depth) target args)
  pub fields : (vs : List Initialization)
      → Settles (Unit {0}) (initialize_fields (calls_within program depth) 0 vs)
  pub initializers : Settles (Unit {0}) (initialized program depth)

-- what a frame has

-- Nothing is taken from the frame: it holds what it held, and more; its `this` is the same, and it has as many locals;
-- what its `this`, a local or what it holds is a handle to is so still; its callers are as they were; and what they or
-- it have as a handle lives on.
pub record KeepsItsFrame (old new : Activity) : Type 0 where
  pub more : List ℕ
  pub held : (new.frame).held ≡ more ++ (old.frame).held
  pub this : (new.frame).this ≡ (old.frame).this
  pub locals : length (new.frame).locals ≡ length (old.frame).locals
  pub has : (number : ℕ) → Contains (roots_of_frame old.frame) number → Contains (roots_of_frame new.frame) number
  pub callers : new.callers ≡ old.callers
  pub lives : (number : ℕ) → Contains (flat_map roots_of_frame (old.frame ∷ old.callers)) number
      → Lives (old.world).objects number → Lives (new.world).objects number

-- The callers and the `this` of the frame are as they were, and what the callers have as a handle lives on.
pub record KeepsItsCallers (old new : Activity) : Type 0 where
  pub this : (new.frame).this ≡ (old.frame).this
  pub callers : new.callers ≡ old.callers
  pub lives : (number : ℕ) → Contains (flat_map roots_of_frame old.callers) number
      → Lives (old.world).objects number → Lives (new.world).objects number

-- A run that comes to a value keeps this.
abbrev pub Keeps : (Activity → Activity → Type 0) → (A : Type 0) → Run A → Type 0
Keeps Kept A run =
    (activity : Activity) → IsNumbered activity
    → AtTheValue (λ value left. Kept activity left) (run activity)

-- What is held is held until the full expression ends: within it nothing is taken from the frame, and a statement takes
-- nothing from the callers.
pub record HoldsUntilTheEnd (program : Program) (depth : ℕ) : Type 0 where
  pub expressions : (e : Expr) → Keeps KeepsItsFrame Word (expression (calls_within program depth) e)
  pub places : (place : Place)
      → Keeps KeepsItsFrame Location (location (calls_within program depth) place)
  pub argument_lists : (es : Exprs) → Keeps KeepsItsFrame (List Word) (arguments (calls_within program depth) es)
  pub calls : (callee : ModuleCallee) (this : Word) (args : List Word)
      → Keeps KeepsItsFrame Word (call (calls_within program depth) callee this args)
  pub constructions : (class : ℕ) (args : List Word)
      → Keeps KeepsItsFrame Word (construct (calls_within program depth) class args)
  pub statements : (s : Stmt) → Keeps KeepsItsCallers Flow (statement (calls_within program depth) depth s)
