-- Release points inside a phrase of a sound module: what is well-formed at the ends of full expressions and of blocks,
-- and what keeps a well-formed activity so.
use Rattle.std.specs.Prelude.{◌≡◌, ◌↔◌, ◌∷◌, ℕ, List, Option, Contains, length}
use Rattle.ash_host.specs.declared.word.Word.{Word}
use Rattle.ash_host.specs.Objects.{Lives}
use Rattle.ash_host.specs.Reach.{NoneDangles}
use Rattle.ash_typed.specs.declared.types.VarType.{VarType}
use Rattle.ash_typed.specs.TypeOf.{ValueType}
use Rattle.ash_typed.specs.SoundExpressions.{TypedEnvironment, IsWellTyped}
use Rattle.ash_typed.specs.SoundStatements.{TypedScope, with_locals, IsSoundStmt, AreSoundStmts}
use Rattle.ash_typed.specs.TypedTree.{Expr}
use Rattle.ash_typed.specs.StatementTree.{Stmt, Stmts}
use Rattle.ash_meaning.specs.Activity.{Activity, in_frame}
use Rattle.ash_meaning.specs.Releases.{roots, let_go, keeping}
use Rattle.ash_meaning.specs.Runs.{Done}
use Rattle.ash_meaning.specs.Frames.{back_in}
use Rattle.ash_meaning.specs.ExpressionMeaning.{expression}
use Rattle.ash_meaning.specs.StatementMeaning.{Flow, On, Returned, statement, statements}
use Rattle.ash_meaning.specs.CallMeaning.{value_or_null}
use Rattle.ash_meaning.specs.Functions.{calls_within}
use Rattle.ash_meaning.specs.Traces.{after_release}
use Rattle.ash_soundness.specs.WellFormed.{Context, declared, IsGiven, IsWorld, IsWellFormed, IsSafe}
use Rattle.ash_release_laws.specs.Settling.{Reaches, IsSettled}

-- Everything that an activity has as a handle, and everything that its objects refer to, lives.
abbrev pub NoHandleDangles : Activity → Type 0
NoHandleDangles activity =
    NoneDangles (Contains (roots (activity.frame ∷ activity.callers) activity.world)) (activity.world).objects

-- What is done at release points keeps an activity well-formed: to let go of what is held; to leave blocks, so that the
-- first locals are left; to leave a frame with what its code gives; and the release point itself. When all frames are
-- given up at once the world is well-formed.
pub record ReleasePointsAreSafe (c : Context) : Type 0 where
  pub let_go : (env : TypedEnvironment) (envs : List TypedEnvironment) (activity : Activity)
      → IsWellFormed c env envs activity → IsWellFormed c env envs (in_frame let_go activity)
  pub blocks_left : (env : TypedEnvironment) (envs : List TypedEnvironment) (types : List VarType) (activity : Activity)
      → IsWellFormed c (with_locals env types) envs activity
      → IsWellFormed c env envs (in_frame (keeping (length env.locals)) activity)
  pub frame_left : (env inner : TypedEnvironment) (envs : List TypedEnvironment) (of : ValueType) (result : Word)
      (activity : Activity)
      → IsWellFormed c inner (env ∷ envs) activity
      → IsGiven c.program (activity.world).objects of result
      → IsWellFormed c env envs (back_in activity.callers result activity)
  pub released : (env : TypedEnvironment) (envs : List TypedEnvironment) (activity : Activity)
      → IsWellFormed c env envs activity → IsWellFormed c env envs (after_release activity)
  pub run_ended : (activity : Activity) → IsSafe c activity → IsWorld c activity.world

-- Where a sound phrase begins in a well-formed activity, its release points are at well-formed ones: that at the end of
-- a full expression, that at the end of a block, also if a jump leads out of it, and that after a return. A statement
-- leaves a well-formed activity, by whatever jump it is left. If it goes on from a settled one, an object lives exactly
-- if it can be reached.
pub record SoundPhrasesReleaseSafely (c : Context) (depth : ℕ) : Type 0 where
  pub full_expressions : (env : TypedEnvironment) (envs : List TypedEnvironment) (e : Expr) (of : ValueType)
      (activity left : Activity) (value : Word)
      → env.signatures ≡ declared c → IsWellTyped env e of → IsWellFormed c env envs activity
      → expression (calls_within c.program depth) e activity ≡ Done value left
      → IsWellFormed c env envs (in_frame let_go left)
  pub blocks : (scope : TypedScope) (envs : List TypedEnvironment) (ss : Stmts) (activity left : Activity) (flow : Flow)
      → (scope.env).signatures ≡ declared c → AreSoundStmts scope ss → IsWellFormed c scope.env envs activity
      → statements (calls_within c.program depth) depth ss activity ≡ Done flow left
      → IsWellFormed c scope.env envs (in_frame (keeping (length (activity.frame).locals)) left)
  pub returns : (scope : TypedScope) (env : TypedEnvironment) (envs : List TypedEnvironment) (ss : Stmts)
      (activity left : Activity) (value : Option Word)
      → (scope.env).signatures ≡ declared c → AreSoundStmts scope ss → IsWellFormed c scope.env (env ∷ envs) activity
      → statements (calls_within c.program depth) depth ss activity ≡ Done (Returned value) left
      → IsWellFormed c env envs (back_in left.callers (value_or_null value) left)
  pub left : (scope : TypedScope) (envs : List TypedEnvironment) (s : Stmt) (activity left : Activity) (flow : Flow)
      → (scope.env).signatures ≡ declared c → IsSoundStmt scope s → IsWellFormed c scope.env envs activity
      → statement (calls_within c.program depth) depth s activity ≡ Done flow left
      → IsWellFormed c scope.env envs left
  pub exactly : (scope : TypedScope) (envs : List TypedEnvironment) (s : Stmt) (activity left : Activity)
      → (scope.env).signatures ≡ declared c → IsSoundStmt scope s → IsWellFormed c scope.env envs activity
      → IsSettled activity
      → statement (calls_within c.program depth) depth s activity ≡ Done On left
      → (number : ℕ) → (Lives (left.world).objects number ↔ Reaches left number)

-- In a well-formed activity no handle dangles.
abbrev pub HandlesLive : Context → Type 0
HandlesLive c =
    (env : TypedEnvironment) (envs : List TypedEnvironment) (activity : Activity)
    → IsWellFormed c env envs activity → NoHandleDangles activity

-- What can be reached in a well-formed activity lives, and if nothing is left that can't be reached, nothing else does.
abbrev pub LivesExactlyIfReached : Context → Type 0
LivesExactlyIfReached c =
    (env : TypedEnvironment) (envs : List TypedEnvironment) (activity : Activity)
    → IsWellFormed c env envs activity
    → IsSettled activity
    → (number : ℕ) → (Lives (activity.world).objects number ↔ Reaches activity number)
