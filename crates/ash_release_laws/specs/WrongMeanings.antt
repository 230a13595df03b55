-- Meanings of release points that the laws refuse, each at a phrase of one line.
use Rattle.std.specs.Prelude.{◌≡◌, ℕ, List, [], ◌∷◌, ◌++◌, Contains}
use Rattle.ash_host.specs.declared.word.Word.{Word}
use Rattle.ash_host.specs.declared.word.Word.TheVariants as words
use Rattle.ash_host.specs.Objects.{Host, Lives, handles}
use Rattle.ash_typed.specs.declared.types.VarType.TheVariants as vars
use Rattle.ash_typed.specs.declared.types.ObjectType.TheVariants as objects
use Rattle.ash_typed.specs.declared.tree.operations.Variable.TheVariants as variables
use Rattle.ash_typed.specs.TypedTree.{Expr, Assign, Stored, Null}
use Rattle.ash_meaning.specs.Activity.{Frame, Activity, in_frame}
use Rattle.ash_meaning.specs.Runs.{Run, Done, give, ◌>>=◌, ◌>>◌, change}
use Rattle.ash_meaning.specs.Releases.{holding, release, let_go, full}
use Rattle.ash_meaning.specs.Frames.{enter}
use Rattle.ash_meaning.specs.CallMeaning.{Calls}
use Rattle.ash_meaning.specs.ExpressionMeaning.{expression}
use Rattle.ash_release_laws.specs.Settling.{Reaches, IsSettled}
use Rattle.ash_release_laws.specs.Held.{HoldsNothing}

-- A full expression whose end is no release point: what can't be reached is collected until the call ends.
abbrev pub full_without_release : Run Word → Run Word
full_without_release run = run >>= (λ value. change (in_frame let_go) >> give value)

-- An operand whose end is that of a full expression: what is held is let go before the full expression ends.
abbrev pub operand_as_full : Run Word → Run Word
operand_as_full run = full run

-- A statement that is an expression, whose end is not that of a full expression: what is held is held on, and no
-- release point takes it.
abbrev pub evaluated_without_end : Run Word → Run (Unit {0})
evaluated_without_end run = run >> give tt

-- A frame that is left to its caller with all that it has, and not with its result alone.
abbrev pub back_with_all : List Frame → Word → Activity → Activity
back_with_all [] result activity = activity
back_with_all (caller ∷ callers) result activity =
    record activity {
      frame = holding (handles (result ∷ activity.frame.locals) ++ activity.frame.held) caller;
      callers = callers;
    }

abbrev pub leave_with_all : Word → Run Word
leave_with_all result = change (λ activity. back_with_all activity.callers result activity) >> release >> give result

-- A host object, the only one, that a frame with these locals and held handles has.
abbrev pub one_object : List Word → List ℕ → Activity
one_object locals held =
    record {
      world = record {
        globals = [];
        outside = [];
        objects = (1, Host 1 []) ∷ [];
        last = 1;
        services = [];
        pool = [];
        answers = [];
        events = [];
      };
      ticks = 1;
      frame = record { function = []; line = 1; this = words.Null; locals = locals; held = held };
      callers = [];
    }

-- `@c = null;`, if the local `c` is a handle to the object
abbrev pub clearing : Expr
clearing = Assign (Stored (variables.Local 0 (vars.Handle (objects.Host 1)))) Null

-- before it
abbrev pub before_clearing : Activity
before_clearing = one_object (words.Object 1 ∷ []) []

-- `f(C(), null)`, after its first argument, which is held, and before its second
abbrev pub between_arguments : Activity
between_arguments = one_object [] (1 ∷ [])

-- what these meanings make of these phrases

-- the assignment, whose end is no release point
abbrev pub late_clearing : Calls → Run Word
late_clearing calls = full_without_release (expression calls clearing)

-- the second argument, at whose end the first is let go
abbrev pub early_argument : Calls → Run Word
early_argument calls = operand_as_full (expression calls Null)

-- It comes to null, and the object is there although nothing leads to it.
pub record LeavesTooLate (run : Run Word) (first : Activity) : Type 0 where
  pub last : Activity
  pub runs : run first ≡ Done words.Null last
  pub there : Lives (last.world).objects 1
  pub unreached : ¬ Reaches last 1

-- It comes to null, and the object is gone although the full expression has not ended, and holds it.
pub record LeavesTooEarly (run : Run Word) (first : Activity) : Type 0 where
  pub last : Activity
  pub runs : run first ≡ Done words.Null last
  pub held : Contains (first.frame).held 1
  pub gone : ¬ Lives (last.world).objects 1

-- the assignment as a statement, at whose end nothing is let go
abbrev pub held_clearing : Calls → Run (Unit {0})
held_clearing calls = evaluated_without_end (expression calls clearing)

-- `f(c)`, if `f` does nothing, whose frame is left with all that it has
abbrev pub call_with_all : Run Word
call_with_all = enter [] 1 words.Null (words.Object 1 ∷ []) >> leave_with_all words.Null

-- It goes on with the object held, although its value is no handle. Everything can be reached: what is held is.
pub record HoldsOn {A : Type 0} (run : Run A) (first : Activity) : Type 0 where
  pub value : A
  pub last : Activity
  pub runs : run first ≡ Done value last
  pub nothing_held : HoldsNothing first
  pub held : (last.frame).held ≡ 1 ∷ []
  pub settled : IsSettled last
