-- What the laws of sound modules say of the activities in which expressions run.
use Rattle.std.proofs.Common.{◌≡◌, ◌≤◌, ◌<◌, ℕ, zero, suc, List, [], ◌∷◌, length, refl, sym, ap, ◌∙◌, subst, arith, true, false, Bool}
use Rattle.std.specs.Prelude.{Option, Some, None, slice_get, slice_index_or, IsSome, is_some}
use Rattle.std.specs.Option.{option_map_or}
use Rattle.std.proofs.lemmas.Option.{slice_get_within, same_Some}
use Rattle.ash_host.specs.declared.word.Word.{Word}
use Rattle.ash_host.specs.declared.word.Word.TheVariants as words
use Rattle.ash_host.specs.Objects.{Plain, LiveObjects, object_at, handle, Lives}
use Rattle.ash_typed.specs.declared.types.VarType.{VarType}
use Rattle.ash_typed.specs.declared.types.VarType.TheVariants as vars
use Rattle.ash_typed.specs.TypeOf.{ValueType, value}
use Rattle.ash_typed.specs.TypedTree.{Expr}
use Rattle.ash_typed.specs.Signatures.{ModuleSignatures}
use Rattle.ash_typed.specs.SoundExpressions.{TypedEnvironment, IsWellTyped}
use Rattle.ash_meaning.specs.Activity.{Activity}
use Rattle.ash_meaning.specs.Runs.{Run, Progress, Done, Ended, NoStep}
use Rattle.ash_meaning.specs.OperatorMeaning.{is_true}
use Rattle.ash_meaning.specs.ExpressionMeaning.{expression}
use Rattle.ash_meaning.specs.Classes.{Program}
use Rattle.ash_meaning.specs.MeaningLaws.{LeavesAtMost}
use Rattle.ash_meaning.proofs.Ticks.{ticks_fall}
use Rattle.ash_soundness.specs.WellFormed.{Context, IsReference, to_nothing, to_object, IsInteger, int, uint, int64, uint64}
use Rattle.ash_soundness.specs.WellFormed.{IsValue, is_truth, is_integer, is_object, is_handle, AreValues, no_values, and_value}
use Rattle.ash_soundness.specs.WellFormed.{IsGiven, gives_nothing, gives_null, gives, IsWellFormed}
use Rattle.ash_soundness.specs.WellFormed.{IsThis, no_this, is_this}
use Rattle.ash_soundness.specs.WellFormedLaws.{Leaves, done, ended, no_step, Evaluates}
use Rattle.ash_soundness.proofs.SoundStaysSound as sound
use Rattle.ash_soundness.proofs.Values.{value_lives, shape_lives, integer_is_none}
use Rattle.ash_run_steps.specs.GuardedSteps.{is_alive}
use Rattle.ash_compile.specs.Emission.{Scene, IsScene, calls_of, Good}

-- what an expression leaves

abbrev LeftIn : {A : Type 0} → (A → Activity → Type 0) → Progress A → Type 0
LeftIn Left (Done v b) = Left v b
LeftIn Left (Ended i b) = Unit {0}
LeftIn Left NoStep = Unit {0}

left_in : {A : Type 0} {c : Context} {Left : A → Activity → Type 0} {p : Progress A} → Leaves c Left p → LeftIn Left p
left_in (done left) = left
left_in (ended safe) = tt
left_in (no_step offers) = tt

pub left_done : {A : Type 0} {c : Context} {Left : A → Activity → Type 0} {p : Progress A} (v : A) (b : Activity)
    → Leaves c Left p → p ≡ Done v b → Left v b
left_done {Left = Left} v b leaves is = subst (λ (q : Progress _). LeftIn Left q) is (left_in leaves)

pub evaluates : (s : Scene) (e : Expr) (of : ValueType) (a b : Activity) (v : Word) → IsScene s → IsWellTyped s.env e of
    → Good s a → expression (calls_of s) e a ≡ Done v b → Evaluates s.context s.env s.envs of a v b
evaluates s e of a b v scene typed good ran =
    left_done v b
    (sound.expressions_keep scene.sound s.depth s.env s.envs e of a scene.declares typed good.0) ran

-- what has at most so many ticks left, at its end
pub most_left : {A : Type 0} (p : Progress A) (n : ℕ) (v : A) (b : Activity) → LeavesAtMost n p → p ≡ Done v b → b.ticks ≤ n
most_left p n v b left is = subst (λ q. LeavesAtMost n q) is left

-- An expression spends ticks, and gains none.
pub fewer_ticks : (s : Scene) (e : Expr) (a b : Activity) (v : Word) → Good s a → expression (calls_of s) e a ≡ Done v b
    → b.ticks ≤ a.ticks
fewer_ticks s e a b v good ran =
    most_left (expression (calls_of s) e a) a.ticks v b
    (((ticks_fall (s.context).program s.depth).phrases).expressions e a good.1) ran

pub stays_good : (s : Scene) (e : Expr) (of : ValueType) (a b : Activity) (v : Word) → IsScene s → IsWellTyped s.env e of
    → Good s a → expression (calls_of s) e a ≡ Done v b → Good s b
stays_good s e of a b v scene typed good ran = (
  ((evaluates s e of a b v scene typed good ran).goes).passes.well,
  omega (arith, fewer_ticks s e a b v good ran, good.1),
)

-- words of a type

pub alive_of : (w : Word) (o : Option ℕ) (a : Activity) → handle w ≡ o
    → ((n : ℕ) → o ≡ Some n → Lives (a.world).objects n) → is_alive w a ≡ true
alive_of w None a is lives = ap (λ (o : Option ℕ). option_map_or (λ number. is_some (object_at number (a.world).objects)) o true) is
alive_of w (Some n) a is lives =
    ap (λ (o : Option ℕ). option_map_or (λ number. is_some (object_at number (a.world).objects)) o true) is ∙ lives n refl

pub value_alive : (p : Program) (of : VarType) (w : Word) (a : Activity) → IsValue p (a.world).objects of w → is_alive w a ≡ true
value_alive p of w a v = alive_of w (handle w) a refl (λ n is. value_lives n v is)

pub truth_is : {p : Program} {all : LiveObjects (List ℕ)} (w : Word) → IsGiven p all (value vars.Bool) w → w ≡ words.Bool (is_true w)
truth_is w (gives is_truth) = refl

-- a type of no objects
abbrev pub HasNoHandle : VarType → Type 0
HasNoHandle of = (p : Program) (all : LiveObjects (List ℕ)) (w : Word) → IsValue p all of w → handle w ≡ None

integer_has_none : {int_type : _} (w : Word) → IsInteger int_type w → handle w ≡ None
integer_has_none w (int f) = refl
integer_has_none w (uint f) = refl
integer_has_none w (int64 f) = refl
integer_has_none w (uint64 f) = refl

pub no_handle_in_bool : HasNoHandle vars.Bool
no_handle_in_bool p all w is_truth = refl

pub no_handle_in_integer : (int_type : _) → HasNoHandle (vars.Integer int_type)
no_handle_in_integer int_type p all w (is_integer i) = integer_has_none w i

-- words of a list of types

pub values_long : {p : Program} {all : LiveObjects (List ℕ)} {types : List VarType} {ws : List Word} → AreValues p all types ws
    → length ws ≡ length types
values_long no_values = refl
values_long (and_value v vs) = ap suc (values_long vs)

some_value : {p : Program} {all : LiveObjects (List ℕ)} {w : Word} (t of : VarType) → IsValue p all t w → Some t ≡ Some of
    → IsValue p all of w
some_value {p} {all} {w} t of v is = subst (λ (x : VarType). IsValue p all x w) (same_Some t of is) v

value_at : {p : Program} {all : LiveObjects (List ℕ)} {types : List VarType} {ws : List Word} (k : ℕ) (of : VarType)
    → AreValues p all types ws → slice_get types k ≡ Some of → IsValue p all of (slice_index_or ws k words.Null)
value_at k of no_values is = absurd (cc)
value_at zero of (and_value {of = t} v vs) is = some_value t of v is
value_at (suc k) of (and_value v vs) is = value_at k of vs is

-- the locals of a good activity

pub local_there : (s : Scene) (a : Activity) (n : ℕ) (of : VarType) → Good s a → slice_get (s.env).locals n ≡ Some of
    → n < length (a.frame).locals
local_there s a n of good is =
    omega (arith, values_long ((good.0).frame).locals, slice_get_within (s.env).locals n of is)

pub local_value : (s : Scene) (a : Activity) (n : ℕ) (of : VarType) → Good s a → slice_get (s.env).locals n ≡ Some of
    → IsValue (s.context).program (a.world).objects of (slice_index_or (a.frame).locals n words.Null)
local_value s a n of good is = value_at n of ((good.0).frame).locals is

pub this_lives : {p : Program} {all : LiveObjects (List ℕ)} {class : Option ℕ} {w : Word} (n : ℕ) → IsThis p all class w
    → handle w ≡ Some n → Lives all n
this_lives n no_this is = absurd (cc)
this_lives {all = all} n (is_this {number = number} {shape = shape} at of) is =
    subst (λ (k : ℕ). Lives all k) (same_Some number n is) (shape_lives number all shape at)

pub this_alive : (s : Scene) (a : Activity) → Good s a → is_alive (a.frame).this a ≡ true
this_alive s a good = alive_of (a.frame).this (handle (a.frame).this) a refl (λ n is. this_lives n ((good.0).frame).this is)

-- the globals of one

pub global_alive : (s : Scene) (a : Activity) (n : ℕ) (of : VarType) → IsScene s → Good s a
    → slice_get ((s.env).signatures).globals n ≡ Some of
    → is_alive (slice_index_or (a.world).globals n words.Null) a ≡ true
global_alive s a n of scene good is =
    value_alive (s.context).program of (slice_index_or (a.world).globals n words.Null) a
    (value_at n of ((good.0).world).globals (ap (λ (m : ModuleSignatures). slice_get m.globals n) (sym scene.declares) ∙ is))
