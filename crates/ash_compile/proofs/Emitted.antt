-- Emitted code of expressions, phrase by phrase.
use Rattle.std.proofs.Common.{◌≡◌, ℕ, ◌+◌, sym, ap, ◌∙◌, subst, Bool}
use Rattle.std.specs.Prelude.{Some, Result, Ok, Err, IfOk, slice_get, pos}
use Rattle.ash_host.specs.declared.word.Word.TheVariants as words
use Rattle.ash_integers.specs.declared.int_type.IntType.{IntType}
use Rattle.ash_typed.specs.declared.types.VarType.{VarType}
use Rattle.ash_typed.specs.declared.types.VarType.TheVariants as vars
use Rattle.ash_typed.specs.declared.tree.operations.Variable.TheVariants as variables
use Rattle.ash_typed.specs.declared.tree.operations.Calculation.{Calculation}
use Rattle.ash_typed.specs.declared.tree.operations.Comparator.{Comparator}
use Rattle.ash_typed.specs.declared.tree.operations.Conversion.{Conversion}
use Rattle.ash_typed.specs.declared.tree.operations.Operands.{Operands}
use Rattle.ash_typed.specs.declared.tree.operations.Operation.{Operation}
use Rattle.ash_typed.specs.declared.tree.operations.Operation.TheVariants as operations
use Rattle.ash_typed.specs.declared.tree.operations.Change.{Change}
use Rattle.ash_typed.specs.TypeOf.{ValueType}
use Rattle.ash_typed.specs.TypedTree.{Expr, Number, Truth, Null, This, Read, Convert, Alter, Operate, Stored}
use Rattle.ash_typed.specs.declared.tree.expressions.ExprKind.{ExprKind}
use Rattle.ash_typed.specs.TypedTreeViews.{expr_in}
use Rattle.ash_typed.specs.SoundExpressions as typing
use Rattle.ash_typed.specs.SoundExpressions.{TypedEnvironment, IsWellTyped}
use Rattle.ash_meaning.specs.OperatorMeaning.{word_at}
use Rattle.ash_meaning.specs.ExpressionMeaning.{expression}
use Rattle.ash_code.specs.declared.instruction.Instruction.{Instruction}
use Rattle.ash_code.specs.declared.instruction.Instruction.TheVariants as i
use Rattle.ash_compile.specs.declared.builder.Written.{Written}
use Rattle.ash_compile.specs.Emission.{end_of, Puts, Scene, IsScene, Good, DoesExpression, Emits, calls_of, read_local}
use Rattle.ash_compile.proofs.Phrases as run
use Rattle.ash_compile.proofs.Emission.{emits_one, emits_then, emits_both}
use Rattle.ash_compile.specs.Conversions.{Converts, needless, converts}
use Rattle.ash_compile.proofs.Conversions.{unconverted, integer_in}
use Rattle.ash_compile.proofs.Typed.{evaluates, stays_good, value_alive, local_there, local_value, this_alive, global_alive, HasNoHandle, no_handle_in_bool, no_handle_in_integer}

-- what is Ok stays so

pub if_ok : {A E : Type 0} {P Q : A → Type 0} (r : Result A E) → ((v : A) → P v → Q v) → IfOk r P → IfOk r Q
if_ok (Ok v) next holds = next v holds
if_ok (Err e) next holds = tt

-- what the code's tree stands for
pub of_kind : (old new : Written) (k l : ExprKind) (e : Expr) (slot : ℕ) → k ≡ l → expr_in l ≡ e → Emits old new e slot
    → Emits old new (expr_in k) slot
of_kind old new k l e slot is means emits =
    subst (λ (x : Expr). Emits old new x slot) (sym (ap expr_in is ∙ means)) emits

-- one instruction

pub number : (old new : Written) (int_type : IntType) (n slot : ℕ)
    → Puts old new slot (i.Load (word_at int_type (pos n)) slot) → Emits old new (Number int_type n) slot
number old new int_type n slot puts =
    emits_one old new (Number int_type n) slot (i.Load (word_at int_type (pos n)) slot) puts
    (λ s of from scene typed within has.
    run.loads s.setting (Good s) s.function s.room (word_at int_type (pos n)) from slot within has)

pub truth : (old new : Written) (b : Bool) (slot : ℕ) → Puts old new slot (i.Load (words.Bool b) slot)
    → Emits old new (Truth b) slot
truth old new b slot puts =
    emits_one old new (Truth b) slot (i.Load (words.Bool b) slot) puts
    (λ s of from scene typed within has.
    run.loads s.setting (Good s) s.function s.room (words.Bool b) from slot within has)

pub nothing : (old new : Written) (slot : ℕ) → Puts old new slot (i.Load words.Null slot) → Emits old new Null slot
nothing old new slot puts =
    emits_one old new Null slot (i.Load words.Null slot) puts
    (λ s of from scene typed within has.
    run.loads s.setting (Good s) s.function s.room words.Null from slot within has)

pub own : (old new : Written) (class slot : ℕ) → Puts old new slot (i.This slot) → Emits old new (This class) slot
own old new class slot puts =
    emits_one old new (This class) slot (i.This slot) puts
    (λ s of from scene typed within has.
    run.own s.setting (Good s) s.function s.room from slot within has (λ a good. this_alive s a good))

pub typed_local : {env : TypedEnvironment} {n : ℕ} {of : VarType} {t : ValueType}
    → IsWellTyped env (Read (Stored (variables.Local n of))) t → slice_get env.locals n ≡ Some of
typed_local (typing.read (typing.local is)) = is

typed_global : {env : TypedEnvironment} {n : ℕ} {of : VarType} {t : ValueType}
    → IsWellTyped env (Read (Stored (variables.Global n of))) t → slice_get (env.signatures).globals n ≡ Some of
typed_global (typing.read (typing.global is)) = is

pub local : (old new : Written) (n slot : ℕ) (of : VarType) → Puts old new slot (i.Hold n slot)
    → Emits old new (Read (Stored (variables.Local n of))) slot
local old new n slot of puts =
    emits_one old new (Read (Stored (variables.Local n of))) slot (i.Hold n slot) puts
    (λ s t from scene typed within has.
    run.local s.setting (Good s) s.function s.room n from slot within has
    (λ a good. local_there s a n of good (typed_local typed))
    (λ a good. value_alive (s.context).program of _ a (local_value s a n of good (typed_local typed))))

pub plain_local : (old new : Written) (n slot : ℕ) (of : VarType) → HasNoHandle of → Puts old new slot (i.Move n slot)
    → Emits old new (Read (Stored (variables.Local n of))) slot
plain_local old new n slot of none puts =
    emits_one old new (Read (Stored (variables.Local n of))) slot (i.Move n slot) puts
    (λ s t from scene typed within has.
    run.plain_local s.setting (Good s) s.function s.room n from slot within has
    (λ a good. local_there s a n of good (typed_local typed))
    (λ a good. none (s.context).program (a.world).objects _ (local_value s a n of good (typed_local typed))))

pub a_local : (old new : Written) (n : ℕ) (of : VarType) (slot : ℕ) (j : Instruction) → j ≡ read_local n of slot
    → Puts old new slot j → Emits old new (Read (Stored (variables.Local n of))) slot
a_local old new n vars.Bool slot j is puts =
    plain_local old new n slot vars.Bool no_handle_in_bool (subst (λ (x : Instruction). Puts old new slot x) is puts)
a_local old new n (vars.Integer t) slot j is puts =
    plain_local old new n slot (vars.Integer t) (no_handle_in_integer t)
    (subst (λ (x : Instruction). Puts old new slot x) is puts)
a_local old new n (vars.Object of) slot j is puts =
    local old new n slot (vars.Object of) (subst (λ (x : Instruction). Puts old new slot x) is puts)
a_local old new n (vars.Handle of) slot j is puts =
    local old new n slot (vars.Handle of) (subst (λ (x : Instruction). Puts old new slot x) is puts)

pub global : (old new : Written) (n slot : ℕ) (of : VarType) → Puts old new slot (i.ReadGlobal n slot)
    → Emits old new (Read (Stored (variables.Global n of))) slot
global old new n slot of puts =
    emits_one old new (Read (Stored (variables.Global n of))) slot (i.ReadGlobal n slot) puts
    (λ s t from scene typed within has.
    run.global s.setting (Good s) s.function s.room n from slot within has
    (λ a good. global_alive s a n of scene good (typed_global typed)))

-- operators of one operand

pub typed_converted : {env : TypedEnvironment} {conversion : Conversion} {e : Expr} {t : ValueType}
    → IsWellTyped env (Convert conversion e) t → (inner : ValueType) × IsWellTyped env e inner
typed_converted (typing.convert typed) = (_, typed)

pub convert : (start old new : Written) (conversion : Conversion) (e : Expr) (slot : ℕ) → Emits start old e slot
    → Puts old new slot (i.Convert conversion.to slot slot) → Emits start new (Convert conversion e) slot
convert start old new conversion e slot first puts =
    emits_then start old new e (Convert conversion e) slot (i.Convert conversion.to slot slot) first puts
    (λ s of typed. typed_converted typed)
    (λ s of from at scene typed does has.
    run.converts s.setting (Good s) s.function s.room conversion.to (expression (calls_of s) e) from at slot does has)

unconverted_here : (s : Scene) (conversion : Conversion) (e : Expr) (t : ValueType) (from to slot : ℕ) → IsScene s
    → conversion.from ≡ conversion.to → IsWellTyped s.env (Convert conversion e) t → DoesExpression s e from to slot
    → DoesExpression s (Convert conversion e) from to slot
unconverted_here s conversion e _ from to slot scene same (typing.convert {from = f} {to = t} typed) does =
    run.computes_here s.setting (Good s) s.function s.room (expression (calls_of s) e)
    (expression (calls_of s) (Convert conversion e)) from to slot
    (λ a good. unconverted f t (expression (calls_of s) e a) same
    (λ v b ran. integer_in v (((evaluates s e _ a b v scene typed good ran).carried).value)))
    does

pub unconverted_so : (start old : Written) (conversion : Conversion) (e : Expr) (slot : ℕ)
    → conversion.from ≡ conversion.to → Emits start old e slot → Emits start old (Convert conversion e) slot
unconverted_so start old conversion e slot same first = record {
  keeps = first.keeps;
  does = λ s of scene typed stands within.
      unconverted_here s conversion e of (end_of start) (end_of old) slot scene same typed
      (first.does s (typed_converted typed).0 scene (typed_converted typed).1 stands within);
}

pub converted_by : (start old new : Written) (conversion : Conversion) (e : Expr) (slot : ℕ)
    → Converts old new conversion.from conversion.to slot → Emits start old e slot
    → Emits start new (Convert conversion e) slot
converted_by start old new conversion e slot (needless same is) first =
    subst (λ (c : Written). Emits start c (Convert conversion e) slot) (sym is)
    (unconverted_so start old conversion e slot same first)
converted_by start old new conversion e slot (converts puts) first =
    convert start old new conversion e slot first puts

typed_altered : {env : TypedEnvironment} {change : Change} {e : Expr} {t : ValueType}
    → IsWellTyped env (Alter change e) t → (inner : ValueType) × IsWellTyped env e inner
typed_altered (typing.alter is typed) = (_, typed)

pub alter : (start old new : Written) (change : Change) (e : Expr) (slot : ℕ) → Emits start old e slot
    → Puts old new slot (i.Alter change slot slot) → Emits start new (Alter change e) slot
alter start old new change e slot first puts =
    emits_then start old new e (Alter change e) slot (i.Alter change slot slot) first puts
    (λ s of typed. typed_altered typed)
    (λ s of from at scene typed does has.
    run.alters s.setting (Good s) s.function s.room change (expression (calls_of s) e) from at slot does has)

-- operators of two operands

pub typed_left : {env : TypedEnvironment} {operation : Operation} {a b : Expr} {t : ValueType}
    → IsWellTyped env (Operate operation a b) t → (inner : ValueType) × IsWellTyped env a inner
typed_left (typing.calculate x y) = (_, x)
typed_left (typing.shift is x y) = (_, x)
typed_left (typing.compare is x left y right) = (_, x)

pub typed_right : {env : TypedEnvironment} {operation : Operation} {a b : Expr} {t : ValueType}
    → IsWellTyped env (Operate operation a b) t → (inner : ValueType) × IsWellTyped env b inner
typed_right (typing.calculate x y) = (_, y)
typed_right (typing.shift is x y) = (_, y)
typed_right (typing.compare is x left y right) = (_, y)

pub calculate : (start mid old new : Written) (calculation : Calculation) (a b : Expr) (slot : ℕ)
    → Emits start mid a slot → Emits mid old b (slot + 1)
    → Puts old new slot (i.Calculate calculation slot (slot + 1) slot)
    → Emits start new (Operate (operations.Calculate calculation) a b) slot
calculate start mid old new calculation a b slot first second puts =
    emits_both start mid old new a b (Operate (operations.Calculate calculation) a b) slot
    (i.Calculate calculation slot (slot + 1) slot) first second puts
    (λ s of typed. typed_left typed) (λ s of typed. typed_right typed)
    (λ s of from between at scene typed left right has.
    run.calculates s.setting (Good s) s.function s.room calculation (expression (calls_of s) a) (expression (calls_of s) b)
    from between at slot left right has
    (λ x y v good ran. stays_good s a (typed_left typed).0 x y v scene (typed_left typed).1 good ran))

pub compare : (start mid old new : Written) (comparator : Comparator) (operands : Operands) (a b : Expr) (slot : ℕ)
    → Emits start mid a slot → Emits mid old b (slot + 1)
    → Puts old new slot (i.Compare comparator operands slot (slot + 1) slot)
    → Emits start new (Operate (operations.Compare comparator operands) a b) slot
compare start mid old new comparator operands a b slot first second puts =
    emits_both start mid old new a b (Operate (operations.Compare comparator operands) a b) slot
    (i.Compare comparator operands slot (slot + 1) slot) first second puts
    (λ s of typed. typed_left typed) (λ s of typed. typed_right typed)
    (λ s of from between at scene typed left right has.
    run.compares s.setting (Good s) s.function s.room comparator operands (expression (calls_of s) a)
    (expression (calls_of s) b) from between at slot left right has
    (λ x y v good ran. stays_good s a (typed_left typed).0 x y v scene (typed_left typed).1 good ran))
