-- The code of casts.
use Rattle.std.proofs.Common.{◌≡◌, ℕ, ◌+◌, refl, sym, ap, ◌∙◌, Bool}
use Rattle.std.specs.Prelude.{Some, if◌then◌else◌}
use Rattle.ash_host.specs.declared.word.Word.{Word}
use Rattle.ash_host.specs.declared.word.Word.TheVariants as words
use Rattle.ash_host.specs.Objects.{object_at}
use Rattle.ash_typed.specs.declared.types.ObjectType.{ObjectType}
use Rattle.ash_typed.specs.TypeOf.{ValueType}
use Rattle.ash_typed.specs.TypedTree.{Expr, Cast}
use Rattle.ash_typed.specs.SoundExpressions as typing
use Rattle.ash_typed.specs.SoundExpressions.{TypedEnvironment, IsWellTyped}
use Rattle.ash_meaning.specs.Activity.{Activity}
use Rattle.ash_meaning.specs.Runs.{Progress}
use Rattle.ash_meaning.specs.CallMeaning as meaning
use Rattle.ash_meaning.specs.Classes.{Program}
use Rattle.ash_meaning.specs.ExpressionMeaning.{expression}
use Rattle.ash_run_steps.specs.Guarded.{Guarded, onward as guarded_onward}
use Rattle.ash_code.specs.declared.instruction.Instruction.TheVariants as i
use Rattle.ash_code.specs.Controls.{control}
use Rattle.ash_code.specs.Performing.{Next, put, classes_of, own_name}
use Rattle.ash_code.specs.Steps as steps
use Rattle.ash_compile.specs.declared.builder.Written.{Written}
use Rattle.ash_compile.specs.Emission.{Puts, Scene, IsScene, Good, DoesExpression, Emits, calls_of}
use Rattle.ash_compile.proofs.Simulation.{frame_in, by_one}
use Rattle.ash_compile.proofs.Phrases.{KeepsLocals}
use Rattle.ash_compile.proofs.Emission.{HasAt, emits_then}
use Rattle.ash_compile.proofs.ClassTables.{object_fits}
use Rattle.ash_compile.proofs.Implemented.{are_implemented}

-- Code casts as the module does.
cast_is : (s : Scene) (to : ObjectType) (x : Word) (b : Activity) (next : Word → Guarded Next) → IsScene s
    → guarded_onward (steps.cast (own_name s.setting) (classes_of s.setting) to x b) next
    ≡ guarded_onward (Some (meaning.cast (s.context).program to x b)) next
cast_is s to words.Null b next scene = refl
cast_is s to (words.Bool t) b next scene = refl
cast_is s to (words.Int n) b next scene = refl
cast_is s to (words.Uint n) b next scene = refl
cast_is s to (words.Int64 n) b next scene = refl
cast_is s to (words.Uint64 n) b next scene = refl
cast_is s to (words.Object number) b next scene =
    ap (λ (t : Bool). next (if t then words.Object number else words.Null) b)
    (object_fits s.setting (s.context).program scene.owner scene.classes (are_implemented scene.sound) to
    (object_at number (b.world).objects))

cast_keeps : (p : Program) (to : ObjectType) (x : Word) → KeepsLocals (meaning.cast p to x)
cast_keeps p to words.Null a b v ran = ap (λ (q : Progress Word). (frame_in a.frame q).locals) (sym ran)
cast_keeps p to (words.Bool t) a b v ran = ap (λ (q : Progress Word). (frame_in a.frame q).locals) (sym ran)
cast_keeps p to (words.Int n) a b v ran = ap (λ (q : Progress Word). (frame_in a.frame q).locals) (sym ran)
cast_keeps p to (words.Uint n) a b v ran = ap (λ (q : Progress Word). (frame_in a.frame q).locals) (sym ran)
cast_keeps p to (words.Int64 n) a b v ran = ap (λ (q : Progress Word). (frame_in a.frame q).locals) (sym ran)
cast_keeps p to (words.Uint64 n) a b v ran = ap (λ (q : Progress Word). (frame_in a.frame q).locals) (sym ran)
cast_keeps p to (words.Object number) a b v ran = ap (λ (q : Progress Word). (frame_in a.frame q).locals) (sym ran)

does_cast : (s : Scene) (to : ObjectType) (e : Expr) (from at slot : ℕ) → IsScene s → DoesExpression s e from at slot
    → HasAt s at (i.Cast to slot slot) → DoesExpression s (Cast to e) from (at + 1) slot
does_cast s to e from at slot scene first has =
    by_one s.setting (Good s) s.function s.room (expression (calls_of s) e) (meaning.cast (s.context).program to)
    (i.Cast to slot slot) from at slot first has
    (λ w a b l good ran fits is.
    ap (λ (x : Word). guarded_onward (steps.cast (own_name s.setting) (classes_of s.setting) to x b)
    (put slot (control s.function at w))) is
    ∙ cast_is s to l b (put slot (control s.function at w)) scene)
    (λ l v b d ran. cast_keeps (s.context).program to l b d v ran)

typed_cast : {env : TypedEnvironment} {to : ObjectType} {e : Expr} {t : ValueType} → IsWellTyped env (Cast to e) t
    → (inner : ValueType) × IsWellTyped env e inner
typed_cast (typing.cast is typed) = (_, typed)

pub cast : (start old new : Written) (to : ObjectType) (e : Expr) (slot : ℕ) → Emits start old e slot
    → Puts old new slot (i.Cast to slot slot) → Emits start new (Cast to e) slot
cast start old new to e slot first puts =
    emits_then start old new e (Cast to e) slot (i.Cast to slot slot) first puts (λ s of typed. typed_cast typed)
    (λ s of from at scene typed does has. does_cast s to e from at slot scene does has)
