-- Emitted code of full expressions and of variables.
use Rattle.std.proofs.Common.{◌≡◌, ℕ, ◌+◌, List, [], ◌∷◌, ◌++◌, length, refl, sym, ap, ◌∙◌, subst, arith}
use Rattle.std.proofs.Common.{append_assoc, append-nil, length-append}
use Rattle.std.specs.Prelude.{Option, Some, None, slice_get}
use Rattle.ash_host.specs.declared.word.Word.{Word}
use Rattle.ash_typed.specs.declared.types.VarType.{VarType}
use Rattle.ash_typed.specs.TypedTree.{Expr}
use Rattle.ash_typed.specs.StatementTree.{Initialization, no_head, declared_head, evaluated_head}
use Rattle.ash_typed.specs.SoundExpressions.{Fits, fits}
use Rattle.ash_typed.specs.SoundStatements.{IsEvaluated, IsSoundBeginning, AreSoundDeclarations, none_declared, and_declared}
use Rattle.ash_typed.specs.SoundStatements.{IsSoundHead, head_is_empty, head_declares, head_evaluates}
use Rattle.ash_meaning.specs.OperatorMeaning.{zero_of}
use Rattle.ash_meaning.specs.ExpressionMeaning.{expression}
use Rattle.ash_meaning.specs.StatementMeaning.{evaluate, condition, declare_all, begin}
use Rattle.ash_code.specs.declared.instruction.Instruction.{Instruction}
use Rattle.ash_code.specs.declared.instruction.Instruction.TheVariants as i
use Rattle.ash_compile.specs.declared.builder.Written.{Written}
use Rattle.ash_compile.specs.declared.bodies.Condition.TheVariants as conditions
use Rattle.ash_compile.specs.Performances.{Acts, Decides}
use Rattle.ash_compile.specs.Emission.{code_of, end_of, Keeps, Puts, Scene, IsScene, Suits, Good, Stands, DoesExpression, Emits, calls_of}
use Rattle.ash_compile.specs.Operands.{Affects}
use Rattle.ash_compile.specs.EmittedStatements.{EmitsEvaluation, EmitsFull, EmitsEvaluations, EmitsVariable}
use Rattle.ash_compile.specs.EmittedStatements.{EmitsVariables, EmitsHead}
use Rattle.ash_compile.specs.EmittedStatements.{Tests, DoesActs}
use Rattle.ash_compile.proofs.Emission.{HasAt, keeps_on, put_keeps, put_one, put_there, put_within, suits_before, stands_before, stands_after, has_put}
use Rattle.ash_compile.proofs.TypedStatements.{ranked_of}
use Rattle.ash_compile.proofs.StatementCode.{does_evaluation, does_no_steps, does_steps, does_condition}
use Rattle.ash_compile.proofs.BlockCode.{with_types, still_scene, beginning, begins_fitting, does_zero, does_value}
use Rattle.ash_compile.proofs.BlockCode.{does_no_declarations, does_declarations}

pub keeps_same : (c : Written) → Keeps c c
keeps_same c = record { longer = omega arith; same = λ k low. refl; slots = omega arith; layout = refl }

-- what is put stays
pub put_stays : (old mid new : Written) (slot : ℕ) (j : Instruction) → Puts old mid slot j → Keeps mid new
    → slice_get (code_of new) (end_of old) ≡ Some j
put_stays old mid new slot j puts keeps =
    keeps.same (end_of old) (omega (arith, put_one old mid slot j puts)) ∙ put_there old mid slot j puts

-- the same scene, with more locals
pub suits_still : (s : Scene) (types : List VarType) (c : Written) → Suits s c → Suits (with_types s types) c
suits_still s types c suits = record { slots = suits.slots; layout = suits.layout }

-- full expressions

pub evaluation_keeps : (old new : Written) (e : Expr) (slot : ℕ) → EmitsEvaluation old new e slot → Keeps old new
evaluation_keeps old new e slot emits =
    keeps_on old emits.mid new (emits.emits).keeps (put_keeps emits.mid new slot i.EndExpression emits.puts)

pub full_keeps : (old new : Written) (e : Expr) (slot : ℕ) → EmitsFull old new e slot → Keeps old new
full_keeps old new e slot emits =
    keeps_on old emits.mid new (emits.emits).keeps (put_keeps emits.mid new slot i.EndExpression emits.puts)

pub evaluation_does : (old new : Written) (e : Expr) (slot : ℕ) → EmitsEvaluation old new e slot
    → (s : Scene) → IsScene s → slot ≡ length (s.env).locals → IsEvaluated s.env e
    → Stands s (code_of new) (end_of old) (end_of new) → Suits s new
    → DoesActs s (evaluate (calls_of s) e) (end_of old) (end_of new) (length (s.env).locals)
evaluation_does old new e slot emits s scene is typed stands suits =
    let mid = emits.mid in
    let keeps = put_keeps mid new slot i.EndExpression emits.puts in
    subst (λ (to : ℕ). DoesActs s (evaluate (calls_of s) e) (end_of old) to (length (s.env).locals))
    (sym (put_one mid new slot i.EndExpression emits.puts))
    (does_evaluation s scene (ranked_of s scene) e typed.0 (end_of old) (end_of mid) typed.1
    (subst (λ (n : ℕ). Affects s.setting (Good s) s.function s.room (expression (calls_of s) e) (end_of old) (end_of mid) n)
    is ((emits.emits).does s typed.0 scene typed.1 (stands_before s mid new (end_of old) keeps stands)
    (suits_before s mid new keeps suits)))
    (has_put s mid new (end_of old) slot i.EndExpression ((emits.emits).keeps).longer emits.puts stands))

pub no_evaluations : (c : Written) (slot : ℕ) → EmitsEvaluations c c [] slot
no_evaluations c slot = record {
  keeps = keeps_same c;
  does = λ s scene is typed stands suits. does_no_steps s scene (ranked_of s scene) (end_of c);
}

pub more_evaluations : (old mid new : Written) (e : Expr) (es : List Expr) (slot : ℕ)
    → EmitsEvaluation old mid e slot → EmitsEvaluations mid new es slot → EmitsEvaluations old new (e ∷ es) slot
more_evaluations old mid new e es slot first rest = record {
  keeps = keeps_on old mid new (evaluation_keeps old mid e slot first) rest.keeps;
  does = λ s scene is typed stands suits.
      does_steps s scene (ranked_of s scene) e es (end_of old) (end_of mid) (end_of new) typed.0
      (evaluation_does old mid e slot first s scene is typed.0 (stands_before s mid new (end_of old) rest.keeps stands)
      (suits_before s mid new rest.keeps suits))
      (rest.does s scene is typed.1
      (stands_after s (code_of new) (end_of old) (end_of mid) (end_of new) (evaluation_keeps old mid e slot first).longer
      stands) suits);
}

-- conditions

-- A truth value in its slot is tested.
pub truth_tests : (start old new : Written) (e : Expr) (slot at : ℕ) {pending : ℕ} → Emits start old e slot
    → Puts old new slot (i.Branch slot pending) → at ≡ end_of old
    → Tests start new e slot (record { at = at; condition = conditions.Truth slot })
truth_tests start old new e slot at {pending} emits puts at_is = record {
  keeps = keeps_on start old new emits.keeps last;
  later = omega (arith, at_is, (emits.keeps).longer);
  end = one ∙ ap (λ (n : ℕ). n + 1) (sym at_is);
  does = λ s unmet scene is typed stands has suits.
      subst (λ (to : ℕ). Decides s.setting (Good s) s.function s.room (condition (calls_of s) e) (end_of start) to unmet
      (length (s.env).locals)) (sym one)
      (does_condition s scene (ranked_of s scene) e (end_of start) (end_of old) unmet typed
      (subst (λ (n : ℕ). DoesExpression s e (end_of start) (end_of old) n) is
      (emits.does s _ scene typed
      (λ k low high. stands k low (omega (arith, high, at_is)) ∙ last.same k high) (suits_before s old new last suits)))
      (subst (λ (n : ℕ). HasAt s (end_of old) (i.Branch n unmet)) is
      (subst (λ (n : ℕ). HasAt s n (i.Branch slot unmet)) at_is has)));
}
  where
    one : end_of new ≡ end_of old + 1
    one = put_one old new slot (i.Branch slot pending) puts

    last : Keeps old new
    last = put_keeps old new slot (i.Branch slot pending) puts

-- variables

one_longer : (s : Scene) (of : VarType) → length ((s.env).locals ++ of ∷ []) ≡ length (s.env).locals + 1
one_longer s of = length-append (s.env).locals (of ∷ [])

pub no_variables : (c : Written) (locals : ℕ) → EmitsVariables c c [] locals locals
no_variables c locals = record {
  keeps = keeps_same c;
  does = λ s types scene is sound stands suits. none s types scene is sound;
}
  where
    none : (s : Scene) (types : List VarType) → IsScene s → locals ≡ length (s.env).locals
        → AreSoundDeclarations s.env [] types
        → (locals ≡ length ((s.env).locals ++ types))
        × DoesActs s (declare_all (calls_of s) []) (end_of c) (end_of c) locals
    none s types scene is none_declared = (
      is ∙ sym (ap length (append-nil (s.env).locals)),
      subst (λ (n : ℕ). DoesActs s (declare_all (calls_of s) []) (end_of c) (end_of c) n) (sym is)
          (does_no_declarations s scene (ranked_of s scene) (end_of c) (length (s.env).locals)),
    )

-- What a variable begins with, and then the variables after it.
pub more_variables : (old new : Written) (v : Initialization) (locals : ℕ) → Keeps old new
    → ((s : Scene) → IsScene s → locals ≡ length (s.env).locals → IsSoundBeginning s.env v.of v.value
    → Stands s (code_of new) (end_of old) (end_of new) → Suits s new
    → DoesActs s (beginning s v.of v.value) (end_of old) (end_of new) (length (s.env).locals + 1))
    → EmitsVariable old new v locals
more_variables old new v locals keeps first end vs more rest = record {
  keeps = keeps_on old new end keeps rest.keeps;
  does = λ s types scene is sound stands suits. next s types scene is sound stands suits;
}
  where
    next : (s : Scene) (types : List VarType) → IsScene s → locals ≡ length (s.env).locals
        → AreSoundDeclarations s.env (v ∷ vs) types
        → Stands s (code_of end) (end_of old) (end_of end) → Suits s end
        → (more ≡ length ((s.env).locals ++ types))
        × DoesActs s (declare_all (calls_of s) (v ∷ vs)) (end_of old) (end_of end) more
    next s types scene is (and_declared {types = ts} begins sound) stands suits =
        let later = rest.does (with_types s (v.of ∷ [])) ts (still_scene s (v.of ∷ []) scene)
        (ap (λ (n : ℕ). n + 1) is ∙ sym (one_longer s v.of)) sound
        (stands_after s (code_of end) (end_of old) (end_of new) (end_of end) keeps.longer stands)
        (suits_still s (v.of ∷ []) end suits) in (
          later.0 ∙ ap length (append_assoc (s.env).locals (v.of ∷ []) ts),
          does_declarations s scene (ranked_of s scene) v vs (end_of old) (end_of new) (end_of end) more begins.value
              (first s scene is begins.value (stands_before s new end (end_of old) rest.keeps stands)
              (suits_before s new end rest.keeps suits))
              (subst (λ (n : ℕ). Acts s.setting (Good (with_types s (v.of ∷ []))) s.function s.room (declare_all (calls_of s) vs)
              (end_of new) (end_of end) n more) (one_longer s v.of) later.1),
        )

pub zero_variable : (old mid new : Written) (v : Initialization) (locals : ℕ) (word : Word) → v.value ≡ None
    → word ≡ zero_of v.of
    → Puts old mid locals (i.Load word locals) → Puts mid new locals i.Declare
    → EmitsVariable old new v locals
zero_variable old mid new v locals word none same loads declares =
    more_variables old new v locals (keeps_on old mid new (put_keeps old mid locals (i.Load word locals) loads) last)
    (λ s scene is begins stands suits.
    subst (λ (o : Option Expr). DoesActs s (beginning s v.of o) (end_of old) (end_of new) (length (s.env).locals + 1))
    (sym none)
    (subst (λ (n : ℕ). DoesActs s (beginning s v.of None) (end_of old) n (length (s.env).locals + 1))
    (sym (put_one mid new locals i.Declare declares
    ∙ ap (λ (n : ℕ). n + 1) (put_one old mid locals (i.Load word locals) loads)))
    (does_zero s scene (ranked_of s scene) v.of (end_of old)
    (omega (arith, is, put_within s mid new locals i.Declare scene declares suits))
    (subst (λ (n : ℕ). HasAt s (end_of old) (i.Load (zero_of v.of) n)) is
    (subst (λ (w : Word). HasAt s (end_of old) (i.Load w locals)) same
    (has_put s old mid (end_of old) locals (i.Load word locals) (omega arith) loads
    (stands_before s mid new (end_of old) last stands))))
    (subst (λ (n : ℕ). HasAt s n i.Declare) (put_one old mid locals (i.Load word locals) loads)
    (has_put s mid new (end_of old) locals i.Declare
    (omega (arith, put_one old mid locals (i.Load word locals) loads)) declares stands)))))
  where
    last : Keeps mid new
    last = put_keeps mid new locals i.Declare declares

pub value_variable : (old mid new : Written) (v : Initialization) (locals : ℕ) (e : Expr) → v.value ≡ Some e
    → Emits old mid e locals → Puts mid new locals i.DeclareAndEnd
    → EmitsVariable old new v locals
value_variable old mid new v locals e some emits declares =
    more_variables old new v locals (keeps_on old mid new emits.keeps last)
    (λ s scene is begins stands suits.
    subst (λ (o : Option Expr). DoesActs s (beginning s v.of o) (end_of old) (end_of new) (length (s.env).locals + 1))
    (sym some)
    (by_fitting s scene is
    (begins_fitting s scene (subst (λ (o : Option Expr). IsSoundBeginning s.env v.of o) some begins)) stands suits))
  where
    last : Keeps mid new
    last = put_keeps mid new locals i.DeclareAndEnd declares

    by_fitting : (s : Scene) → IsScene s → locals ≡ length (s.env).locals → Fits s.env v.of e
        → Stands s (code_of new) (end_of old) (end_of new) → Suits s new
        → DoesActs s (beginning s v.of (Some e)) (end_of old) (end_of new) (length (s.env).locals + 1)
    by_fitting s scene is (fits typed subtype) stands suits =
        subst (λ (n : ℕ). DoesActs s (beginning s v.of (Some e)) (end_of old) n (length (s.env).locals + 1))
        (sym (put_one mid new locals i.DeclareAndEnd declares))
        (does_value s scene (ranked_of s scene) v.of e _ (end_of old) (end_of mid) typed
        (subst (λ (n : ℕ). DoesExpression s e (end_of old) (end_of mid) n) is
        (emits.does s _ scene typed (stands_before s mid new (end_of old) last stands) (suits_before s mid new last suits)))
        (has_put s mid new (end_of old) locals i.DeclareAndEnd (emits.keeps).longer declares stands))

-- heads of `for`

pub no_parts : (c : Written) (locals : ℕ) → EmitsHead c c no_head locals locals
no_parts c locals = record {
  keeps = keeps_same c;
  does = λ s types scene is sound stands suits. none s types scene is sound;
}
  where
    none : (s : Scene) (types : List VarType) → IsScene s → locals ≡ length (s.env).locals
        → IsSoundHead s.env no_head types
        → (locals ≡ length ((s.env).locals ++ types))
        × DoesActs s (begin (calls_of s) no_head) (end_of c) (end_of c) locals
    none s types scene is head_is_empty = (
      is ∙ sym (ap length (append-nil (s.env).locals)),
      subst (λ (n : ℕ). DoesActs s (begin (calls_of s) no_head) (end_of c) (end_of c) n) (sym is)
          (does_no_declarations s scene (ranked_of s scene) (end_of c) (length (s.env).locals)),
    )

pub head_of_variables : (old new : Written) (vs : List Initialization) (locals more : ℕ)
    → EmitsVariables old new vs locals more → EmitsHead old new (declared_head vs) locals more
head_of_variables old new vs locals more emits = record {
  keeps = emits.keeps;
  does = λ s types scene is sound stands suits. emits.does s types scene is (declared s types sound) stands suits;
}
  where
    declared : (s : Scene) (types : List VarType) → IsSoundHead s.env (declared_head vs) types
        → AreSoundDeclarations s.env vs types
    declared s types (head_declares sound) = sound

pub head_of_evaluation : (old new : Written) (e : Expr) (locals : ℕ)
    → EmitsEvaluation old new e locals → EmitsHead old new (evaluated_head e) locals locals
head_of_evaluation old new e locals emits = record {
  keeps = evaluation_keeps old new e locals emits;
  does = λ s types scene is sound stands suits. evaluated s types scene is sound stands suits;
}
  where
    evaluated : (s : Scene) (types : List VarType) → IsScene s → locals ≡ length (s.env).locals
        → IsSoundHead s.env (evaluated_head e) types
        → Stands s (code_of new) (end_of old) (end_of new) → Suits s new
        → (locals ≡ length ((s.env).locals ++ types))
        × DoesActs s (begin (calls_of s) (evaluated_head e)) (end_of old) (end_of new) locals
    evaluated s types scene is (head_evaluates typed) stands suits = (
      is ∙ sym (ap length (append-nil (s.env).locals)),
      subst (λ (n : ℕ). DoesActs s (begin (calls_of s) (evaluated_head e)) (end_of old) (end_of new) n) (sym is)
          (evaluation_does old new e locals emits s scene is typed stands suits),
    )
