-- The code of arguments does what they do, one after another.
use Rattle.std.proofs.Common.{◌≡◌, ◌≤◌, ◌<◌, ℕ, zero, suc, ◌+◌, List, [], ◌∷◌, ◌++◌, take, drop, length, refl, sym}
use Rattle.std.proofs.Common.{ap, ◌∙◌, subst, arith}
use Rattle.std.proofs.Common.{length-append}
use Rattle.std.specs.Prelude.{Option, slice_index_or}
use Rattle.ash_host.specs.declared.word.Word.{Word}
use Rattle.ash_host.specs.declared.word.Word.TheVariants.{Null}
use Rattle.ash_typed.specs.declared.types.VarType.{VarType}
use Rattle.ash_typed.specs.TypedTree.{Expr, exprs}
use Rattle.ash_typed.specs.SoundExpressions.{TypedEnvironment, IsWellTyped, Fits as FitsType, AreSoundArguments}
use Rattle.ash_typed.specs.SoundExpressions.{no_arguments, argument, fits}
use Rattle.ash_meaning.specs.Activity.{Activity}
use Rattle.ash_meaning.specs.Runs.{Run, Progress, Done, Ended, NoStep, onward, give, ◌>>=◌}
use Rattle.ash_meaning.specs.Ends.{Outcome}
use Rattle.ash_meaning.specs.CallMeaning.{Calls}
use Rattle.ash_meaning.specs.ExpressionMeaning.{expression, arguments}
use Rattle.ash_meaning.specs.Functions.{body}
use Rattle.ash_meaning.proofs.Ticks.{ticks_fall}
use Rattle.ash_soundness.proofs.Bodies.{keeps_bodies}
use Rattle.ash_soundness.proofs.Expressions.{AreArgued, arguments_give}
use Rattle.ash_code.specs.Controls.{Window, control}
use Rattle.ash_code.specs.Performing.{Setting}
use Rattle.ash_compile.specs.declared.builder.Written.{Written}
use Rattle.ash_compile.specs.Stretches.{continued, Arrives, Fits, Holds, with_slots, Computes}
use Rattle.ash_compile.specs.Emission.{code_of, end_of, Scene, IsScene, Good, DoesExpression, Emits, calls_of}
use Rattle.ash_compile.specs.Arguments.{HoldsAll, ComputesAll, EmitsArguments}
use Rattle.ash_compile.proofs.Simulation.{continued_then, then_is}
use Rattle.ash_compile.proofs.Emission.{keeps_on, suits_before, stands_before, stands_after}
use Rattle.ash_compile.proofs.Typed.{left_done, most_left}

-- words in slots one after another

row_more : (xs ys : List Word) (count : ℕ) (word : Word) → count < length ys → length ys ≡ length xs
    → ((k : ℕ) → k < count → slice_index_or ys k Null ≡ slice_index_or xs k Null)
    → slice_index_or ys count Null ≡ word
    → take (suc count) ys ≡ take count xs ++ word ∷ []
row_more xs [] count word within same kept last = absurd (omega (arith, within))
row_more [] (y ∷ ys) count word within same kept last = absurd (omega (arith, same))
row_more (x ∷ xs) (y ∷ ys) zero word within same kept last = ap (λ (w : Word). w ∷ []) last
row_more (x ∷ xs) (y ∷ ys) (suc count) word within same kept last =
    ap (λ (w : Word). w ∷ take (suc count) ys) (kept 0 (omega arith))
    ∙ ap (λ (ws : List Word). x ∷ ws) (row_more xs ys count word (omega (arith, within)) (omega (arith, same))
    (λ k low. kept (suc k) (omega (arith, low))) last)

row_after : (xs ys : List Word) (slot count : ℕ) (word : Word) → slot + count < length ys → length ys ≡ length xs
    → ((k : ℕ) → slot ≤ k → k < slot + count → slice_index_or ys k Null ≡ slice_index_or xs k Null)
    → slice_index_or ys (slot + count) Null ≡ word
    → take (suc count) (drop slot ys) ≡ take count (drop slot xs) ++ word ∷ []
row_after xs ys zero count word within same kept last =
    let none : 0 + count ≡ count = omega arith in
    row_more xs ys count word (omega (arith, within)) same (λ k low. kept k (omega arith) (omega (arith, low)))
    (ap (λ (k : ℕ). slice_index_or ys k Null) (sym none) ∙ last)
row_after xs [] (suc slot) count word within same kept last = absurd (omega (arith, within))
row_after [] (y ∷ ys) (suc slot) count word within same kept last = absurd (omega (arith, same))
row_after (x ∷ xs) (y ∷ ys) (suc slot) count word within same kept last =
    let one : suc slot + count ≡ suc (slot + count) = omega arith in
    row_after xs ys slot count word (omega (arith, within)) (omega (arith, same))
    (λ k low high. kept (suc k) (omega (arith, low)) (omega (arith, high)))
    (ap (λ (k : ℕ). slice_index_or (y ∷ ys) k Null) (sym one) ∙ last)

-- what arguments mean

-- one argument more
abbrev pub one_more : Run (List Word) → Run Word → Run (List Word)
one_more first last = first >>= (λ ws. last >>= (λ word. give (ws ++ word ∷ [])))

more_after : (word : Word) (p : Progress (List Word)) (last : Run Word)
    → onward (onward p (λ ws. last >>= (λ v. give (ws ++ v ∷ [])))) (λ rest. give (word ∷ rest))
    ≡ onward (onward p (λ rest. give (word ∷ rest))) (λ ws. last >>= (λ v. give (ws ++ v ∷ [])))
more_after word (Done ws d) last = given_after (last d)
  where
    given_after : (q : Progress Word)
        → onward (onward q (λ v. give (ws ++ v ∷ []))) (λ rest. give (word ∷ rest))
        ≡ onward q (λ v. give ((word ∷ ws) ++ v ∷ []))
    given_after (Done v e) = refl
    given_after (Ended i e) = refl
    given_after NoStep = refl
more_after word (Ended i d) last = refl
more_after word NoStep last = refl

pub arguments_more : (calls : Calls) (es : List Expr) (e : Expr) (a : Activity)
    → arguments calls (exprs (es ++ e ∷ [])) a ≡ one_more (arguments calls (exprs es)) (expression calls e) a
arguments_more calls [] e a = refl
arguments_more calls (x ∷ es) e a = after_first (expression calls x a) (arguments_more calls es e)
  where
    after_first : (p : Progress Word)
        → ((b : Activity) → arguments calls (exprs (es ++ e ∷ [])) b
        ≡ one_more (arguments calls (exprs es)) (expression calls e) b)
        → onward p (λ word. arguments calls (exprs (es ++ e ∷ [])) >>= (λ rest. give (word ∷ rest)))
        ≡ onward (onward p (λ word. arguments calls (exprs es) >>= (λ rest. give (word ∷ rest))))
        (λ ws. expression calls e >>= (λ v. give (ws ++ v ∷ [])))
    after_first (Done word b) later =
        ap (λ (p : Progress (List Word)). onward p (λ rest. give (word ∷ rest))) (later b)
        ∙ more_after word (arguments calls (exprs es) b) (expression calls e)
    after_first (Ended i b) later = refl
    after_first NoStep later = refl

-- what arguments are of

-- all arguments but the last, and the last
pub record AreSplit (env : TypedEnvironment) (es : List Expr) (e : Expr) : Type 0 where
  pub before : List VarType
  pub of : VarType
  pub first : AreSoundArguments env before (exprs es)
  pub last : FitsType env of e

with_first : {env : TypedEnvironment} {of : VarType} {x : Expr} {es : List Expr} {e : Expr} → FitsType env of x
    → AreSplit env es e → AreSplit env (x ∷ es) e
with_first {of = of} fit split = record {
  before = of ∷ split.before;
  of = split.of;
  first = argument fit split.first;
  last = split.last;
}

pub split : {env : TypedEnvironment} {parameters : List VarType} (es : List Expr) (e : Expr)
    → AreSoundArguments env parameters (exprs (es ++ e ∷ [])) → AreSplit env es e
split [] e (argument fit no_arguments) = record { before = []; of = _; first = no_arguments; last = fit }
split (x ∷ es) e (argument fit rest) = with_first fit (split es e rest)

pub arguments_long : {env : TypedEnvironment} {parameters : List VarType} (es : List Expr)
    → AreSoundArguments env parameters (exprs es) → length es ≡ length parameters
arguments_long [] no_arguments = refl
arguments_long (e ∷ es) (argument fit rest) = ap suc (arguments_long es rest)

pub argued : (s : Scene) (es : List Expr) (types : List VarType) (a b : Activity) (ws : List Word) → IsScene s
    → AreSoundArguments s.env types (exprs es) → Good s a → arguments (calls_of s) (exprs es) a ≡ Done ws b
    → AreArgued s.context s.env s.envs types a ws b
argued s es types a b ws scene sound good ran =
    left_done ws b
    (arguments_give scene.sound (body (s.context).program s.depth)
    (keeps_bodies scene.sound s.depth) scene.declares sound
    good.0) ran

pub argued_good : (s : Scene) (es : List Expr) (types : List VarType) (a b : Activity) (ws : List Word) → IsScene s
    → AreSoundArguments s.env types (exprs es) → Good s a → arguments (calls_of s) (exprs es) a ≡ Done ws b → Good s b
argued_good s es types a b ws scene sound good ran =
    let fewer = most_left (arguments (calls_of s) (exprs es) a) a.ticks ws b
    (((ticks_fall (s.context).program s.depth).phrases).argument_lists (exprs es) a good.1) ran in
    ((((argued s es types a b ws scene sound good ran).goes).passes).well, omega (arith, fewer, good.1))

-- code

module _ (s : Setting) (Good : Activity → Type 0) (function room : ℕ) where
  pub computes_none : (at slot : ℕ) → ComputesAll s Good function room (give []) at at slot 0
  computes_none at slot = record {
    within = λ some. absurd (omega (arith, some));
    comes = λ w a rest low long fits good goes.
        goes [] a w.slots refl (record
        { long = refl; kept = λ k lower below. refl; values = refl; locals = fits.locals });
  }

  pub all_refit : (w : Window) (slot count : ℕ) (ws slots : List Word) (b : Activity) → w.count ≤ length w.slots
      → HoldsAll w slot count ws slots b → Fits (with_slots slots w) b
  all_refit w slot count ws slots b within held =
      record { locals = held.locals; within = omega (arith, within, held.long) }

  held_more : (w : Window) (slot count : ℕ) (ws slots more : List Word) (word : Word) (b d : Activity) → w.count ≤ slot
      → slot + count < length w.slots → HoldsAll w slot count ws slots b
      → Holds (with_slots slots w) (slot + count) word more d
      → HoldsAll w slot (count + 1) (ws ++ word ∷ []) more d
  held_more w slot count ws slots more word b d low within first second =
      let one : count + 1 ≡ suc count = omega arith in
      record {
        long = second.long ∙ first.long;
        kept = λ k lower below. second.kept k lower (omega (arith, below)) ∙ first.kept k lower below;
        values = ap (λ (n : ℕ). take n (drop slot more)) one
            ∙ row_after slots more slot count word (omega (arith, within, second.long, first.long)) second.long
            (λ k lower below. second.kept k (omega (arith, low, lower)) below) second.value
            ∙ ap (λ (us : List Word). us ++ word ∷ []) first.values;
        locals = second.locals;
      }

  pub computes_more : (p : Run (List Word)) (q : Run Word) (from mid to slot count : ℕ)
      → ComputesAll s Good function room p from mid slot count
      → Computes s Good function room q mid to (slot + count)
      → ((a b : Activity) (ws : List Word) → Good a → p a ≡ Done ws b → Good b)
      → ComputesAll s Good function room (one_more p q) from to slot (count + 1)
  computes_more p q from mid to slot count first second keeps = record {
    within = λ some. omega (arith, second.within);
    comes = λ w a rest low long fits good goes.
        subst (λ (o : Option Outcome). Arrives s (control function from w) a o)
        (sym (continued_then (p a) (λ ws. q >>= (λ word. give (ws ++ word ∷ []))) rest))
        (first.comes w a (λ ws b. continued ((q >>= (λ word. give (ws ++ word ∷ []))) b) rest) low long fits good
        (λ ws b slots ran held.
        subst (λ (o : Option Outcome). Arrives s (control function mid (with_slots slots w)) b o)
        (sym (continued_then (q b) (λ word. give (ws ++ word ∷ [])) rest))
        (second.comes (with_slots slots w) b (λ word d. rest (ws ++ word ∷ []) d) (omega (arith, low))
        (omega (arith, long, held.long)) (all_refit w slot count ws slots b fits.within held) (keeps a b ws good ran)
        (λ word d more run also.
        goes (ws ++ word ∷ []) d more
        (then_is (p a) ws b (λ us. q >>= (λ v. give (us ++ v ∷ []))) _ ran
        (then_is (q b) word d (λ v. give (ws ++ v ∷ [])) _ run refl))
        (held_more w slot count ws slots more word b d low (omega (arith, second.within, long)) held also)))));
  }

  pub all_along : (run other : Run (List Word)) (from to slot count : ℕ) → ((a : Activity) → run a ≡ other a)
      → ComputesAll s Good function room run from to slot count
      → ComputesAll s Good function room other from to slot count
  all_along run other from to slot count same computes = record {
    within = computes.within;
    comes = λ w a rest low long fits good goes.
        subst (λ (p : Progress (List Word)). Arrives s (control function from w) a (continued p rest)) (same a)
        (computes.comes w a rest low long fits good (λ ws b slots ran. goes ws b slots (sym (same a) ∙ ran)));
  }

-- emitted code

pub no_code : (old : Written) (slot : ℕ) → EmitsArguments old old [] slot
no_code old slot = record {
  keeps = record { longer = omega arith; same = λ k low. refl; slots = omega arith; layout = refl };
  does = λ s parameters scene sound stands suits.
      computes_none s.setting (Good s) s.function s.room (end_of old) slot;
}

typed_last : {env : TypedEnvironment} {of : VarType} {e : Expr} → FitsType env of e
    → (inner : _) × IsWellTyped env e inner
typed_last (fits typed subtype) = (_, typed)

pub one_argument : (start old new : Written) (es : List Expr) (e : Expr) (slot next : ℕ) → next ≡ slot + length es
    → EmitsArguments start old es slot → Emits old new e next → EmitsArguments start new (es ++ e ∷ []) slot
one_argument start old new es e slot next is first second = record {
  keeps = keeps_on start old new first.keeps second.keeps;
  does = λ s parameters scene sound stands suits.
      let parts = split es e sound in
      let typed = typed_last parts.last in
      let last : DoesExpression s e (end_of old) (end_of new) (slot + length es)
      = subst (λ (k : ℕ). DoesExpression s e (end_of old) (end_of new) k) is
      (second.does s typed.0 scene typed.1
      (stands_after s (code_of new) (end_of start) (end_of old) (end_of new) (first.keeps).longer stands) suits) in
      let before = first.does s parts.before scene parts.first
      (stands_before s old new (end_of start) second.keeps stands) (suits_before s old new second.keeps suits) in
      let longer : length es + 1 ≡ length (es ++ e ∷ []) = sym (length-append es (e ∷ [])) in
      subst (λ (n : ℕ). ComputesAll s.setting (Good s) s.function s.room (arguments (calls_of s) (exprs (es ++ e ∷ [])))
      (end_of start) (end_of new) slot n) longer
      (all_along s.setting (Good s) s.function s.room
      (one_more (arguments (calls_of s) (exprs es)) (expression (calls_of s) e))
      (arguments (calls_of s) (exprs (es ++ e ∷ []))) (end_of start) (end_of new) slot (length es + 1)
      (λ a. sym (arguments_more (calls_of s) es e a))
      (computes_more s.setting (Good s) s.function s.room (arguments (calls_of s) (exprs es))
      (expression (calls_of s) e)
      (end_of start) (end_of old) (end_of new) slot (length es) before last
      (λ a b ws good ran. argued_good s es parts.before a b ws scene parts.first good ran)));
}
