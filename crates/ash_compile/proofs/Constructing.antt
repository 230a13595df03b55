-- The code of constructions does what they do: an object is made, then a frame is entered whose value is the object.
use Rattle.std.proofs.Common.{◌≡◌, ℕ, ◌+◌, List, [], ◌∷◌, refl, sym, ap, ◌∙◌}
use Rattle.std.specs.Prelude.{Option, Some, None, slice_get}
use Rattle.std.specs.Option.{option_map_or}
use Rattle.ash_host.specs.declared.word.Word.{Word}
use Rattle.ash_host.specs.declared.word.Word.TheVariants as words
use Rattle.ash_host.specs.Objects.{Plain, Script}
use Rattle.ash_meaning.specs.Activity.{Activity}
use Rattle.ash_meaning.specs.Runs.{Run, Progress, Done, Ended, NoStep, onward, give, ◌>>=◌, ◌>>◌}
use Rattle.ash_meaning.specs.Frames.{tick, demand_frame, in_frame_of, leave}
use Rattle.ash_meaning.specs.ObjectSteps.{demand_number, make}
use Rattle.ash_meaning.specs.CallMeaning.{value_or_null}
use Rattle.ash_meaning.specs.StatementMeaning.{Flow}
use Rattle.ash_meaning.specs.Functions.{value_of}
use Rattle.ash_meaning.specs.Ends.{Outcome}
use Rattle.ash_run_steps.specs.Guarded.{Guarded, onward as guarded_onward, plain}
use Rattle.ash_code.specs.declared.code.ClassCode.{ClassCode}
use Rattle.ash_code.specs.declared.instruction.Instruction.TheVariants as i
use Rattle.ash_code.specs.Controls.{Control, Window, control}
use Rattle.ash_code.specs.Performing.{Setting, Next, own_name, classes_of, enter_at, construct}
use Rattle.ash_code.specs.Running.{step}
use Rattle.ash_compile.specs.Stretches.{continued, Arrives, Has}
use Rattle.ash_compile.proofs.Simulation.{steps_out, steps_nowhere, step_is}
use Rattle.ash_compile.proofs.Calling.{entered_at, framed, grouped}
use Rattle.ash_compile.proofs.Functions.{of_construction, finish}

-- An instruction that does steps of the meaning's first, and then enters a frame.
pub after_first : {A : Type 0} (s : Setting) (c : Control) (a : Activity) (p : Progress A) (next : A → Guarded Next)
    (run : A → Run Word) (rest : Word → Activity → Option Outcome)
    → step s c a ≡ guarded_onward (Some p) next
    → ((v : A) (b : Activity) → p ≡ Done v b → step s c a ≡ next v b → Arrives s c a (continued (run v b) rest))
    → Arrives s c a (continued (onward p run) rest)
after_first s c a (Done v b) next run rest does go = go v b refl does
after_first s c a (Ended e b) next run rest does go = steps_out s c a e b does
after_first s c a NoStep next run rest does go = steps_nowhere s c a does

-- what makes an object
abbrev pub making : Plain (List ℕ) → Run ℕ
making object = demand_frame >> demand_number >> make object

-- The frame of a construction gives the object, whatever its statements return.

same_value : (p : Progress Flow) (w : Word) → ((f : Flow) (b : Activity) → p ≡ Done f b → (b.frame).this ≡ w)
    → onward (onward p (λ f. give (value_of f))) (λ _. give w)
    ≡ onward (onward p (finish of_construction)) (λ v. give (value_or_null v))
same_value (Done f b) w this = ap (λ (x : Word). Done x b) (sym (this f b refl))
same_value (Ended e b) w this = refl
same_value NoStep w this = refl

pub constructed_is : (name : List ℕ) (line : ℕ) (w : Word) (args : List Word) (inside : Run Flow) (a : Activity)
    → ((f : Flow) (b : Activity) → (tick line >> inside) (entered_at name line w args a) ≡ Done f b
    → (b.frame).this ≡ w)
    → in_frame_of name line w args ((inside >>= (λ f. give (value_of f))) >> give w) a
    ≡ framed name line w args (inside >>= finish of_construction) a
constructed_is name line w args inside a this =
    let first = entered_at name line w args a in
    let p = tick line first in
    ap (λ (q : Progress Word). onward q leave)
    (sym (grouped p (λ _. inside >>= (λ f. give (value_of f))) (λ _. give w))
    ∙ ap (λ (q : Progress (Option Word)). onward q (λ _. give w)) (sym (grouped p (λ _. inside) (λ f. give (value_of f))))
    ∙ same_value ((tick line >> inside) first) w this
    ∙ ap (λ (q : Progress (Option Word)). onward q (λ v. give (value_or_null v)))
    (grouped p (λ _. inside) (finish of_construction))
    ∙ grouped p (λ _. inside >>= finish of_construction) (λ v. give (value_or_null v)))
