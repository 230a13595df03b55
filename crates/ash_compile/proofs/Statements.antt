-- The code of statements does what they do.
use Rattle.std.proofs.Common.{◌≡◌, ◌≤◌, ◌<◌, ℕ, zero, suc, ◌+◌, List, take, length, refl, sym, ap, ◌∙◌, subst, arith}
use Rattle.std.proofs.Common.{true, false, Bool, cond}
use Rattle.std.specs.Prelude.{Option, Some, None, slice_index_or, if◌then◌else◌}
use Rattle.ash_host.specs.declared.word.Word.{Word}
use Rattle.ash_host.specs.declared.word.Word.TheVariants.{Null}
use Rattle.ash_meaning.specs.Activity.{Frame, Activity, in_frame}
use Rattle.ash_meaning.specs.Runs.{Run, Progress, Done, Ended, NoStep, onward, give, skip, ◌>>=◌, ◌>>◌}
use Rattle.ash_meaning.specs.Frames.{tick, spend}
use Rattle.ash_meaning.specs.Releases as releases
use Rattle.ash_meaning.specs.Releases.{let_go, full}
use Rattle.ash_meaning.specs.OperatorMeaning.{is_true}
use Rattle.ash_meaning.specs.StatementMeaning.{Flow, On, Broke, Continued, Returned, go_on}
use Rattle.ash_meaning.specs.Ends.{Outcome}
use Rattle.ash_run_steps.specs.Guarded.{Guarded, onward as guarded_onward, give as guarded_give}
use Rattle.ash_run_steps.specs.GuardedSteps.{release}
use Rattle.ash_code.specs.declared.instruction.Instruction.TheVariants as i
use Rattle.ash_code.specs.Controls.{Caller, Control, Window}
use Rattle.ash_code.specs.Performing.{Setting, GoesOn, go, go_to}
use Rattle.ash_code.specs.Running.{step}
use Rattle.ash_compile.specs.Stretches.{continued, Arrives, Leaves, with_slots, Fits, Holds, Has, Computes}
use Rattle.ash_compile.specs.Performances.{here, HasLocals, Exit, Exits, Acts, Decides, Jumps, Outs, Performs, Reaches}
use Rattle.ash_compile.specs.Places.{HoldsBelow}
use Rattle.ash_compile.proofs.Simulation.{continued_then, then_is, steps_on, goes_by, frame_in, step_is}

-- what a step of the meaning leaves of the frame

abbrev pub ticks_in : {A : Type 0} → ℕ → Progress A → ℕ
ticks_in other (Done v b) = b.ticks
ticks_in other (Ended e b) = b.ticks
ticks_in other NoStep = other

pub released_frame : (a b : Activity) → releases.release a ≡ Done tt b → b.frame ≡ a.frame
unfolding releases.release
released_frame a b is = ap (λ (p : Progress (Unit {0})). frame_in a.frame p) (sym is)

-- the frame that runs, at another line
abbrev lined : ℕ → Activity → Activity
lined line a = in_frame (λ (f : Frame). record f { line = line }) a

ticked_locals_at : (ticks line : ℕ) (a b : Activity) → onward (Done ticks (lined line a)) spend ≡ Done tt b
    → (b.frame).locals ≡ (a.frame).locals
ticked_locals_at zero line a b is = cc
ticked_locals_at (suc ticks) line a b is = ap (λ (p : Progress (Unit {0})). (frame_in a.frame p).locals) (sym is)

pub ticked_locals : (line : ℕ) (a b : Activity) → tick line a ≡ Done tt b → (b.frame).locals ≡ (a.frame).locals
ticked_locals line a b is = ticked_locals_at a.ticks line a b is

spent_at : (ticks line : ℕ) (a b : Activity) → onward (Done ticks (lined line a)) spend ≡ Done tt b
    → suc b.ticks ≡ ticks
spent_at zero line a b is = cc
spent_at (suc ticks) line a b is = ap (λ (p : Progress (Unit {0})). suc (ticks_in ticks p)) (sym is)

pub spent : (line : ℕ) (a b : Activity) → tick line a ≡ Done tt b → suc b.ticks ≡ a.ticks
spent line a b is = spent_at a.ticks line a b is

pub ticked_stands : (line size count : ℕ) (slots : List Word) (a b : Activity) → tick line a ≡ Done tt b
    → HasLocals size count slots a → HasLocals size count slots b
ticked_stands line size count slots a b is stands = record {
  long = stands.long;
  within = stands.within;
  locals = ticked_locals line a b is ∙ stands.locals;
}

-- phrases, one after another

pub arrives_then : {A B : Type 0} (s : Setting) (c : Control) (a : Activity) (p : Progress A) (next : A → Run B)
    (rest : B → Activity → Option Outcome)
    → Arrives s c a (continued p (λ v b. continued (next v b) rest))
    → Arrives s c a (continued (onward p next) rest)
arrives_then s c a p next rest is =
    subst (λ (o : Option Outcome). Arrives s c a o) (sym (continued_then p next rest)) is

-- the window of an expression

pub fits_there : (size count : ℕ) (slots : List Word) (callers : List Caller) (a : Activity) → HasLocals size count slots a
    → Fits (record { slots = slots; count = count; callers = callers }) a
fits_there size count slots callers a stands = record {
  locals = stands.locals;
  within = omega (arith, stands.long, stands.within);
}

pub held_there : (size count slot : ℕ) (slots next : List Word) (callers : List Caller) (word : Word) (a b : Activity)
    → HasLocals size count slots a → Holds (record { slots = slots; count = count; callers = callers }) slot word next b
    → HasLocals size count next b
held_there size count slot slots next callers word a b stands held = record {
  long = held.long ∙ stands.long;
  within = stands.within;
  locals = held.locals;
}

pub below_there : (size count slot : ℕ) (slots next : List Word) (callers : List Caller) (a b : Activity)
    → HasLocals size count slots a
    → HoldsBelow (record { slots = slots; count = count; callers = callers }) slot next b
    → HasLocals size count next b
below_there size count slot slots next callers a b stands held = record {
  long = held.long ∙ stands.long;
  within = stands.within;
  locals = held.locals;
}

-- objects have ranks in all good activities
abbrev pub Ranked : Setting → (Activity → Type 0) → Type 0
Ranked s Good = (a : Activity) → Good a → (s.test).has_ranks a.world ≡ true

-- a phrase leads from some activities to some
abbrev pub LeadsTo : {A : Type 0} → (Activity → Type 0) → Run A → (Activity → Type 0) → Type 0
LeadsTo {A} Good run Then = (a b : Activity) (v : A) → Good a → run a ≡ Done v b → Then b

module _ (s : Setting) (Good : Activity → Type 0) (function room : ℕ) where
  -- a tick, then what follows

  pub ticks_first : {A : Type 0} (line : ℕ) (next : Run A) (at count : ℕ) (slots : List Word) (callers : List Caller)
      (a : Activity) (rest : A → Activity → Option Outcome)
      → Has s Good function room at (i.Tick line)
      → ((b : Activity) → tick line a ≡ Done tt b
      → Arrives s (here function (at + 1) count slots callers) b (continued (next b) rest))
      → Arrives s (here function at count slots callers) a (continued ((tick line >> next) a) rest)
  ticks_first line next at count slots callers a rest has go =
      let w : Window = record { slots = slots; count = count; callers = callers } in
      arrives_then s (here function at count slots callers) a (tick line a) (λ _. next) rest
      (goes_by s (here function at count slots callers) a (tick line a) (λ _. here function (at + 1) count slots callers)
      (λ _ b. continued (next b) rest) (step_is s Good function room w a at (i.Tick line) has) (λ v b is. go b is))

  -- jumps

  pub jumps : (at to : ℕ) → Has s Good function room at (i.Jump to) → Reaches s function at to
  jumps at to has count slots callers a o later =
      let w : Window = record { slots = slots; count = count; callers = callers } in
      steps_on s (here function at count slots callers) a (here function to count slots callers) a o
      (step_is s Good function room w a at (i.Jump to) has) later

  pub stays : (at : ℕ) → Reaches s function at at
  stays at count slots callers a o later = later

  -- statements without parts

  pub does_nothing : (exits : Exits) (line at count : ℕ) → Has s Good function room at (i.Tick line)
      → Performs s Good function room exits (tick line >> give On) at (at + 1) count count
  does_nothing exits line at count has = record {
    comes = λ callers size slots a rest long stands good outs.
        ticks_first line (give On) at count slots callers a rest has (λ b ran.
        outs.on b slots (then_is (tick line a) tt b (λ _. give On) _ ran refl)
        (ticked_stands line size count slots a b ran stands));
  }

  -- A tick and then parts of a statement without flow.
  pub does : (exits : Exits) (Then : Activity → Type 0) (acts : Run (Unit {0})) (line from to count more : ℕ)
      → Has s Good function room from (i.Tick line)
      → LeadsTo Good (tick line) Then
      → Acts s Then function room acts (from + 1) to count more
      → Performs s Good function room exits (tick line >> acts >> give On) from to count more
  does exits Then acts line from to count more has ticked inside = record {
    comes = λ callers size slots a rest long stands good outs.
        arrives_then s (here function from count slots callers) a ((tick line >> acts) a) (λ _. give On) rest
        (ticks_first line acts from count slots callers a (λ _. rest On) has (λ b ran.
        inside.comes callers size slots b (λ _. rest On) long (ticked_stands line size count slots a b ran stands)
        (ticked a b tt good ran) (λ d next acted there.
        outs.on d next (then_is ((tick line >> acts) a) tt d (λ _. give On) _
        (then_is (tick line a) tt b (λ _. acts) _ ran acted) refl) there)));
  }

  -- parts, one after another

  pub acts_none : (at count : ℕ) → Acts s Good function room skip at at count count
  acts_none at count = record { comes = λ callers size slots a rest long stands good go. go a slots refl stands }

  pub acts_then : (Then : Activity → Type 0) (x y : Run (Unit {0})) (from mid to count more most : ℕ)
      → Acts s Good function room x from mid count more
      → LeadsTo Good x Then
      → Acts s Then function room y mid to more most
      → Acts s Good function room (x >> y) from to count most
  acts_then Then x y from mid to count more most first keeps second = record {
    comes = λ callers size slots a rest long stands good go.
        arrives_then s (here function from count slots callers) a (x a) (λ _. y) rest
        (first.comes callers size slots a (λ _ b. continued (y b) rest) long stands good (λ b next ran there.
        second.comes callers size next b rest long there (keeps a b tt good ran) (λ d last also stays.
        go d last (then_is (x a) tt b (λ _. y) _ ran also) stays)));
  }

  -- statements, one after another

  pub performs_none : (exits : Exits) (at count : ℕ)
      → Performs s Good function room exits (give On) at at count count
  performs_none exits at count = record {
    comes = λ callers size slots a rest long stands good outs. outs.on a slots refl stands;
  }

  pub performs_then : (exits : Exits) (Then : Activity → Type 0) (x y : Run Flow) (from mid to count more most : ℕ)
      → Performs s Good function room exits x from mid count more
      → ((a b : Activity) → Good a → x a ≡ Done On b → Then b)
      → Performs s Then function room exits y mid to more most
      → Performs s Good function room exits (x >>= go_on y) from to count most
  performs_then exits Then x y from mid to count more most first keeps second = record {
    comes = λ callers size slots a rest long stands good outs.
        arrives_then s (here function from count slots callers) a (x a) (go_on y) rest
        (first.comes callers size slots a (λ f b. continued (go_on y f b) rest) long stands good (record {
          on = λ b next ran there. second.comes callers size next b rest long there (keeps a b good ran)
              (subst (λ (p : Progress Flow). Outs s function exits to most callers size p rest)
              (then_is (x a) On b (go_on y) _ ran refl) outs);
          broke = λ b next ran there. outs.broke b next (then_is (x a) Broke b (go_on y) _ ran refl) there;
          continues = λ b next ran there. outs.continues b next (then_is (x a) Continued b (go_on y) _ ran refl) there;
          returned = λ value b next locals at last ran same.
              outs.returned value b next locals at last (then_is (x a) (Returned value) b (go_on y) _ ran refl) same;
        }));
  }
