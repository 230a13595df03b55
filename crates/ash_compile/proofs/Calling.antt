-- The code of calls does what they do.
use Rattle.std.proofs.Common.{◌≡◌, ◌≤◌, ◌<◌, ℕ, zero, suc, ◌+◌, List, [], ◌∷◌, ◌++◌, take, drop, length, refl, sym, ap, ◌∙◌, subst, arith}
use Rattle.std.proofs.Common.{true, false, Bool, cond, nat_lt, length-append, length-drop}
use Rattle.std.specs.Prelude.{Option, Some, None, slice_index_or, slice_set, slice_get, nat_le, ◌&&◌, option_map}
use Rattle.std.specs.Option.{option_map_or}
use Rattle.std.proofs.lemmas.List.{take-take, length-take-le, take-append-le, length-set}
use Rattle.std.proofs.lemmas.Bool.Decides.{nat_tests}
use Rattle.ash_host.specs.declared.word.Word.{Word}
use Rattle.ash_host.specs.declared.word.Word.TheVariants.{Null}
use Rattle.ash_meaning.specs.declared.exception.Exception.TheVariants.{StackOverflow}
use Rattle.ash_meaning.specs.Activity.{World, Frame, Activity}
use Rattle.ash_meaning.specs.Runs.{Run, Progress, Raising, Done, Ended, NoStep, onward, give, demand, ◌>>=◌, ◌>>◌}
use Rattle.ash_meaning.specs.Frames.{tick, demand_frame, frame_of, in_frame_of, leave, back_in, max_frames}
use Rattle.ash_meaning.specs.Releases as releases
use Rattle.ash_meaning.specs.CallMeaning.{value_or_null}
use Rattle.ash_meaning.specs.Ends.{Outcome}
use Rattle.ash_run_steps.specs.Guarded.{Guarded, onward as guarded_onward, give as guarded_give}
use Rattle.ash_run_steps.specs.GuardedSteps.{is_alive, are_alive, release, enter}
use Rattle.ash_code.specs.declared.instruction.Instruction.TheVariants as i
use Rattle.ash_code.specs.declared.code.FunctionCode.{FunctionCode}
use Rattle.ash_code.specs.Controls.{Control, Window, Caller, control}
use Rattle.ash_code.specs.Performing.{Setting, Next, GoesOn, return_to, enter_at, enter_function, call}
use Rattle.ash_code.specs.Running.{step, after, denote}
use Rattle.ash_code.specs.Arrivals.{end_of}
use Rattle.ash_compile.specs.Stretches.{continued, Arrives, Leaves, with_slots, Fits, Holds, with_locals, Has}
use Rattle.ash_compile.specs.Performances.{here, HasLocals, Enters}
use Rattle.ash_compile.proofs.Simulation.{continued_then, steps_on, steps_out, step_is, then_is}
use Rattle.ash_compile.proofs.Statements.{released_frame}

-- a return that goes on in the caller

leaves_done : (s : Setting) (value : Option Word) (c next : Control) (a b : Activity) (o : Option Outcome)
    → return_to s value c c.callers a ≡ Some (Done (GoesOn next) b) → Arrives s next b o → Leaves s value c a o
leaves_done s value c next a b o is later = record {
  fuel = later.fuel;
  ends = λ n more.
      ap (λ (p : Option (Progress Next)). option_map end_of (guarded_onward p (after (denote s n)))) is
      ∙ later.ends n more;
}

leaves_by : (s : Setting) (value : Option Word) (c next : Control) (a : Activity) (p : Progress (Unit {0}))
    (rest : Activity → Option Outcome)
    → return_to s value c c.callers a ≡ guarded_onward (Some p) (λ _ b. Some (Done (GoesOn next) b))
    → ((b : Activity) → p ≡ Done tt b → Arrives s next b (rest b))
    → Leaves s value c a (continued p (λ _ b. rest b))
leaves_by s value c next a (Done v b) rest is go = leaves_done s value c next a b (rest b) is (go b refl)
leaves_by s value c next a (Ended e b) rest is go = record {
  fuel = 0;
  ends = λ n more.
      ap (λ (p : Option (Progress Next)). option_map end_of (guarded_onward p (after (denote s n)))) is;
}
leaves_by s value c next a NoStep rest is go = record {
  fuel = 0;
  ends = λ n more.
      ap (λ (p : Option (Progress Next)). option_map end_of (guarded_onward p (after (denote s n)))) is;
}

left_is : (word : Word) (b : Activity)
    → leave word b ≡ onward (releases.release (back_in b.callers word b)) (λ _. give word)
unfolding leave
left_is word b = refl

pub grouped : {A B C : Type 0} (p : Progress A) (f : A → Run B) (g : B → Run C)
    → onward (onward p f) g ≡ onward p (λ v b. onward (f v b) g)
grouped (Done v b) f g = refl
grouped (Ended e b) f g = refl
grouped NoStep f g = refl

given : (p : Progress (Unit {0})) (word : Word) (next : Word → Guarded Next)
    → guarded_onward (guarded_onward (Some p) (λ _. guarded_give word)) next ≡ guarded_onward (Some p) (λ _. next word)
given (Done v b) word next = refl
given (Ended e b) word next = refl
given NoStep word next = refl

-- slots that a frame gets back

got_back : (below above : List Word) (word : Word) → 0 < length above
    → slice_index_or (below ++ slice_set above 0 word) (length below) Null ≡ word
got_back [] [] word some = absurd (omega (arith, some))
got_back [] (x ∷ above) word some = refl
got_back (y ∷ below) above word some = got_back below above word some

stay_below : (below more above : List Word) (k : ℕ) → k < length below
    → slice_index_or (below ++ above) k Null ≡ slice_index_or (below ++ more) k Null
stay_below [] more above k within = absurd (omega (arith, within))
stay_below (x ∷ below) more above zero within = refl
stay_below (x ∷ below) more above (suc k) within = stay_below below more above k (omega (arith, within))

parts : (xs : List Word) (n : ℕ) → take n xs ++ drop n xs ≡ xs
parts [] zero = refl
parts [] (suc n) = refl
parts (x ∷ xs) zero = refl
parts (x ∷ xs) (suc n) = ap (λ (ys : List Word). x ∷ ys) (parts xs n)

-- the caller's slots when the call is done
abbrev back_with : ℕ → List Word → Word → Window → Window
back_with slot slots word w = with_slots (take slot w.slots ++ slice_set slots 0 word) w

held_back : (w : Window) (slot : ℕ) (word : Word) (slots : List Word) (d : Activity)
    → w.count ≤ slot → slot < length w.slots → w.count ≤ length w.slots
    → length slots ≡ length (drop slot w.slots) → (d.frame).locals ≡ take w.count w.slots
    → Holds w slot word (take slot w.slots ++ slice_set slots 0 word) d
held_back w slot word slots d low within fits same locals =
    let below = length-take-le slot w.slots (omega (arith, within)) in
    let behind = length-drop slot w.slots in
    record {
      long = length-append (take slot w.slots) (slice_set slots 0 word)
          ∙ omega (arith, below, behind, same, within, length-set slots 0 word);
      kept = λ k lower under.
          stay_below (take slot w.slots) (drop slot w.slots) (slice_set slots 0 word) k (omega (arith, below, under))
          ∙ ap (λ (ws : List Word). slice_index_or ws k Null) (parts w.slots slot);
      value = ap (λ (n : ℕ). slice_index_or (take slot w.slots ++ slice_set slots 0 word) n Null) (sym below)
          ∙ got_back (take slot w.slots) slots word (omega (arith, same, behind, within));
      locals = locals
          ∙ sym (take-append-le w.count (take slot w.slots) (slice_set slots 0 word) (omega (arith, below, low))
          ∙ take-take w.count slot w.slots low);
    }

-- the caller's frame does not depend on the locals that go

same_back : (a b : Activity) (word : Word) (locals : List Word) → b.callers ≡ a.frame ∷ a.callers
    → back_in b.callers word (with_locals locals b) ≡ back_in b.callers word b
same_back a b word locals callers =
    ap (λ (fs : List Frame). back_in fs word (with_locals locals b)) callers
    ∙ sym (ap (λ (fs : List Frame). back_in fs word b) callers)

same_world : (a b : Activity) (word : Word) → b.callers ≡ a.frame ∷ a.callers
    → (back_in b.callers word b).world ≡ b.world
same_world a b word callers = ap (λ (fs : List Frame). (back_in fs word b).world) callers

same_locals : (a b : Activity) (word : Word) → b.callers ≡ a.frame ∷ a.callers
    → ((back_in b.callers word b).frame).locals ≡ (a.frame).locals
same_locals a b word callers = ap (λ (fs : List Frame). ((back_in fs word b).frame).locals) callers

-- frames as they are entered and left

abbrev pub entered_at : List ℕ → ℕ → Word → List Word → Activity → Activity
entered_at name line this args a = record a {
  frame = frame_of name line this args;
  callers = a.frame ∷ a.callers;
}

-- what a call does in a frame of its own
abbrev pub framed : List ℕ → ℕ → Word → List Word → Run (Option Word) → Run Word
framed name line this args inside =
    in_frame_of name line this args (inside >>= (λ value. give (value_or_null value)))

framed_is : (name : List ℕ) (line : ℕ) (this : Word) (args : List Word) (inside : Run (Option Word)) (a : Activity)
    → framed name line this args inside a
    ≡ onward ((tick line >> inside) (entered_at name line this args a)) (λ value. leave (value_or_null value))
framed_is name line this args inside a =
    let first = entered_at name line this args a in
    ap (λ (p : Progress Word). onward p leave)
    (sym (grouped (tick line first) (λ _. inside) (λ value. give (value_or_null value))))
    ∙ grouped ((tick line >> inside) first) (λ value. give (value_or_null value)) leave

module _ (s : Setting) (function callee : ℕ) where
  -- the caller, while its callee runs
  abbrev pub waiting : Window → ℕ → ℕ → Caller
  waiting w at slot = record {
    slots = take slot w.slots;
    count = w.count;
    back = record { function = function; at = at + 1 };
  }

  goes_back : (w : Window) (a b : Activity) (at slot at_callee last : ℕ) (value : Option Word) (slots locals : List Word)
      → b.callers ≡ a.frame ∷ a.callers
      → is_alive (value_or_null value) (with_locals locals b) ≡ true → (s.test).has_ranks b.world ≡ true
      → return_to s value (here callee at_callee last slots (waiting w at slot ∷ w.callers)) (waiting w at slot ∷ w.callers)
      (with_locals locals b)
      ≡ guarded_onward (Some (releases.release (back_in b.callers (value_or_null value) b)))
      (λ _ d. Some (Done (GoesOn (control function (at + 1) (back_with slot slots (value_or_null value) w))) d))
  goes_back w a b at slot at_callee last value slots locals callers alive ranks =
      let word = value_or_null value in
      let left = with_locals locals b in
      let y = back_in b.callers word b in
      let next : Word → Guarded Next
      = λ v d. Some (Done (GoesOn (control function (at + 1) (back_with slot slots v w))) d) in
      ap (λ (t : Bool). guarded_onward (guarded_onward (guarded_onward
      (cond t (Some (Done tt (back_in b.callers word left))) None) (λ _. release s.test)) (λ _. guarded_give word)) next)
      alive
      ∙ ap (λ (x : Activity). guarded_onward (guarded_onward (release s.test x) (λ _. guarded_give word)) next)
      (same_back a b word locals callers)
      ∙ ap (λ (t : Bool). guarded_onward (guarded_onward (cond t (Some (releases.release y)) None)
      (λ _. guarded_give word)) next) (ap (λ (x : World). (s.test).has_ranks x) (same_world a b word callers) ∙ ranks)
      ∙ given (releases.release y) word next

  -- a return to the caller
  comes_back : (w : Window) (a b : Activity) (at slot at_callee last : ℕ) (value : Option Word)
      (slots locals : List Word) (rest : Word → Activity → Option Outcome)
      → w.count ≤ slot → slot < length w.slots → Fits w a → length slots ≡ length (drop slot w.slots)
      → b.callers ≡ a.frame ∷ a.callers
      → is_alive (value_or_null value) (with_locals locals b) ≡ true
      → (s.test).has_ranks b.world ≡ true
      → ((d : Activity) (after : List Word) → leave (value_or_null value) b ≡ Done (value_or_null value) d
      → Holds w slot (value_or_null value) after d
      → Arrives s (control function (at + 1) (with_slots after w)) d (rest (value_or_null value) d))
      → Leaves s value (here callee at_callee last slots (waiting w at slot ∷ w.callers)) (with_locals locals b)
      (continued (leave (value_or_null value) b) rest)
  comes_back w a b at slot at_callee last value slots locals rest low within fits same callers alive ranks go =
      let word = value_or_null value in
      let y = back_in b.callers word b in
      let c = here callee at_callee last slots (waiting w at slot ∷ w.callers) in
      subst (λ (o : Option Outcome). Leaves s value c (with_locals locals b) o)
      (sym (ap (λ (p : Progress Word). continued p rest) (left_is word b)
      ∙ continued_then (releases.release y) (λ _. give word) rest))
      (leaves_by s value c (control function (at + 1) (back_with slot slots word w)) (with_locals locals b)
      (releases.release y) (λ d. rest word d)
      (goes_back w a b at slot at_callee last value slots locals callers alive ranks)
      (λ d freed. go d (take slot w.slots ++ slice_set slots 0 word)
      (left_is word b ∙ ap (λ (p : Progress (Unit {0})). onward p (λ _. give word)) freed)
      (held_back w slot word slots d low within fits.within same
      (ap (λ (f : Frame). f.locals) (released_frame y d freed) ∙ same_locals a b word callers ∙ fits.locals))))

  -- what a call needs of the frame that it enters: it keeps its callers, its value is alive, and ranks fall
  pub record Returns (run : Run (Option Word)) (a : Activity) (callers : List Frame) : Type 0 where
    pub returns : (b : Activity) (value : Option Word) → run a ≡ Done value b
        → (b.callers ≡ callers) × (is_alive (value_or_null value) b ≡ true) × ((s.test).has_ranks b.world ≡ true)

  module _ (Callee : Activity → Type 0) (callee_room : ℕ) (f : FunctionCode) (this : Word) (w : Window) (slot : ℕ)
      (there : slice_get ((s.code).functions).items callee ≡ Some f)
      (low : w.count ≤ slot) (within : slot < length w.slots) (long : slot + f.parameters ≤ length w.slots) where
    -- the arguments
    abbrev pub args : List Word
    args = take f.parameters (drop slot w.slots)

    within_code : nat_le w.count slot && nat_le (slot + f.parameters) (length w.slots) ≡ true
    within_code = grind (arith, nat_tests)

    abbrev callee_at : ℕ → Control
    callee_at at = here callee 0 f.parameters (drop slot w.slots) (waiting w at slot ∷ w.callers)

    enters_at : (at : ℕ) (a : Activity) → are_alive (this ∷ args) a ≡ true
        → enter_at s callee this slot (control function at w) a
        ≡ Some (Done (GoesOn (callee_at at)) (entered_at ((s.names).functions callee) f.line this args a))
    enters_at at a alive =
        let c = control function at w in
        let name = (s.names).functions callee in
        let next : Unit {0} → Guarded Next = λ _. guarded_give (GoesOn (callee_at at)) in
        ap (λ (o : Option FunctionCode). option_map_or (enter_function s callee this slot c) o (λ b. None) a) there
        ∙ ap (λ (t : Bool). cond {A = Guarded Next} t
        (λ (x : Activity). guarded_onward (enter name f.line this args x) next) (λ b. None) a) within_code
        ∙ ap (λ (t : Bool). guarded_onward (cond t (Some (Done tt (entered_at name f.line this args a))) None) next) alive

    -- An instruction that enters a function, in the activity in which it does so.
    pub enters_there : (at : ℕ) (start a : Activity) (inside : Run (Option Word)) (rest : Word → Activity → Option Outcome)
        → step s (control function at w) start ≡ enter_at s callee this slot (control function at w) a
        → Fits w a
        → are_alive (this ∷ args) a ≡ true
        → callee_room ≤ length (drop slot w.slots)
        → Enters s Callee callee callee_room (tick f.line >> inside) f.parameters
        → Callee (entered_at ((s.names).functions callee) f.line this args a)
        → Returns (tick f.line >> inside) (entered_at ((s.names).functions callee) f.line this args a)
        (a.frame ∷ a.callers)
        → ((d : Activity) (word : Word) (after : List Word)
        → framed ((s.names).functions callee) f.line this args inside a ≡ Done word d
        → Holds w slot word after d
        → Arrives s (control function (at + 1) (with_slots after w)) d (rest word d))
        → Arrives s (control function at w) start
        (continued (framed ((s.names).functions callee) f.line this args inside a) rest)
    enters_there at start a inside rest does fits alive enough enters good ends go =
        let name = (s.names).functions callee in
        let first = entered_at name f.line this args a in
        let run = tick f.line >> inside in
        let runs = framed_is name f.line this args inside a in
        steps_on s (control function at w) start (callee_at at) first (continued (framed name f.line this args inside a) rest)
        (does ∙ enters_at at a alive)
        (subst (λ (o : Option Outcome). Arrives s (callee_at at) first o)
        (sym (ap (λ (q : Progress Word). continued q rest) runs
        ∙ continued_then (run first) (λ value. leave (value_or_null value)) rest))
        (enters.comes (waiting w at slot ∷ w.callers) (length (drop slot w.slots)) (drop slot w.slots) first
        (λ value b. continued (leave (value_or_null value) b) rest) enough
        (record { long = refl; within = omega (arith, long, length-drop slot w.slots); locals = refl }) good
        (λ value b slots locals at_callee last ran same.
        let end = ends.returns b value ran in
        comes_back w a b at slot at_callee last value slots locals rest low within fits same end.0 end.1 end.2
        (λ d after left held.
        go d (value_or_null value) after
        (runs ∙ then_is (run first) value b (λ v. leave (value_or_null v)) _ ran left) held))))

    -- An instruction that calls a function, if there is room for one more frame.
    pub calls_there : (at : ℕ) (start a : Activity) (inside : Run (Option Word)) (rest : Word → Activity → Option Outcome)
        → step s (control function at w) start ≡ call s callee this slot (control function at w) a
        → Fits w a
        → are_alive (this ∷ args) a ≡ true
        → (nat_lt (length a.callers + 1) max_frames ≡ true → callee_room ≤ length (drop slot w.slots))
        → Enters s Callee callee callee_room (tick f.line >> inside) f.parameters
        → (nat_lt (length a.callers + 1) max_frames ≡ true
        → Callee (entered_at ((s.names).functions callee) f.line this args a))
        → (nat_lt (length a.callers + 1) max_frames ≡ true
        → Returns (tick f.line >> inside) (entered_at ((s.names).functions callee) f.line this args a)
        (a.frame ∷ a.callers))
        → ((d : Activity) (word : Word) (after : List Word)
        → (demand_frame >> framed ((s.names).functions callee) f.line this args inside) a ≡ Done word d
        → Holds w slot word after d
        → Arrives s (control function (at + 1) (with_slots after w)) d (rest word d))
        → Arrives s (control function at w) start
        (continued ((demand_frame >> framed ((s.names).functions callee) f.line this args inside) a) rest)
    calls_there at start a inside rest does fits alive enough enters good ends go =
        by_room (nat_lt (length a.callers + 1) max_frames) refl
      where
        demands : (t : Bool) → nat_lt (length a.callers + 1) max_frames ≡ t → demand_frame a ≡ demand t StackOverflow a
        demands t is = ap (λ (b : Bool). demand b StackOverflow a) is

        by_room : (t : Bool) → nat_lt (length a.callers + 1) max_frames ≡ t
            → Arrives s (control function at w) start
            (continued ((demand_frame >> framed ((s.names).functions callee) f.line this args inside) a) rest)
        by_room false is =
            subst (λ (o : Option Outcome). Arrives s (control function at w) start o)
            (sym (ap (λ (p : Progress (Unit {0})). continued (onward p
            (λ _. framed ((s.names).functions callee) f.line this args inside)) rest) (demands false is)))
            (steps_out s (control function at w) start (Raising StackOverflow) a
            (does ∙ ap (λ (q : Progress (Unit {0})). guarded_onward (Some q)
            (λ _. enter_at s callee this slot (control function at w))) (demands false is)))
        by_room true is =
            let begins : (demand_frame >> framed ((s.names).functions callee) f.line this args inside) a
            ≡ framed ((s.names).functions callee) f.line this args inside a
            = ap (λ (p : Progress (Unit {0})). onward p
            (λ _. framed ((s.names).functions callee) f.line this args inside)) (demands true is) in
            subst (λ (p : Progress Word). Arrives s (control function at w) start (continued p rest)) (sym begins)
            (enters_there at start a inside rest
            (does ∙ ap (λ (q : Progress (Unit {0})). guarded_onward (Some q)
            (λ _. enter_at s callee this slot (control function at w))) (demands true is))
            fits alive (enough is) enters (good is) (ends is) (λ d word after ran held. go d word after (begins ∙ ran) held))
