-- The code of phrases does what they do: what every phrase uses.
use Rattle.std.proofs.Common.{◌≡◌, ◌≤◌, ◌<◌, ℕ, zero, suc, ◌+◌, List, take, length, refl, sym, ap, ◌∙◌}
use Rattle.std.proofs.Common.{subst, arith, true, false, Bool, cond, nat_lt}
use Rattle.std.specs.Prelude.{Option, Some, None, slice_index_or, slice_set, if◌then◌else◌, option_map}
use Rattle.std.specs.Option.{option_map_or}
use Rattle.std.proofs.lemmas.Bool.Decides.{nat_tests}
use Rattle.std.proofs.lemmas.List.{length-set, get_or-set_same, get_or-set_other, take-set-le}
use Rattle.ash_host.specs.declared.word.Word.{Word}
use Rattle.ash_host.specs.declared.word.Word.TheVariants.{Null}
use Rattle.ash_meaning.specs.Activity.{Activity, Frame}
use Rattle.ash_meaning.specs.Runs.{Run, Progress, Interrupt, Done, Ended, NoStep, onward, give, ◌>>=◌}
use Rattle.ash_meaning.specs.Ends.{Outcome, interrupted_in}
use Rattle.ash_run_steps.specs.Guarded.{Guarded, onward as guarded_onward, give as guarded_give}
use Rattle.ash_run_steps.specs.GuardedSteps.{write_local}
use Rattle.ash_code.specs.declared.instruction.Instruction.{Instruction}
use Rattle.ash_code.specs.Controls.{Place, Control, Window, control, going, forward, with_word, word_at}
use Rattle.ash_code.specs.Performing.{Setting, Next, GoesOn, Finishes, perform, put, go}
use Rattle.ash_code.specs.Running.{instruction_at, step, after, denote}
use Rattle.ash_code.specs.Arrivals.{end_with, end_of}
use Rattle.ash_compile.specs.Stretches.{continued, Arrives, with_slots, Fits, Holds, Has, Computes}

-- what follows two phrases

pub continued_then : {A B : Type 0} (p : Progress A) (next : A → Run B) (rest : B → Activity → Option Outcome)
    → continued (onward p next) rest ≡ continued p (λ v b. continued (next v b) rest)
continued_then (Done v b) next rest = refl
continued_then (Ended i b) next rest = refl
continued_then NoStep next rest = refl

-- phrases, one after another
pub then_is : {A B : Type 0} (p : Progress A) (v : A) (b : Activity) (next : A → Run B) (q : Progress B)
    → p ≡ Done v b → next v b ≡ q → onward p next ≡ q
then_is p v b next q first second = ap (λ x. onward x next) first ∙ second

-- an instruction, then what comes after it

done_after : (s : Setting) (n : ℕ) (o : Option (Progress Next)) (c : Control) (b : Activity)
    → o ≡ Some (Done (GoesOn c) b) → guarded_onward o (after (denote s n)) ≡ denote s n c b
done_after s n o c b is = ap (λ (x : Option (Progress Next)). guarded_onward x (after (denote s n))) is

ended_after : (s : Setting) (n : ℕ) (o : Option (Progress Next)) (i : Interrupt) (b : Activity) → o ≡ Some (Ended i b)
    → guarded_onward o (after (denote s n)) ≡ Some (Ended i b)
ended_after s n o i b is = ap (λ (x : Option (Progress Next)). guarded_onward x (after (denote s n))) is

steps_ends : (s : Setting) (c : Control) (a : Activity) (next : Control) (b : Activity) (o : Option Outcome)
    → step s c a ≡ Some (Done (GoesOn next) b) → (later : Arrives s next b o) → (n : ℕ) → suc later.fuel ≤ n
    → option_map end_of (denote s n c a) ≡ Some o
steps_ends s c a next b o does later zero more = absurd (omega (arith, more))
steps_ends s c a next b o does later (suc n) more =
    ap (λ (p : Option (Progress (Option Word))). option_map end_of p)
    (done_after s n (step s c a) next b does)
    ∙ later.ends n (omega (arith, more))

pub steps_on : (s : Setting) (c : Control) (a : Activity) (next : Control) (b : Activity) (o : Option Outcome)
    → step s c a ≡ Some (Done (GoesOn next) b) → Arrives s next b o → Arrives s c a o
steps_on s c a next b o does later =
    record { fuel = suc later.fuel; ends = steps_ends s c a next b o does later }

ended_ends : (s : Setting) (c : Control) (a : Activity) (i : Interrupt) (b : Activity) → step s c a ≡ Some (Ended i b)
    → (n : ℕ) → 1 ≤ n
    → option_map end_of (denote s n c a) ≡ Some (Some (end_with (interrupted_in i b.frame) b.world))
ended_ends s c a i b does zero more = absurd (omega (arith, more))
ended_ends s c a i b does (suc n) more =
    ap (λ (p : Option (Progress (Option Word))). option_map end_of p) (ended_after s n (step s c a) i b does)

pub steps_out : (s : Setting) (c : Control) (a : Activity) (i : Interrupt) (b : Activity)
    → step s c a ≡ Some (Ended i b) → Arrives s c a (Some (end_with (interrupted_in i b.frame) b.world))
steps_out s c a i b does = record { fuel = 1; ends = ended_ends s c a i b does }

none_after : (s : Setting) (n : ℕ) (o : Option (Progress Next)) → o ≡ Some NoStep
    → guarded_onward o (after (denote s n)) ≡ Some NoStep
none_after s n o is = ap (λ (x : Option (Progress Next)). guarded_onward x (after (denote s n))) is

lacks_ends : (s : Setting) (c : Control) (a : Activity) → step s c a ≡ Some NoStep
    → (n : ℕ) → 1 ≤ n → option_map end_of (denote s n c a) ≡ Some None
lacks_ends s c a does zero more = absurd (omega (arith, more))
lacks_ends s c a does (suc n) more =
    ap (λ (p : Option (Progress (Option Word))). option_map end_of p) (none_after s n (step s c a) does)

pub steps_nowhere : (s : Setting) (c : Control) (a : Activity) → step s c a ≡ Some NoStep → Arrives s c a None
steps_nowhere s c a does = record { fuel = 1; ends = lacks_ends s c a does }

-- What an instruction does that does a step of the meaning's and goes on: the step's value says where.
pub goes_by : {A : Type 0} (s : Setting) (c : Control) (a : Activity) (p : Progress A) (next : A → Control)
    (rest : A → Activity → Option Outcome)
    → step s c a ≡ guarded_onward (Some p) (λ v b. Some (Done (GoesOn (next v)) b))
    → ((v : A) (b : Activity) → p ≡ Done v b → Arrives s (next v) b (rest v b))
    → Arrives s c a (continued p rest)
goes_by s c a (Done v b) next rest does go = steps_on s c a (next v) b (rest v b) does (go v b refl)
goes_by s c a (Ended i b) next rest does go = steps_out s c a i b does
goes_by s c a NoStep next rest does go = steps_nowhere s c a does

-- what a step leaves of the frame

abbrev pub frame_in : {A : Type 0} → Frame → Progress A → Frame
frame_in other (Done v b) = b.frame
frame_in other (Ended e b) = b.frame
frame_in other NoStep = other

-- slots

pub off : (slot count : ℕ) → count ≤ slot → nat_lt slot count ≡ false
off slot count high = grind (arith, nat_tests)

pub refit : (w : Window) (slot : ℕ) (word : Word) (slots : List Word) (b : Activity) → Fits w b → Holds w slot word slots b
    → Fits (with_slots slots w) b
refit w slot word slots b fits held = record { locals = held.locals; within = omega (arith, fits.within, held.long) }

pub refits : (w : Window) (slot : ℕ) (word : Word) (slots : List Word) (a b : Activity) → Fits w a
    → Holds w slot word slots b → Fits (with_slots slots w) b
refits w slot word slots a b fits held = record { locals = held.locals; within = omega (arith, fits.within, held.long) }

-- A value in the place of another one.
pub held_anew : (w : Window) (slot : ℕ) (l v : Word) (slots : List Word) (b d : Activity) → w.count ≤ slot
    → slot < length w.slots → Holds w slot l slots b → (d.frame).locals ≡ (b.frame).locals
    → Holds w slot v (slice_set slots slot v) d
held_anew w slot l v slots b d low within held same = record {
  long = length-set slots slot v ∙ held.long;
  kept = λ k lower below. get_or-set_other slots slot k v Null (omega (arith, below)) ∙ held.kept k lower below;
  value = get_or-set_same slots slot v Null (omega (arith, within, held.long));
  locals = same ∙ held.locals ∙ sym (take-set-le w.count slots slot v low);
}

-- A value in the place of the first of two.
pub held_both : (w : Window) (slot : ℕ) (l r v : Word) (slots more : List Word) (b d e : Activity) → w.count ≤ slot
    → slot < length w.slots → Holds w slot l slots b → Holds (with_slots slots w) (slot + 1) r more d
    → (e.frame).locals ≡ (d.frame).locals → Holds w slot v (slice_set more slot v) e
held_both w slot l r v slots more b d e low within first second same = record {
  long = length-set more slot v ∙ second.long ∙ first.long;
  kept = λ k lower below. get_or-set_other more slot k v Null (omega (arith, below))
      ∙ second.kept k lower (omega (arith, below)) ∙ first.kept k lower below;
  value = get_or-set_same more slot v Null (omega (arith, within, second.long, first.long));
  locals = same ∙ second.locals ∙ sym (take-set-le w.count more slot v low);
}

module _ (s : Setting) (Good : Activity → Type 0) (function room : ℕ) where
  -- the instruction at a place

  pub step_is : (w : Window) (a : Activity) (at : ℕ) (i : Instruction) → Has s Good function room at i
      → step s (control function at w) a ≡ perform s i (control function at w) a
  step_is w a at i has =
      ap (λ (o : Option Instruction). option_map_or (λ j. perform s j (control function at w)) o (λ b. None) a) has

  -- A value, put into a slot of no local.

  pub stored : (w : Window) (slot : ℕ) (word : Word) (a b : Activity) → w.count ≤ slot → slot < length w.slots → Fits w a
      → (b.frame).locals ≡ (a.frame).locals → Holds w slot word (slice_set w.slots slot word) b
  stored w slot word a b low within fits same = record {
    long = length-set w.slots slot word;
    kept = λ k lower below. get_or-set_other w.slots slot k word Null (omega (arith, below));
    value = get_or-set_same w.slots slot word Null within;
    locals = same ∙ fits.locals ∙ sym (take-set-le w.count w.slots slot word low);
  }

  put_temporary : (w : Window) (at slot : ℕ) (word : Word) (b : Activity) → w.count ≤ slot
      → put slot (control function at w) word b
      ≡ Some (Done (GoesOn (control function (at + 1) (with_slots (slice_set w.slots slot word) w))) b)
  put_temporary w at slot word b low =
      ap (λ (t : Bool). guarded_onward ((if t then write_local slot word else guarded_give tt) b)
      (λ _. go (with_word slot word (control function at w)))) (off slot w.count low)

  put_after : (w : Window) (at slot : ℕ) (p : Progress Word) → w.count ≤ slot
      → guarded_onward (Some p) (put slot (control function at w))
      ≡ guarded_onward (Some p)
      (λ v b. Some (Done (GoesOn (control function (at + 1) (with_slots (slice_set w.slots slot v) w))) b))
  put_after w at slot (Done v b) low = put_temporary w at slot v b low
  put_after w at slot (Ended e b) low = refl
  put_after w at slot NoStep low = refl

  -- An instruction that puts the value of a step into a slot.
  pub puts : (w : Window) (at slot : ℕ) (b : Activity) (p : Progress Word) (rest : Word → Activity → Option Outcome)
      → step s (control function at w) b ≡ guarded_onward (Some p) (put slot (control function at w))
      → w.count ≤ slot
      → ((v : Word) (e : Activity) → p ≡ Done v e
      → Arrives s (control function (at + 1) (with_slots (slice_set w.slots slot v) w)) e (rest v e))
      → Arrives s (control function at w) b (continued p rest)
  puts w at slot b p rest does low go =
      goes_by s (control function at w) b p
      (λ v. control function (at + 1) (with_slots (slice_set w.slots slot v) w)) rest (does ∙ put_after w at slot p low) go

  -- phrases of one instruction, by how many values it takes from slots

  -- a phrase that is one instruction
  pub by_none : (run : Run Word) (i : Instruction) (from slot : ℕ) → slot < room → Has s Good function room from i
      → ((w : Window) (a : Activity) → Fits w a → Good a
      → perform s i (control function from w) a ≡ guarded_onward (Some (run a)) (put slot (control function from w)))
      → ((a b : Activity) (v : Word) → run a ≡ Done v b → (b.frame).locals ≡ (a.frame).locals)
      → Computes s Good function room run from (from + 1) slot
  by_none run i from slot within has does same = record {
    within = within;
    comes = λ w a rest low long fits good goes.
        puts w from slot a (run a) rest (step_is w a from i has ∙ does w a fits good) low (λ v b ran.
        goes v b (slice_set w.slots slot v) ran (stored w slot v a b low (omega (arith, within, long)) fits (same a b v ran)));
  }

  -- a phrase, then an instruction with its value
  pub by_one : (p : Run Word) (f : Word → Run Word) (i : Instruction) (from at slot : ℕ)
      → Computes s Good function room p from at slot → Has s Good function room at i
      → ((w : Window) (a b : Activity) (l : Word) → Good a → p a ≡ Done l b → Fits w b
      → slice_index_or w.slots slot Null ≡ l
      → perform s i (control function at w) b ≡ guarded_onward (Some (f l b)) (put slot (control function at w)))
      → ((l v : Word) (b d : Activity) → f l b ≡ Done v d → (d.frame).locals ≡ (b.frame).locals)
      → Computes s Good function room (p >>= f) from (at + 1) slot
  by_one p f i from at slot first has does same = record {
    within = first.within;
    comes = λ w a rest low long fits good goes.
        subst (λ (o : Option Outcome). Arrives s (control function from w) a o) (sym (continued_then (p a) f rest))
        (first.comes w a (λ l b. continued (f l b) rest) low long fits good (λ l b slots ran held.
        puts (with_slots slots w) at slot b (f l b) rest
        (step_is (with_slots slots w) b at i has
        ∙ does (with_slots slots w) a b l good ran (refits w slot l slots a b fits held) held.value) low (λ v d run.
        goes v d (slice_set slots slot v) (then_is (p a) l b f _ ran run)
        (held_anew w slot l v slots b d low (omega (arith, first.within, long)) held (same l v b d run)))));
  }

  -- two phrases, then an instruction with their values
  pub by_two : (p q : Run Word) (f : Word → Word → Run Word) (i : Instruction) (from mid at slot : ℕ)
      → Computes s Good function room p from mid slot → Computes s Good function room q mid at (slot + 1)
      → Has s Good function room at i
      → ((a b : Activity) (v : Word) → Good a → p a ≡ Done v b → Good b)
      → ((w : Window) (a b d : Activity) (l r : Word) → Good a → p a ≡ Done l b → q b ≡ Done r d → Fits w d
      → slice_index_or w.slots slot Null ≡ l → slice_index_or w.slots (slot + 1) Null ≡ r
      → perform s i (control function at w) d ≡ guarded_onward (Some (f l r d)) (put slot (control function at w)))
      → ((l r v : Word) (b d : Activity) → f l r b ≡ Done v d → (d.frame).locals ≡ (b.frame).locals)
      → Computes s Good function room (p >>= (λ left. q >>= f left)) from (at + 1) slot
  by_two p q f i from mid at slot first second has keeps does same = record {
    within = first.within;
    comes = λ w a rest low long fits good goes.
        subst (λ (o : Option Outcome). Arrives s (control function from w) a o)
        (sym (continued_then (p a) (λ left. q >>= f left) rest))
        (first.comes w a (λ l b. continued ((q >>= f l) b) rest) low long fits good (λ l b slots ran held.
        subst (λ (o : Option Outcome). Arrives s (control function mid (with_slots slots w)) b o)
        (sym (continued_then (q b) (f l) rest))
        (second.comes (with_slots slots w) b (λ r d. continued (f l r d) rest) (omega (arith, low))
        (omega (arith, long, held.long)) (refits w slot l slots a b fits held) (keeps a b l good ran)
        (λ r d more run also.
        puts (with_slots more w) at slot d (f l r d) rest
        (step_is (with_slots more w) d at i has
        ∙ does (with_slots more w) a b d l r good ran run
        (refits (with_slots slots w) (slot + 1) r more b d (refits w slot l slots a b fits held) also)
        (also.kept slot low (omega arith) ∙ held.value) also.value) low (λ v e computed.
        goes v e (slice_set more slot v) (then_is (p a) l b (λ left. q >>= f left) _ ran (then_is (q b) r d (f l) _ run computed))
        (held_both w slot l r v slots more b d e low (omega (arith, first.within, long)) held also (same l r v d e computed)))))));
  }
