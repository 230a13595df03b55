-- The code of conditions that compare integers does what they do.
use Rattle.std.proofs.Common.{◌≡◌, ◌≤◌, ◌<◌, ◌⊎◌, inl, inr, ℕ, ◌+◌, List, take, length, refl, sym, ap, ◌∙◌, subst, arith}
use Rattle.std.proofs.Common.{true, false, Bool, cond}
use Rattle.std.specs.Prelude.{Option, Some, None, slice_index_or, if◌then◌else◌}
use Rattle.ash_host.specs.declared.word.Word.{Word}
use Rattle.ash_host.specs.declared.word.Word.TheVariants.{Null}
use Rattle.ash_integers.specs.declared.comparison.Comparison.{Comparison}
use Rattle.ash_integers.specs.Integers.{number_of, compared}
use Rattle.ash_meaning.specs.Activity.{Activity}
use Rattle.ash_meaning.specs.Frames.{tick}
use Rattle.ash_meaning.specs.Runs.{Run, Progress, Done, Ended, NoStep, onward, give, ◌>>=◌, ◌>>◌}
use Rattle.ash_meaning.specs.Releases as releases
use Rattle.ash_meaning.specs.Releases.{let_go, full}
use Rattle.ash_meaning.specs.Activity.{in_frame}
use Rattle.ash_meaning.specs.OperatorMeaning.{is_true}
use Rattle.ash_meaning.specs.Ends.{Outcome}
use Rattle.ash_run_steps.specs.Guarded.{onward as guarded_onward}
use Rattle.ash_run_steps.specs.GuardedSteps.{end_expression}
use Rattle.ash_code.specs.declared.instruction.Instruction.TheVariants as i
use Rattle.ash_code.specs.Controls.{Caller, Window, control}
use Rattle.ash_code.specs.Performing.{Setting, Next, GoesOn, go, go_to, go_if}
use Rattle.ash_code.specs.Running.{step}
use Rattle.ash_compile.specs.Stretches.{continued, Arrives, with_slots, Has}
use Rattle.ash_compile.specs.Performances.{here, HasLocals, Decides}
use Rattle.ash_compile.specs.Operands.{ComputesIn}
use Rattle.ash_compile.proofs.Simulation.{goes_by, step_is, then_is}
use Rattle.ash_compile.proofs.Statements.{arrives_then, fits_there, ticked_stands, LeadsTo}
use Rattle.ash_compile.proofs.Loops.{came}
use Rattle.ash_compile.proofs.Phrases.{local_in}
use Rattle.ash_compile.proofs.Conditions.{RanksAfter, condition, ended_stands}
use Rattle.ash_compile.proofs.PlaceCode.{refits_below}
use Rattle.ash_compile.proofs.OperandCode.{below_in, stays_in}

module _ (s : Setting) (Good : Activity → Type 0) (function room : ℕ) where
  ends_comparison : (comparison : Comparison) (at to left right count : ℕ) (slots : List Word) (callers : List Caller)
      (a : Activity) (t : Bool)
      → (s.test).has_ranks a.world ≡ true → Has s Good function room at (i.BranchUnless comparison left right to)
      → compared comparison (number_of (slice_index_or slots left Null)) (number_of (slice_index_or slots right Null)) ≡ t
      → step s (here function at count slots callers) a
      ≡ guarded_onward (Some (releases.end_expression a))
      (λ _ b. Some (Done (GoesOn (here function (if t then at + 1 else to) count slots callers)) b))
  ends_comparison comparison at to left right count slots callers a t ranks has is =
      let w : Window = record { slots = slots; count = count; callers = callers } in
      let c = here function at count slots callers in
      step_is s Good function room w a at (i.BranchUnless comparison left right to) has
      ∙ ap (λ (u : Bool). guarded_onward (cond u (Some (releases.release (in_frame let_go a))) None)
      (λ _. if compared comparison (number_of (slice_index_or slots left Null)) (number_of (slice_index_or slots right Null))
      then go c else go_to to c)) ranks
      ∙ by_truth t is
    where
      by_truth : (u : Bool)
          → compared comparison (number_of (slice_index_or slots left Null)) (number_of (slice_index_or slots right Null)) ≡ u
          → guarded_onward (Some (releases.release (in_frame let_go a)))
          (λ _. if compared comparison (number_of (slice_index_or slots left Null))
          (number_of (slice_index_or slots right Null))
          then go (here function at count slots callers) else go_to to (here function at count slots callers))
          ≡ guarded_onward (Some (releases.end_expression a))
          (λ _ b. Some (Done (GoesOn (here function (if u then at + 1 else to) count slots callers)) b))
      by_truth true sets =
          ap (λ (u : Bool). guarded_onward (Some (releases.release (in_frame let_go a)))
          (λ _. if u then go (here function at count slots callers) else go_to to (here function at count slots callers)))
          sets
      by_truth false sets =
          ap (λ (u : Bool). guarded_onward (Some (releases.release (in_frame let_go a)))
          (λ _. if u then go (here function at count slots callers) else go_to to (here function at count slots callers)))
          sets

  -- what compares the values of two phrases
  abbrev both : Run Word → Run Word → (Word → Word → Word) → Run Word
  both p q f = p >>= (λ l. q >>= (λ r. give (f l r)))

  -- The values are compared where the full expression ends. That of the left phrase is where it was.
  pub compares : (comparison : Comparison) (p q : Run Word) (f : Word → Word → Word)
      (from mid at left right unmet count : ℕ)
      → ComputesIn s Good function room p from mid count left
      → ComputesIn s Good function room q mid at (count + 1) right
      → Has s Good function room at (i.BranchUnless comparison left right unmet)
      → ((a b : Activity) (v : Word) → Good a → p a ≡ Done v b → Good b)
      → (left ≡ count) ⊎ ((b d : Activity) (v : Word) → q b ≡ Done v d → (d.frame).locals ≡ (b.frame).locals)
      → RanksAfter s Good (both p q f)
      → ((l r : Word) → is_true (f l r) ≡ compared comparison (number_of l) (number_of r))
      → Decides s Good function room (condition (both p q f)) from (at + 1) unmet count
  compares comparison p q f from mid at left right unmet count first second has keeps stays ranks tells = record {
    comes = λ callers size slots a rest long stands good when_true when_false.
        let start = here function from count slots callers in
        let w : Window = record { slots = slots; count = count; callers = callers } in
        let P = both p q f in
        let ended_by : Word → Activity → Option Outcome
        = λ v b. continued ((releases.end_expression >> give v) b) (λ u e. rest (is_true u) e) in
        arrives_then s start a (full P a) (λ word. give (is_true word)) rest
        (arrives_then s start a (P a) (λ v. releases.end_expression >> give v) (λ v b. rest (is_true v) b)
        (arrives_then s start a (p a) (λ l. q >>= (λ r. give (f l r))) ended_by
        (first.comes w a (λ l b. continued ((q >>= (λ r. give (f l r))) b) ended_by) (omega arith)
        (omega (arith, long, stands.long)) (fits_there size count slots callers a stands) good (λ l b xs ran held.
        let fits = refits_below w count xs a b (fits_there size count slots callers a stands)
        (below_in w count left l xs b held) in
        arrives_then s (control function mid (with_slots xs w)) b (q b) (λ r. give (f l r)) ended_by
        (second.comes (with_slots xs w) b (λ r d. continued (give (f l r) d) ended_by) (omega arith)
        (omega (arith, long, stands.long, held.long)) fits (keeps a b l good ran) (λ r d more run also.
        let unmoved : (left ≡ count) ⊎ ((d.frame).locals ≡ (b.frame).locals)
        = elim stays [ inl own ↦ inl own | inr kept ↦ inr (kept b d r run) ] in
        let there : HasLocals size count more d
        = record { long = also.long ∙ held.long ∙ stands.long; within = stands.within; locals = also.locals } in
        let made : P a ≡ Done (f l r) d
        = then_is (p a) l b (λ x. q >>= (λ y. give (f x y))) _ ran (then_is (q b) r d (λ y. give (f l y)) _ run refl) in
        let c = here function at count more callers in
        arrives_then s c d (releases.end_expression d) (λ _. give (f l r)) (λ v e. rest (is_true v) e)
        (goes_by s c d (releases.end_expression d)
        (λ _. here function (if is_true (f l r) then at + 1 else unmet) count more callers) (λ _ e. rest (is_true (f l r)) e)
        (ends_comparison comparison at unmet left right count more callers d (is_true (f l r)) (ranks a d (f l r) good made) has
        (ap (λ (x : Word). compared comparison (number_of x) (number_of (slice_index_or more right Null)))
        (stays_in w count left right l r xs more b d held also (omega arith) unmoved)
        ∙ ap (λ (x : Word). compared comparison (number_of l) (number_of x)) also.value ∙ sym (tells l r)))
        (λ u e ended.
        pick callers size more a e rest when_true when_false (ended_stands size count more d e ended there)
        (is_true (f l r))
        (then_is (full P a) (f l r) e (λ word. give (is_true word)) _
        (then_is (P a) (f l r) d (λ x. releases.end_expression >> give x) _ made
        (ap (λ (x : Progress (Unit {0})). onward x (λ _. give (f l r))) ended)) refl)))))))));
  }
    where
      pick : (callers : List Caller) (size : ℕ) (next : List Word) (a d : Activity) (rest : Bool → Activity → Option Outcome)
          → ((b : Activity) (next : List Word) → condition (both p q f) a ≡ Done true b → HasLocals size count next b
          → Arrives s (here function (at + 1) count next callers) b (rest true b))
          → ((b : Activity) (next : List Word) → condition (both p q f) a ≡ Done false b → HasLocals size count next b
          → Arrives s (here function unmet count next callers) b (rest false b))
          → HasLocals size count next d
          → (t : Bool) → condition (both p q f) a ≡ Done t d
          → Arrives s (here function (if t then at + 1 else unmet) count next callers) d (rest t d)
      pick callers size next a d rest when_true when_false there true done = when_true d next done there
      pick callers size next a d rest when_true when_false there false done = when_false d next done there

  -- The tick of the next turn, and a condition that compares two locals.
  module _ (comparison : Comparison) (line at left right met count : ℕ) (run : Run Word) (f : Word → Word → Word)
      (has : Has s Good function room at (i.LoopWhile line comparison left right met))
      (ticked : LeadsTo Good (tick line) Good)
      (ranks : (a : Activity) → Good a → (s.test).has_ranks a.world ≡ true)
      (reads : (a : Activity) → Good a
      → run a ≡ Done (f (slice_index_or (a.frame).locals left Null) (slice_index_or (a.frame).locals right Null)) a)
      (low_left : (a : Activity) → Good a → left < length (a.frame).locals)
      (low_right : (a : Activity) → Good a → right < length (a.frame).locals)
      (tells : (l r : Word) → is_true (f l r) ≡ compared comparison (number_of l) (number_of r)) where
    -- what it compares
    abbrev value : Activity → Word
    value a = f (slice_index_or (a.frame).locals left Null) (slice_index_or (a.frame).locals right Null)

    -- what is done of the condition where its value is there
    abbrev ending : Word → Progress (Unit {0}) → Progress Bool
    ending v q = onward (onward q (λ _. give v)) (λ word. give (is_true word))

    condition_is : (a : Activity) → Good a → condition run a ≡ ending (value a) (releases.end_expression a)
    condition_is a good =
        ap (λ (p : Progress Word). onward (onward p (λ v. releases.end_expression >> give v)) (λ word. give (is_true word)))
        (reads a good)

    abbrev going : List Word → List Caller → Bool → Activity → Option (Progress Next)
    going slots callers t b = Some (Done (GoesOn (here function (if t then met else at + 1) count slots callers)) b)

    ended_by : (slots : List Word) (callers : List Caller) (t : Bool) (v : Word) (q : Progress (Unit {0})) → t ≡ is_true v
        → guarded_onward (Some q) (λ _. go_if t met (here function at count slots callers))
        ≡ guarded_onward (Some (ending v q)) (going slots callers)
    ended_by slots callers true v (Done u e) is = ap (λ (t : Bool). going slots callers t e) is
    ended_by slots callers false v (Done u e) is = ap (λ (t : Bool). going slots callers t e) is
    ended_by slots callers t v (Ended e b) is = refl
    ended_by slots callers t v NoStep is = refl

    performed : (slots : List Word) (callers : List Caller) (t : Bool) (p : Progress (Unit {0}))
        → ((b : Activity) → p ≡ Done tt b → Good b × (t ≡ is_true (value b)))
        → guarded_onward (guarded_onward (Some p) (λ _. end_expression s.test))
        (λ _. go_if t met (here function at count slots callers))
        ≡ guarded_onward (Some (onward p (λ _. condition run))) (going slots callers)
    performed slots callers t (Done u b) ready =
        let facts = ready b refl in
        ap (λ (x : Bool). guarded_onward (cond x (Some (releases.release (in_frame let_go b))) None)
        (λ _. go_if t met (here function at count slots callers))) (ranks b facts.0)
        ∙ ended_by slots callers t (value b) (releases.end_expression b) facts.1
        ∙ sym (ap (λ (x : Progress Bool). guarded_onward (Some x) (going slots callers)) (condition_is b facts.0))
    performed slots callers t (Ended e b) ready = refl
    performed slots callers t NoStep ready = refl

    done_same : {A : Type 0} {v w : A} {b d : Activity} → Done v b ≡ Done w d → b ≡ d
    done_same is = cc

    left_stands : (size : ℕ) (slots : List Word) (x d : Activity) (t : Bool) → HasLocals size count slots x → Good x
        → condition run x ≡ Done t d → HasLocals size count slots d
    left_stands size slots x d t stands good is =
        let two = came (onward (releases.end_expression x) (λ _. give (value x))) (λ word. give (is_true word)) t d
        (sym (condition_is x good) ∙ is) in
        let one = came (releases.end_expression x) (λ _. give (value x)) two.0 two.1 two.2 in
        subst (λ (b : Activity). HasLocals size count slots b) (done_same one.3 ∙ done_same two.3)
        (ended_stands size count slots x one.1 one.2 stands)

    pub repeats : Decides s Good function room (tick line >> condition run) at met (at + 1) count
    repeats = record {
      comes = λ callers size slots a rest long stands good when_true when_false.
          let w : Window = record { slots = slots; count = count; callers = callers } in
          let start = here function at count slots callers in
          let t = compared comparison (number_of (slice_index_or slots left Null)) (number_of (slice_index_or slots right Null)) in
          goes_by s start a ((tick line >> condition run) a)
          (λ u. here function (if u then met else at + 1) count slots callers) rest
          (step_is s Good function room w a at (i.LoopWhile line comparison left right met) has
          ∙ performed slots callers t (tick line a) (λ b ran.
          let there = ticked_stands line size count slots a b ran stands in
          let fits = fits_there size count slots callers b there in
          let good_b = ticked a b tt good ran in (
            good_b,
            ap (λ (x : Word). compared comparison (number_of x) (number_of (slice_index_or slots right Null)))
                (local_in w b left fits (low_left b good_b))
                ∙ ap (λ (x : Word). compared comparison (number_of (slice_index_or (b.frame).locals left Null)) (number_of x))
                (local_in w b right fits (low_right b good_b))
                ∙ sym (tells (slice_index_or (b.frame).locals left Null) (slice_index_or (b.frame).locals right Null)),
          )))
          (λ u d ran.
          let parts = came (tick line a) (λ _. condition run) u d ran in
          let there = left_stands size slots parts.1 d u (ticked_stands line size count slots a parts.1 parts.2 stands)
          (ticked a parts.1 tt good parts.2) parts.3 in
          chosen callers size slots a d rest when_true when_false there u ran);
    }
      where
        chosen : (callers : List Caller) (size : ℕ) (slots : List Word) (a d : Activity)
            (rest : Bool → Activity → Option Outcome)
            → ((b : Activity) (next : List Word) → (tick line >> condition run) a ≡ Done true b
            → HasLocals size count next b
            → Arrives s (here function met count next callers) b (rest true b))
            → ((b : Activity) (next : List Word) → (tick line >> condition run) a ≡ Done false b
            → HasLocals size count next b
            → Arrives s (here function (at + 1) count next callers) b (rest false b))
            → HasLocals size count slots d
            → (u : Bool) → (tick line >> condition run) a ≡ Done u d
            → Arrives s (here function (if u then met else at + 1) count slots callers) d (rest u d)
        chosen callers size slots a d rest when_true when_false there true ran = when_true d slots ran there
        chosen callers size slots a d rest when_true when_false there false ran = when_false d slots ran there
