-- The code of `switch` does what it does.
use Rattle.std.proofs.Common.{◌≡◌, ◌≤◌, ℕ, ◌+◌, ℤ, List, [], ◌∷◌, length, refl, sym, ap, ◌∙◌, subst, arith, true, false, Bool}
use Rattle.std.specs.Prelude.{Option, Some, None, is_none, slice_index_or, if◌then◌else◌}
use Rattle.std.specs.Ordering.{int_eq}
use Rattle.ash_host.specs.declared.word.Word.{Word}
use Rattle.ash_host.specs.declared.word.Word.TheVariants.{Null}
use Rattle.ash_integers.specs.Integers.{number_of}
use Rattle.ash_meaning.specs.Activity.{Activity}
use Rattle.ash_meaning.specs.Runs.{Run, Progress, Done, onward, give, ◌>>=◌, ◌>>◌}
use Rattle.ash_meaning.specs.Frames.{tick}
use Rattle.ash_meaning.specs.Releases as releases
use Rattle.ash_meaning.specs.Releases.{full}
use Rattle.ash_meaning.specs.StatementMeaning.{Flow, On, Labelled, from_label, is_constant, or_else, chosen, fall_through, switch}
use Rattle.ash_meaning.specs.Ends.{Outcome}
use Rattle.ash_code.specs.declared.instruction.Instruction.TheVariants as i
use Rattle.ash_code.specs.Controls.{Caller, Window}
use Rattle.ash_code.specs.Performing.{Setting, GoesOn, go, go_to}
use Rattle.ash_code.specs.Running.{step}
use Rattle.ash_compile.specs.Stretches.{continued, Arrives, Has, Computes}
use Rattle.ash_compile.specs.Performances.{here, HasLocals, Exits, Outs, Performs}
use Rattle.ash_compile.proofs.Simulation.{steps_on, goes_by, step_is, then_is}
use Rattle.ash_compile.proofs.Statements.{arrives_then, ticks_first, ticked_stands, fits_there, held_there, LeadsTo}
use Rattle.ash_compile.proofs.Statements.{performs_none, performs_then, jumps}
use Rattle.ash_compile.proofs.Conditions.{RanksAfter, ends_full, ended_stands}

-- where the code of the first label begins, or else the end of all
abbrev pub first_of : List ℕ → ℕ → ℕ
first_of [] to = to
first_of (at ∷ ats) to = at

-- where the code of the first label begins that passes a test
abbrev pub place_of : (Option ℤ → Bool) → List Labelled → List ℕ → ℕ → ℕ
place_of test (l ∷ ls) (at ∷ ats) to = if test l.constant then at else place_of test ls ats to
place_of test ls ats to = to

module _ (s : Setting) (Good : Activity → Type 0) (function room : ℕ) where
  -- The statements of each label are at one of these places, and lead to those of the next.
  abbrev pub Falls : Exits → List Labelled → List ℕ → ℕ → ℕ → Type 0
  Falls exits [] [] to count = Unit {0}
  Falls exits (l ∷ ls) (at ∷ ats) to count =
      Performs s Good function room exits l.run at (first_of ats to) count count
      × ((a b : Activity) → Good a → l.run a ≡ Done On b → Good b)
      × Falls exits ls ats to count
  Falls exits _ _ to count = ⊥

  -- The constants of labels are tested one after another. Each test leads to the statements of its label, and the code
  -- behind the tests to those of `default`, or past all.
  abbrev pub TestsOne : ℕ → ℕ → ℕ → Option ℤ → Type 0 → Type 0 → Type 0
  TestsOne at to slot None Here Next = Here
  TestsOne at to slot (Some constant) Here Next =
      (word : Word) × (number_of word ≡ constant) × Has s Good function room at (i.JumpIfNumber slot word to) × Next

  abbrev pub Tests : ℕ → List Labelled → List ℕ → ℕ → ℕ → Type 0
  Tests at [] [] other slot = Has s Good function room at (i.Jump other)
  Tests at (l ∷ ls) (to ∷ tos) other slot =
      TestsOne at to slot l.constant (Tests at ls tos other slot) (Tests (at + 1) ls tos other slot)
  Tests at _ _ other slot = ⊥

  -- falling through

  falls_through : (exits : Exits) (ls : List Labelled) (ats : List ℕ) (to count : ℕ) → Falls exits ls ats to count
      → Performs s Good function room exits (fall_through ls) (first_of ats to) to count count
  falls_through exits [] [] to count falls = performs_none s Good function room exits to count
  falls_through exits (l ∷ ls) (at ∷ ats) to count falls =
      performs_then s Good function room exits Good l.run (fall_through ls) at (first_of ats to) to count count count
      falls.0 falls.1 (falls_through exits ls ats to count falls.2)
  falls_through exits [] (at ∷ ats) to count falls = absurd falls
  falls_through exits (l ∷ ls) [] to count falls = absurd falls

  -- from the first label on that passes a test
  falls_from : (exits : Exits) (test : Option ℤ → Bool) (ls : List Labelled) (ats : List ℕ) (to count : ℕ)
      → Falls exits ls ats to count
      → Performs s Good function room exits (fall_through (from_label test ls)) (place_of test ls ats to) to count count
  falls_from exits test [] [] to count falls = performs_none s Good function room exits to count
  falls_from exits test (l ∷ ls) (at ∷ ats) to count falls =
      pick (falls_from exits test ls ats to count falls.2) (test l.constant)
    where
      pick : Performs s Good function room exits (fall_through (from_label test ls)) (place_of test ls ats to) to count count
          → (t : Bool)
          → Performs s Good function room exits (fall_through (if t then l ∷ ls else from_label test ls))
          (if t then at else place_of test ls ats to) to count count
      pick later true = falls_through exits (l ∷ ls) (at ∷ ats) to count falls
      pick later false = later
  falls_from exits test [] (at ∷ ats) to count falls = absurd falls
  falls_from exits test (l ∷ ls) [] to count falls = absurd falls

  -- one test

  tests_at : (at to count slot : ℕ) (slots : List Word) (callers : List Caller) (a : Activity) (number constant : ℤ)
      (word : Word) (t : Bool)
      → Has s Good function room at (i.JumpIfNumber slot word to)
      → number_of (slice_index_or slots slot Null) ≡ number → number_of word ≡ constant → int_eq number constant ≡ t
      → step s (here function at count slots callers) a
      ≡ Some (Done (GoesOn (here function (if t then to else at + 1) count slots callers)) a)
  tests_at at to count slot slots callers a number constant word t has is same tested =
      let w : Window = record { slots = slots; count = count; callers = callers } in
      let c = here function at count slots callers in
      step_is s Good function room w a at (i.JumpIfNumber slot word to) has
      ∙ ap (λ (n : ℤ). (if int_eq n (number_of word) then go_to to c else go c) a) is
      ∙ ap (λ (n : ℤ). (if int_eq number n then go_to to c else go c) a) same
      ∙ ap (λ (u : Bool). (if u then go_to to c else go c) a) tested
      ∙ by_truth t
    where
      by_truth : (u : Bool)
          → (if u then go_to to (here function at count slots callers) else go (here function at count slots callers)) a
          ≡ Some (Done (GoesOn (here function (if u then to else at + 1) count slots callers)) a)
      by_truth true = refl
      by_truth false = refl

  -- all tests

  abbrev Chooses : Exits → ℕ → ℕ → ℕ → ℤ → Run Flow → Type 0
  Chooses exits at to count number run =
      (callers : List Caller) (size : ℕ) (slots : List Word) (a : Activity) (rest : Flow → Activity → Option Outcome)
      → number_of (slice_index_or slots count Null) ≡ number
      → room ≤ size → HasLocals size count slots a → Good a
      → Outs s function exits to count callers size (run a) rest
      → Arrives s (here function at count slots callers) a (continued (run a) rest)

  chooses : (exits : Exits) (at : ℕ) (ls others : List Labelled) (ats : List ℕ) (other to count : ℕ) (number : ℤ)
      → Tests at ls ats other count
      → Falls exits ls ats to count
      → Performs s Good function room exits (fall_through others) other to count count
      → Chooses exits at to count number (fall_through (or_else (from_label (is_constant number) ls) others))
  chooses exits at [] others [] other to count number tests falls performs =
      λ callers size slots a rest is long stands good outs.
      jumps s Good function room at other tests count slots callers a (continued (fall_through others a) rest)
      (performs.comes callers size slots a rest long stands good outs)
  chooses exits at (l ∷ ls) others (place ∷ ats) other to count number tests falls performs =
      by_constant l.constant tests
      (λ here_at more. chooses exits here_at ls others ats other to count number more falls.2 performs)
    where
      by_truth : (constant : ℤ) (word : Word) → number_of word ≡ constant
          → Has s Good function room at (i.JumpIfNumber count word place) → Tests (at + 1) ls ats other count
          → ((here_at : ℕ) → Tests here_at ls ats other count
          → Chooses exits here_at to count number (fall_through (or_else (from_label (is_constant number) ls) others)))
          → (t : Bool) → int_eq number constant ≡ t
          → Chooses exits at to count number
          (fall_through (or_else (if t then l ∷ ls else from_label (is_constant number) ls) others))
      by_truth constant word same has more later true tested callers size slots a rest is long stands good outs =
          let run = fall_through (l ∷ ls) in
          steps_on s (here function at count slots callers) a (here function place count slots callers) a
          (continued (run a) rest)
          (tests_at at place count count slots callers a number constant word true has is same tested)
          ((falls_through exits (l ∷ ls) (place ∷ ats) to count falls).comes callers size slots a rest long stands good outs)
      by_truth constant word same has more later false tested callers size slots a rest is long stands good outs =
          let run = fall_through (or_else (from_label (is_constant number) ls) others) in
          steps_on s (here function at count slots callers) a (here function (at + 1) count slots callers) a
          (continued (run a) rest)
          (tests_at at place count count slots callers a number constant word false has is same tested)
          (later (at + 1) more callers size slots a rest is long stands good outs)

      by_constant : (constant : Option ℤ) → TestsOne at place count constant (Tests at ls ats other count)
          (Tests (at + 1) ls ats other count)
          → ((here_at : ℕ) → Tests here_at ls ats other count
          → Chooses exits here_at to count number (fall_through (or_else (from_label (is_constant number) ls) others)))
          → Chooses exits at to count number
          (fall_through (or_else (if is_constant number constant then l ∷ ls else from_label (is_constant number) ls) others))
      by_constant None more later = later at more
      by_constant (Some constant) more later =
          by_truth constant more.0 more.1 more.2 more.3 later (int_eq number constant) refl
  chooses exits at [] others (place ∷ ats) other to count number tests falls performs = absurd tests
  chooses exits at (l ∷ ls) others [] other to count number tests falls performs = absurd tests

  -- `switch`, from its value on

  pub switches : (exits : Exits) (Begun : Activity → Type 0) (p : Run Word) (all : List Labelled) (ats : List ℕ)
      (line from mid to count : ℕ)
      → Has s Good function room from (i.Tick line)
      → LeadsTo Good (tick line) Begun
      → Computes s Begun function room p (from + 1) mid count
      → Has s Begun function room mid i.EndExpression
      → RanksAfter s Begun p
      → LeadsTo Begun (full p) Good
      → Tests (mid + 1) all ats (place_of is_none all ats to) count
      → Falls exits all ats to count
      → Performs s Good function room exits (tick line >> full p >>= switch all) from to count count
  switches exits Begun p all ats line from mid to count has ticked computes ends ranks keeps tests falls = record {
    comes = λ callers size slots a rest long stands good outs.
        let start = here function from count slots callers in
        arrives_then s start a ((tick line >> full p) a) (switch all) rest
        (ticks_first s Good function room line (full p) from count slots callers a (λ v d. continued (switch all v d) rest) has
        (λ b ran.
        let begun = ticked_stands line size count slots a b ran stands in
        arrives_then s (here function (from + 1) count slots callers) b (p b) (λ v. releases.end_expression >> give v)
        (λ v d. continued (switch all v d) rest)
        (computes.comes (record { slots = slots; count = count; callers = callers }) b
        (λ v d. continued ((releases.end_expression >> give v) d) (λ v e. continued (switch all v e) rest)) (omega arith)
        (omega (arith, long, stands.long)) (fits_there size count slots callers b begun) (ticked a b tt good ran)
        (λ v d next computed held.
        let c = here function mid count next callers in
        arrives_then s c d (releases.end_expression d) (λ _. give v) (λ v e. continued (switch all v e) rest)
        (goes_by s c d (releases.end_expression d) (λ _. here function (mid + 1) count next callers)
        (λ _ e. continued (switch all v e) rest)
        (ends_full s Begun function room mid count next callers d (ranks b d v (ticked a b tt good ran) computed) ends)
        (λ u e ended.
        let done : full p b ≡ Done v e
        = then_is (p b) v d (λ x. releases.end_expression >> give x) _ computed
        (ap (λ (x : Progress (Unit {0})). onward x (λ _. give v)) ended) in
        choose callers size next v e rest (ap number_of held.value) long
        (ended_stands size count next d e ended (held_there size count count slots next callers v b d begun held))
        (keeps b e v (ticked a b tt good ran) done)
        (subst (λ (q : Progress Flow). Outs s function exits to count callers size q rest)
        (then_is ((tick line >> full p) a) v e (switch all) _ (then_is (tick line a) tt b (λ _. full p) _ ran done) refl)
        outs)))))));
  }
    where
      choose : (callers : List Caller) (size : ℕ) (slots : List Word) (v : Word) (a : Activity)
          (rest : Flow → Activity → Option Outcome)
          → number_of (slice_index_or slots count Null) ≡ number_of v
          → room ≤ size → HasLocals size count slots a → Good a
          → Outs s function exits to count callers size (switch all v a) rest
          → Arrives s (here function (mid + 1) count slots callers) a (continued (switch all v a) rest)
      choose callers size slots v a rest =
          chooses exits (mid + 1) all (from_label is_none all) ats (place_of is_none all ats to) to count (number_of v) tests
          falls (falls_from exits is_none all ats to count falls) callers size slots a rest
