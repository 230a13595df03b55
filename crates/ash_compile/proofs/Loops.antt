-- The code of loops does what they do.
use Rattle.std.proofs.Common.{◌≡◌, ◌≤◌, ℕ, zero, suc, ◌+◌, List, take, length, refl, sym, ap, ◌∙◌, subst, arith, true, false, Bool}
use Rattle.std.specs.Prelude.{Option, if◌then◌else◌}
use Rattle.ash_host.specs.declared.word.Word.{Word}
use Rattle.ash_meaning.specs.Activity.{Frame, Activity, in_frame}
use Rattle.ash_meaning.specs.Runs.{Run, Progress, Done, Ended, NoStep, onward, give, ◌>>=◌, ◌>>◌, out_of_ticks}
use Rattle.ash_meaning.specs.Frames.{tick}
use Rattle.ash_meaning.specs.Releases as releases
use Rattle.ash_meaning.specs.Releases.{keeping}
use Rattle.ash_meaning.specs.StatementMeaning.{Flow, On, Broke, Continued, Returned, Turn, turn, turns, after_body, after_break}
use Rattle.ash_meaning.specs.Ends.{Outcome}
use Rattle.ash_code.specs.declared.instruction.Instruction.TheVariants as i
use Rattle.ash_code.specs.Controls.{Caller, Control, Window}
use Rattle.ash_code.specs.Performing.{Setting}
use Rattle.ash_compile.specs.Stretches.{continued, Arrives, Has}
use Rattle.ash_compile.specs.Performances.{here, HasLocals, Exit, Exits, Acts, Decides, Jumps, Outs, Performs, Reaches, Lands, by_release, never}
use Rattle.ash_compile.proofs.Simulation.{continued_then, goes_by, step_is, then_is}
use Rattle.ash_compile.proofs.Statements.{arrives_then, ticks_first, ticked_stands, spent, ticks_in, Ranked, LeadsTo}
use Rattle.ash_compile.proofs.Leaving.{releases_at, released_stands}

pub released_ticks : (a b : Activity) → releases.release a ≡ Done tt b → b.ticks ≡ a.ticks
unfolding releases.release
released_ticks a b is = ap (λ (p : Progress (Unit {0})). ticks_in a.ticks p) (sym is)

-- how a phrase came to its value

pub came : {A B : Type 0} (p : Progress A) (f : A → Run B) (v : B) (b : Activity) → onward p f ≡ Done v b
    → (u : A) × (d : Activity) × (p ≡ Done u d) × (f u d ≡ Done v b)
came (Done u d) f v b is = (u, d, refl, is)
came (Ended e d) f v b is = absurd (cc)
came NoStep f v b is = absurd (cc)

-- the locals of an activity are so many at most
abbrev pub Whole : ℕ → Activity → Type 0
Whole count a = (a.frame).locals ≡ take count (a.frame).locals

pub kept_whole : (count : ℕ) (a : Activity) → Whole count a → in_frame (keeping count) a ≡ a
kept_whole count a whole = ap (λ (ws : List Word). in_frame (λ (f : Frame). record f { locals = ws }) a) (sym whole)

-- A phrase of a loop leads from good activities to good ones, and gives no ticks back.
abbrev pub Spends : {A : Type 0} → (Activity → Type 0) → Run A → Type 0
Spends {A} Good run = (a b : Activity) (v : A) → Good a → run a ≡ Done v b → Good b × (b.ticks ≤ a.ticks)

-- a phrase after a tick that is not there

none_left : (p : Progress (Unit {0})) (f : Run Bool) (rest : Flow → Activity → Option Outcome)
    → ((b : Activity) → p ≡ Done tt b → ⊥)
    → continued (onward p (λ _. f)) (λ _ b. rest On b) ≡ continued (onward p (λ _. out_of_ticks)) rest
none_left (Done v b) f rest no_tick = absurd (no_tick b refl)
none_left (Ended e b) f rest no_tick = refl
none_left NoStep f rest no_tick = refl

-- a tick, a condition, and what follows that
tested_after : (p : Progress (Unit {0})) (f : Run Bool) (g : Bool → Run Flow)
    → onward (onward p (λ _. f)) g ≡ onward p (λ _. f >>= g)
tested_after (Done v b) f g = refl
tested_after (Ended e b) f g = refl
tested_after NoStep f g = refl

-- phrases before and after loops

module _ (s : Setting) (Good : Activity → Type 0) (function room : ℕ) where
  -- a tick, then a statement
  pub ticks_then : (exits : Exits) (Begun : Activity → Type 0) (run : Run Flow) (line from to count more : ℕ)
      → Has s Good function room from (i.Tick line)
      → LeadsTo Good (tick line) Begun
      → Performs s Begun function room exits run (from + 1) to count more
      → Performs s Good function room exits (tick line >> run) from to count more
  ticks_then exits Begun run line from to count more has ticked performs = record {
    comes = λ callers size slots a rest long stands good outs.
        ticks_first s Good function room line run from count slots callers a rest has (λ b ran.
        performs.comes callers size slots b rest long (ticked_stands line size count slots a b ran stands)
        (ticked a b tt good ran)
        (subst (λ (p : Progress Flow). Outs s function exits to more callers size p rest)
        (then_is (tick line a) tt b (λ _. run) _ ran refl) outs));
  }

  -- the head of a `for`, then the loop
  pub acts_first : (exits : Exits) (Then : Activity → Type 0) (acts : Run (Unit {0})) (run : Run Flow)
      (from mid to count more most : ℕ)
      → Acts s Good function room acts from mid count more
      → LeadsTo Good acts Then
      → Performs s Then function room exits run mid to more most
      → Performs s Good function room exits (acts >> run) from to count most
  acts_first exits Then acts run from mid to count more most first keeps performs = record {
    comes = λ callers size slots a rest long stands good outs.
        arrives_then s (here function from count slots callers) a (acts a) (λ _. run) rest
        (first.comes callers size slots a (λ _ b. continued (run b) rest) long stands good (λ b next ran there.
        performs.comes callers size next b rest long there (keeps a b tt good ran)
        (subst (λ (p : Progress Flow). Outs s function exits to most callers size p rest)
        (then_is (acts a) tt b (λ _. run) _ ran refl) outs)));
  }

  -- `break` leads past the loop or the `switch`, to a release point
  pub after_breaks : (exits : Exits) (run : Run Flow) (from broken to count : ℕ)
      → Performs s Good function room
      (record exits { broken = record { at = broken; outer = count } }) run from to count count
      → Lands s Good function room Broke run broken to
      → ((a b : Activity) → Good a → run a ≡ Done Broke b → ((s.test).has_ranks b.world ≡ true) × Whole count b)
      → Performs s Good function room exits (run >>= after_break) from to count count
  after_breaks exits run from broken to count performs lands broke = record {
    comes = λ callers size slots a rest long stands good outs.
        arrives_then s (here function from count slots callers) a (run a) after_break rest
        (performs.comes callers size slots a (λ f b. continued (after_break f b) rest) long stands good (record {
          on = λ b next is there. outs.on b next (then_is (run a) On b after_break _ is refl) there;
          broke = λ b next is there. past callers size a b next rest good outs is there lands;
          continues = λ b next is there. outs.continues b next (then_is (run a) Continued b after_break _ is refl) there;
          returned = λ value b next locals at last is same.
              outs.returned value b next locals at last (then_is (run a) (Returned value) b after_break _ is refl) same;
        }));
  }
    where
      past : (callers : List Caller) (size : ℕ) (a b : Activity) (slots : List Word) (rest : Flow → Activity → Option Outcome)
          → Good a
          → Outs s function exits to count callers size ((run >>= after_break) a) rest
          → run a ≡ Done Broke b → HasLocals size count slots (in_frame (keeping count) b)
          → Lands s Good function room Broke run broken to
          → Arrives s (here function broken count slots callers) (in_frame (keeping count) b)
          (continued (after_break Broke b) rest)
      past callers size a b slots rest good outs is there (never isnt) = absurd (isnt a b good is)
      past callers size a b slots rest good outs is there (by_release has to_is) =
          let facts = broke a b good is in
          let whole = kept_whole count b facts.1 in
          subst (λ (x : Activity). Arrives s (here function broken count slots callers) x (continued (after_break Broke b) rest))
          (sym whole)
          (arrives_then s (here function broken count slots callers) b (releases.release b) (λ _. give On) rest
          (releases_at s Good function room broken count slots callers b (λ _ e. rest On e) facts.0 has (λ e freed.
          subst (λ (n : ℕ). Arrives s (here function n count slots callers) e (rest On e)) to_is
          (outs.on e slots (then_is (run a) Broke b after_break _ is
          (ap (λ (p : Progress (Unit {0})). onward p (λ _. give On)) freed))
          (released_stands size count slots b e freed
          (subst (λ (x : Activity). HasLocals size count slots x) whole there))))))

  -- the tick of the next turn, which leads back to the condition
  pub ticks_back : (test : Run Bool) (line back head inside out count : ℕ)
      → Decides s Good function room test head inside out count
      → Has s Good function room back (i.Loop line head)
      → LeadsTo Good (tick line) Good
      → Decides s Good function room (tick line >> test) back inside out count
  ticks_back test line back head inside out count tests has ticked = record {
    comes = λ callers size slots a rest long stands good when_true when_false.
        let w : Window = record { slots = slots; count = count; callers = callers } in
        let start = here function back count slots callers in
        arrives_then s start a (tick line a) (λ _. test) rest
        (goes_by s start a (tick line a) (λ _. here function head count slots callers) (λ _ b. continued (test b) rest)
        (step_is s Good function room w a back (i.Loop line head) has) (λ u b ran.
        tests.comes callers size slots b rest long (ticked_stands line size count slots a b ran stands)
        (ticked a b tt good ran)
        (λ d next is there. when_true d next (then_is (tick line a) tt b (λ _. test) _ ran is) there)
        (λ d next is there. when_false d next (then_is (tick line a) tt b (λ _. test) _ ran is) there)));
  }

  -- The code of a loop. Its condition leads into a turn or out; a turn has its body, its steps, and the tick of the
  -- next turn with its condition, which leads into that or out.
  module _ (exits : Exits) (t : Turn) (head inside done again steps back out count : ℕ)
      (tests : Decides s Good function room t.condition head inside out count)
      (body : Performs s Good function room
      (record exits { continued = record { at = again; outer = count } }) t.body inside done count count)
      (reaches : Reaches s function done steps)
      (lands : Lands s Good function room Continued t.body again steps)
      (acts : Acts s Good function room t.steps steps back count count)
      (loops : Decides s Good function room (tick t.line >> t.condition) back inside out count)
      (ranked : Ranked s Good)
      (whole : (a : Activity) → Good a → Whole count a)
      (ticked : LeadsTo Good (tick t.line) Good)
      (freed : LeadsTo Good releases.release Good)
      (tested : Spends Good t.condition)
      (bodied : Spends Good t.body)
      (stepped : Spends Good t.steps) where
    -- the next turn, from its tick on
    abbrev Again : ℕ → Type 0
    Again depth =
        (callers : List Caller) (size : ℕ) (slots : List Word) (a : Activity) (rest : Flow → Activity → Option Outcome)
        → a.ticks ≤ depth → room ≤ size → HasLocals size count slots a → Good a
        → Outs s function exits out count callers size (turns depth t a) rest
        → Arrives s (here function back count slots callers) a (continued (turns depth t a) rest)

    stepping : (depth : ℕ) (callers : List Caller) (size : ℕ) (slots : List Word) (a : Activity)
        (rest : Flow → Activity → Option Outcome)
        → Again depth → a.ticks ≤ depth → room ≤ size → HasLocals size count slots a → Good a
        → Outs s function exits out count callers size ((t.steps >> turns depth t) a) rest
        → Arrives s (here function steps count slots callers) a (continued ((t.steps >> turns depth t) a) rest)
    stepping depth callers size slots a rest next few long stands good outs =
        arrives_then s (here function steps count slots callers) a (t.steps a) (λ _. turns depth t) rest
        (acts.comes callers size slots a (λ _ b. continued (turns depth t b) rest) long stands good (λ b slots_b ran there.
        let facts = stepped a b tt good ran in
        next callers size slots_b b rest (omega (arith, few, facts.1)) long there facts.0
        (subst (λ (p : Progress Flow). Outs s function exits out count callers size p rest)
        (then_is (t.steps a) tt b (λ _. turns depth t) _ ran refl) outs)))

    continuing : (depth : ℕ) (callers : List Caller) (size : ℕ) (slots : List Word) (a b : Activity)
        (rest : Flow → Activity → Option Outcome)
        → Again depth → a.ticks ≤ depth → room ≤ size → Good a
        → t.body a ≡ Done Continued b → HasLocals size count slots (in_frame (keeping count) b)
        → Outs s function exits out count callers size (turn t (turns depth t) a) rest
        → Lands s Good function room Continued t.body again steps
        → Arrives s (here function again count slots callers) (in_frame (keeping count) b)
        (continued (after_body t (turns depth t) Continued b) rest)
    continuing depth callers size slots a b rest next few long good is there outs (never isnt) = absurd (isnt a b good is)
    continuing depth callers size slots a b rest next few long good is there outs (by_release has steps_is) =
        let facts = bodied a b Continued good is in
        let same = kept_whole count b (whole b facts.0) in
        subst (λ (x : Activity). Arrives s (here function again count slots callers) x
        (continued (after_body t (turns depth t) Continued b) rest)) (sym same)
        (arrives_then s (here function again count slots callers) b ((releases.release >> t.steps) b) (λ _. turns depth t) rest
        (arrives_then s (here function again count slots callers) b (releases.release b) (λ _. t.steps)
        (λ _ e. continued (turns depth t e) rest)
        (releases_at s Good function room again count slots callers b
        (λ _ d. continued (t.steps d) (λ _ e. continued (turns depth t e) rest)) (ranked b facts.0) has (λ d free.
        subst (λ (n : ℕ). Arrives s (here function n count slots callers) d
        (continued (t.steps d) (λ _ e. continued (turns depth t e) rest))) steps_is
        (subst (λ (o : Option Outcome). Arrives s (here function steps count slots callers) d o)
        (continued_then (t.steps d) (λ _. turns depth t) rest)
        (stepping depth callers size slots d rest next (omega (arith, few, facts.1, released_ticks b d free)) long
        (released_stands size count slots b d free (subst (λ (x : Activity). HasLocals size count slots x) same there))
        (freed b d tt facts.0 free)
        (subst (λ (p : Progress Flow). Outs s function exits out count callers size p rest)
        (then_is (t.body a) Continued b (after_body t (turns depth t)) _ is
        (ap (λ (p : Progress (Unit {0})). onward (onward p (λ _. t.steps)) (λ _. turns depth t)) free)) outs)))))))

    turned : (depth : ℕ) (callers : List Caller) (size : ℕ) (slots : List Word) (a : Activity)
        (rest : Flow → Activity → Option Outcome)
        → Again depth → a.ticks ≤ depth → room ≤ size → HasLocals size count slots a → Good a
        → Outs s function exits out count callers size (turn t (turns depth t) a) rest
        → Arrives s (here function inside count slots callers) a (continued (turn t (turns depth t) a) rest)
    turned depth callers size slots a rest next few long stands good outs =
        let after = after_body t (turns depth t) in
        arrives_then s (here function inside count slots callers) a (t.body a) after rest
        (body.comes callers size slots a (λ f b. continued (after f b) rest) long stands good (record {
          on = λ b slots_b is there.
              let facts = bodied a b On good is in
              reaches count slots_b callers b (continued ((t.steps >> turns depth t) b) rest)
              (stepping depth callers size slots_b b rest next (omega (arith, few, facts.1)) long there facts.0
              (subst (λ (p : Progress Flow). Outs s function exits out count callers size p rest)
              (then_is (t.body a) On b after _ is refl) outs));
          broke = λ b slots_b is there. outs.broke b slots_b (then_is (t.body a) Broke b after _ is refl) there;
          continues = λ b slots_b is there.
              continuing depth callers size slots_b a b rest next few long good is there outs lands;
          returned = λ value b slots_b locals at last is same.
              outs.returned value b slots_b locals at last (then_is (t.body a) (Returned value) b after _ is refl) same;
        }))

    -- a turn, if the condition says so
    abbrev onwards : ℕ → Bool → Run Flow
    onwards depth goes_on = if goes_on then turn t (turns depth t) else give On

    headed : (depth : ℕ) (callers : List Caller) (size : ℕ) (slots : List Word) (a : Activity)
        (rest : Flow → Activity → Option Outcome)
        → Again depth → a.ticks ≤ depth → room ≤ size → HasLocals size count slots a → Good a
        → Outs s function exits out count callers size ((t.condition >>= onwards depth) a) rest
        → Arrives s (here function head count slots callers) a (continued ((t.condition >>= onwards depth) a) rest)
    headed depth callers size slots a rest next few long stands good outs =
        arrives_then s (here function head count slots callers) a (t.condition a) (onwards depth) rest
        (tests.comes callers size slots a (λ u b. continued (onwards depth u b) rest) long stands good
        (λ b slots_b ran there.
        let facts = tested a b true good ran in
        turned depth callers size slots_b b rest next (omega (arith, few, facts.1)) long there facts.0
        (subst (λ (p : Progress Flow). Outs s function exits out count callers size p rest)
        (then_is (t.condition a) true b (onwards depth) _ ran refl) outs))
        (λ b slots_b ran there.
        outs.on b slots_b (then_is (t.condition a) false b (onwards depth) _ ran refl) there))

    next_turn : (depth : ℕ) → Again depth
    next_turn zero callers size slots a rest few long stands good outs =
        let start = here function back count slots callers in
        let no_tick : (b : Activity) → tick t.line a ≡ Done tt b → ⊥ = λ b ran. omega (arith, few, spent t.line a b ran) in
        subst (λ (o : Option Outcome). Arrives s start a o) (none_left (tick t.line a) t.condition rest no_tick)
        (loops.comes callers size slots a (λ _ b. rest On b) long stands good
        (λ b slots_b ran there.
        let parts = came (tick t.line a) (λ _. t.condition) true b ran in absurd (no_tick parts.1 parts.2))
        (λ b slots_b ran there.
        let parts = came (tick t.line a) (λ _. t.condition) false b ran in absurd (no_tick parts.1 parts.2)))
    next_turn (suc depth) callers size slots a rest few long stands good outs =
        let start = here function back count slots callers in
        let whole_turn = t.condition >>= onwards depth in
        subst (λ (o : Option Outcome). Arrives s start a o)
        (ap (λ (p : Progress Flow). continued p rest) (tested_after (tick t.line a) t.condition (onwards depth)))
        (arrives_then s start a ((tick t.line >> t.condition) a) (onwards depth) rest
        (loops.comes callers size slots a (λ u b. continued (onwards depth u b) rest) long stands good
        (λ b slots_b ran there.
        let parts = came (tick t.line a) (λ _. t.condition) true b ran in
        let facts = tested parts.1 b true (ticked a parts.1 tt good parts.2) parts.3 in
        turned depth callers size slots_b b rest (next_turn depth)
        (omega (arith, few, facts.1, spent t.line a parts.1 parts.2)) long there facts.0
        (subst (λ (p : Progress Flow). Outs s function exits out count callers size p rest)
        (then_is (tick t.line a) tt parts.1 (λ _. whole_turn) _ parts.2
        (then_is (t.condition parts.1) true b (onwards depth) _ parts.3 refl)) outs))
        (λ b slots_b ran there.
        let parts = came (tick t.line a) (λ _. t.condition) false b ran in
        outs.on b slots_b
        (then_is (tick t.line a) tt parts.1 (λ _. whole_turn) _ parts.2
        (then_is (t.condition parts.1) false b (onwards depth) _ parts.3 refl)) there)))

    -- a loop whose condition comes first: the tick of the first turn lies before it
    pub first_loops : (depth from : ℕ) → Has s Good function room from (i.Tick t.line) → head ≡ from + 1
        → ((a : Activity) → Good a → a.ticks ≤ depth)
        → Performs s Good function room exits (turns depth t) from out count count
    first_loops zero from has head_is few = record {
      comes = λ callers size slots a rest long stands good outs.
          ticks_first s Good function room t.line out_of_ticks from count slots callers a rest has (λ b ran.
          absurd (omega (arith, few a good, spent t.line a b ran)));
    }
    first_loops (suc depth) from has head_is few = record {
      comes = λ callers size slots a rest long stands good outs.
          let whole_turn = t.condition >>= onwards depth in
          ticks_first s Good function room t.line whole_turn from count slots callers a rest has (λ b ran.
          subst (λ (n : ℕ). Arrives s (here function n count slots callers) b (continued (whole_turn b) rest)) head_is
          (headed depth callers size slots b rest (next_turn depth) (omega (arith, few a good, spent t.line a b ran)) long
          (ticked_stands t.line size count slots a b ran stands) (ticked a b tt good ran)
          (subst (λ (p : Progress Flow). Outs s function exits out count callers size p rest)
          (then_is (tick t.line a) tt b (λ _. whole_turn) _ ran refl) outs)));
    }

    -- a loop whose condition comes last: the code leads to its body first
    pub last_loops : (depth from : ℕ) → Reaches s function from inside
        → ((a : Activity) → Good a → a.ticks ≤ depth)
        → Performs s Good function room exits (turn t (turns depth t)) from out count count
    last_loops depth from leads few = record {
      comes = λ callers size slots a rest long stands good outs.
          leads count slots callers a (continued (turn t (turns depth t) a) rest)
          (turned depth callers size slots a rest (next_turn depth) (few a good) long stands good outs);
    }
