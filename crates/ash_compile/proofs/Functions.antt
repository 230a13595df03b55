-- The code of functions, of constructions and of initializers does what their frames do, and a run of the code comes to
-- the outcome of the run.
use Rattle.std.proofs.Common.{◌≡◌, ◌≤◌, ◌<◌, ℕ, ◌+◌, List, [], take, length, refl, sym, ap, ◌∙◌, subst, arith}
use Rattle.std.proofs.Common.{true, false, Bool, cond}
use Rattle.std.specs.Prelude.{Option, Some, None, slice_index_or, ◌&&◌}
use Rattle.ash_host.specs.declared.word.Word.{Word}
use Rattle.ash_host.specs.declared.word.Word.TheVariants.{Null}
use Rattle.ash_host.specs.declared.word.Word.TheVariants as words
use Rattle.ash_meaning.specs.Activity.{World, Frame, Activity}
use Rattle.ash_meaning.specs.Runs.{Run, Progress, Done, Ended, NoStep, onward, give, ◌>>=◌, ◌>>◌}
use Rattle.ash_meaning.specs.Frames.{tick, frame_of, in_frame_of}
use Rattle.ash_meaning.specs.Releases as releases
use Rattle.ash_meaning.specs.Releases.{full}
use Rattle.ash_meaning.specs.Locations.{Global, Part, write}
use Rattle.ash_meaning.specs.ObjectSteps.{object_of}
use Rattle.ash_meaning.specs.StatementMeaning.{Flow, On, Broke, Continued, Returned}
use Rattle.ash_meaning.specs.Functions.{value_of, write_field, initialize_module, body, calls_within}
use Rattle.ash_meaning.specs.Classes.{Program, Entry}
use Rattle.ash_meaning.specs.Ends.{Outcome, begun, init_frame, with_globals}
use Rattle.ash_run_steps.specs.Guarded.{Guarded, onward as guarded_onward, plain, ◌>>=◌ as guarded_then}
use Rattle.ash_run_steps.specs.GuardedSteps.{is_alive}
use Rattle.ash_code.specs.declared.instruction.Instruction.{Instruction}
use Rattle.ash_code.specs.declared.instruction.Instruction.TheVariants as i
use Rattle.ash_code.specs.Controls.{Caller, Control, Window, word_at, forward}
use Rattle.ash_code.specs.Steps.{has_global, has_part, write_part}
use Rattle.ash_code.specs.Performing.{Setting, Next, GoesOn, go, perform}
use Rattle.ash_code.specs.Running.{step, denote}
use Rattle.ash_code.specs.Arrivals.{end_of}
use Rattle.ash_code.specs.CompiledCode.{run_of_call, run_of_load}
use Rattle.ash_compile.specs.Stretches.{continued, Arrives, Leaves, with_locals, Holds, Has, Computes}
use Rattle.ash_compile.specs.Performances.{here, HasLocals, Exits, Acts, Outs, Performs, Enters}
use Rattle.ash_compile.proofs.Simulation.{goes_by, step_is, then_is, frame_in}
use Rattle.ash_compile.proofs.Statements.{arrives_then, ticks_first, ticked_stands, fits_there, held_there}
use Rattle.ash_compile.proofs.Statements.{LeadsTo}
use Rattle.ash_compile.proofs.Conditions.{RanksAfter, ends_full, ended_stands}
use Rattle.ash_compile.proofs.Leaving.{Ends, ends_frame, leaves_at}

-- what a frame gives, by what its statements return: a construction gives `this`

abbrev pub of_function : Option Word → Word → Option Word
of_function value this = value

abbrev pub of_construction : Option Word → Word → Option Word
of_construction value this = Some this

abbrev pub finish : (Option Word → Word → Option Word) → Flow → Run (Option Word)
finish gives flow a = Done (gives (value_of flow) (a.frame).this) a

-- A statement is never left by `break` or `continue`, as no body of a function is.
pub record NeverJumps (Good : Activity → Type 0) (run : Run Flow) : Type 0 where
  pub broke : (a b : Activity) → Good a → run a ≡ Done Broke b → ⊥
  pub continues : (a b : Activity) → Good a → run a ≡ Done Continued b → ⊥

-- the locals of a frame whose object's field is written
field_locals : (place : ℕ) (v this : Word) (a b : Activity)
    → onward (object_of this a) (λ number. write (Part number place) v) ≡ Done tt b → (b.frame).locals ≡ (a.frame).locals
field_locals place v (words.Object number) a b is = ap (λ (p : Progress (Unit {0})). (frame_in a.frame p).locals) (sym is)
field_locals place v words.Null a b is = cc
field_locals place v (words.Bool x) a b is = cc
field_locals place v (words.Int x) a b is = cc
field_locals place v (words.Uint x) a b is = cc
field_locals place v (words.Int64 x) a b is = cc
field_locals place v (words.Uint64 x) a b is = cc

module _ (s : Setting) (Good : Activity → Type 0) (function room : ℕ) where
  -- frames

  pub enters : (exits : Exits) (Begun : Activity → Type 0) (inside : Run Flow) (line end parameters more : ℕ)
      → Has s Good function room 0 (i.Tick line)
      → LeadsTo Good (tick line) Begun
      → Performs s Begun function room exits inside 1 end parameters more
      → Ends s Good function room exits end
      → NeverJumps Begun inside
      → Enters s Good function room (tick line >> (inside >>= finish exits.gives)) parameters
  enters exits Begun inside line end parameters more has ticked performs ends never = record {
    comes = λ callers size slots a rest long stands good leaves.
        let last = finish exits.gives in
        ticks_first s Good function room line (inside >>= last) 0 parameters slots callers a rest has (λ b ran.
        let at_once : (f : Flow) (d : Activity) → inside b ≡ Done f d
        → (tick line >> (inside >>= last)) a ≡ Done (exits.gives (value_of f) (d.frame).this) d
        = λ f d is. then_is (tick line a) tt b (λ _. inside >>= last) _ ran (then_is (inside b) f d last _ is refl) in
        arrives_then s (here function 1 parameters slots callers) b (inside b) last rest
        (performs.comes callers size slots b (λ f d. rest (exits.gives (value_of f) (d.frame).this) d) long
        (ticked_stands line size parameters slots a b ran stands) (ticked a b tt good ran) (record {
          on = λ d next is there.
              let value = exits.gives None (d.frame).this in
              ends_frame s Good function room exits end more next callers d (rest value d) ends
              (leaves value d next (d.frame).locals end more (at_once On d is) there.long);
          broke = λ d next is there. absurd (never.broke b d (ticked a b tt good ran) is);
          continues = λ d next is there. absurd (never.continues b d (ticked a b tt good ran) is);
          returned = λ value d next locals at count is same.
              leaves (exits.gives value (d.frame).this) d next locals at count (at_once (Returned value) d is) same;
        })));
  }

  -- initializers

  pub ticks_alone : (line at count : ℕ) → Has s Good function room at (i.Tick line)
      → Acts s Good function room (tick line) at (at + 1) count count
  ticks_alone line at count has = record {
    comes = λ callers size slots a rest long stands good goes.
        let w : Window = record { slots = slots; count = count; callers = callers } in
        goes_by s (here function at count slots callers) a (tick line a) (λ _. here function (at + 1) count slots callers)
        rest (step_is s Good function room w a at (i.Tick line) has)
        (λ u b ran. goes b slots ran (ticked_stands line size count slots a b ran stands));
  }

  -- A value is stored outside the frame, then its full expression ends.
  pub stores : (p : Run Word) (store : Word → Run (Unit {0})) (instruction : Instruction) (from mid count : ℕ)
      → Computes s Good function room p from mid count
      → Has s Good function room mid instruction
      → Has s Good function room (mid + 1) i.EndExpression
      → ((c : Control) (a b : Activity) (v : Word) → Good a → p a ≡ Done v b → word_at count c ≡ v
      → perform s instruction c b ≡ guarded_onward (Some (store v b)) (λ _. go c))
      → ((a b : Activity) (v : Word) → store v a ≡ Done tt b → (b.frame).locals ≡ (a.frame).locals)
      → RanksAfter s Good (p >>= store)
      → Acts s Good function room (full (p >>= store)) from (mid + 1 + 1) count count
  stores p store instruction from mid count computes has ends does same ranks = record {
    comes = λ callers size slots a rest long stands good goes.
        let start = here function from count slots callers in
        arrives_then s start a ((p >>= store) a) (λ u. releases.end_expression >> give u) rest
        (arrives_then s start a (p a) store (λ u b. continued ((releases.end_expression >> give u) b) rest)
        (computes.comes (record { slots = slots; count = count; callers = callers }) a
        (λ v b. continued (store v b) (λ u d. continued ((releases.end_expression >> give u) d) rest)) (omega arith)
        (omega (arith, long, stands.long)) (fits_there size count slots callers a stands) good (λ v b next ran held.
        let w : Window = record { slots = next; count = count; callers = callers } in
        let c = here function mid count next callers in
        goes_by s c b (store v b) (λ _. here function (mid + 1) count next callers)
        (λ u d. continued ((releases.end_expression >> give u) d) rest)
        (step_is s Good function room w b mid instruction has ∙ does c a b v good ran held.value) (λ u d stored.
        let done : (p >>= store) a ≡ Done tt d = then_is (p a) v b store _ ran stored in
        let there = held_there size count count slots next callers v a b stands held in
        let here_still : HasLocals size count next d
        = record { long = there.long; within = there.within; locals = same b d v stored ∙ there.locals } in
        arrives_then s (here function (mid + 1) count next callers) d (releases.end_expression d) (λ _. give tt) rest
        (goes_by s (here function (mid + 1) count next callers) d (releases.end_expression d)
        (λ _. here function (mid + 1 + 1) count next callers) rest
        (ends_full s Good function room (mid + 1) count next callers d (ranks a d tt good done) ends) (λ x e ended.
        goes e next (then_is ((p >>= store) a) tt d (λ u. releases.end_expression >> give u) _ done
        (ap (λ (q : Progress (Unit {0})). onward q (λ _. give tt)) ended))
        (ended_stands size count next d e ended here_still)))))));
  }

  -- a global of a module, whose value is alive
  pub initializes_global : (p : Run Word) (place from mid count : ℕ)
      → Computes s Good function room p from mid count
      → Has s Good function room mid (i.WriteGlobal place count)
      → Has s Good function room (mid + 1) i.EndExpression
      → ((a b : Activity) (v : Word) → Good a → p a ≡ Done v b → has_global place b && is_alive v b ≡ true)
      → RanksAfter s Good (p >>= write (Global place))
      → Acts s Good function room (full (p >>= write (Global place))) from (mid + 1 + 1) count count
  initializes_global p place from mid count computes has ends alive ranks =
      stores p (write (Global place)) (i.WriteGlobal place count) from mid count computes has ends
      (λ c a b v good ran is.
      ap (λ (x : Word). guarded_onward (cond (has_global place b && is_alive x b) (Some (write (Global place) x b)) None)
      (λ _. go c)) is
      ∙ ap (λ (t : Bool). guarded_onward (cond t (Some (write (Global place) v b)) None) (λ _. go c))
      (alive a b v good ran))
      (λ a b v is. ap (λ (q : Progress (Unit {0})). (frame_in a.frame q).locals) (sym is)) ranks

  -- a field of the object that is constructed
  pub initializes_field : (p : Run Word) (place from mid count : ℕ)
      → Computes s Good function room p from mid count
      → Has s Good function room mid (i.WriteOwnField place count)
      → Has s Good function room (mid + 1) i.EndExpression
      → ((a b : Activity) (v : Word) → Good a → p a ≡ Done v b
      → (number : ℕ) × ((b.frame).this ≡ words.Object number) × (has_part number place b && is_alive v b ≡ true))
      → RanksAfter s Good (p >>= write_field place)
      → Acts s Good function room (full (p >>= write_field place)) from (mid + 1 + 1) count count
  initializes_field p place from mid count computes has ends alive ranks =
      stores p (write_field place) (i.WriteOwnField place count) from mid count computes has ends
      (λ c a b v good ran is. does c a b v is (alive a b v good ran).0 (alive a b v good ran).1 (alive a b v good ran).2)
      (λ a b v is. field_locals place v (a.frame).this a b is) ranks
    where
      does : (c : Control) (a b : Activity) (v : Word) → word_at count c ≡ v → (number : ℕ)
          → (b.frame).this ≡ words.Object number → has_part number place b && is_alive v b ≡ true
          → perform s (i.WriteOwnField place count) c b ≡ guarded_onward (Some (write_field place v b)) (λ _. go c)
      does c a b v is number this fits =
          ap (λ (t : Word). guarded_onward (guarded_onward (Some (object_of t b)) (λ n. write_part n place (word_at count c)))
          (λ _. go c)) this
          ∙ ap (λ (x : Word). guarded_onward (write_part number place x b) (λ _. go c)) is
          ∙ ap (λ (t : Bool). guarded_onward (cond t (Some (write (Part number place) v b)) None) (λ _. go c)) fits
          ∙ sym (ap (λ (t : Word). guarded_onward (Some (onward (object_of t b) (λ n. write (Part n place) v))) (λ _. go c)) this)

  -- runs

  -- the end of a run, where no caller waits
  finishes : (value : Option Word) (at count : ℕ) (slots locals : List Word) (b : Activity)
      → Leaves s value (here function at count slots []) (with_locals locals b) (end_of (Done value b))
  finishes value at count slots locals b = record { fuel = 0; ends = λ n more. refl }

  whole_run : (p : Progress (Option Word)) → continued p (λ v b. end_of (Done v b)) ≡ end_of p
  whole_run (Done v b) = refl
  whole_run (Ended e b) = refl
  whole_run NoStep = refl

  -- The code of a function that nothing calls comes to the outcome of the run.
  pub runs : (run : Run (Option Word)) (parameters : ℕ) (slots : List Word) (a : Activity)
      → Enters s Good function room run parameters
      → room ≤ length slots → parameters ≤ length slots → (a.frame).locals ≡ take parameters slots → Good a
      → Arrives s (here function 0 parameters slots []) a (end_of (run a))
  runs run parameters slots a enters long within locals good =
      subst (λ (o : Option Outcome). Arrives s (here function 0 parameters slots []) a o) (whole_run (run a))
      (enters.comes [] (length slots) slots a (λ v b. end_of (Done v b)) long
      (record { long = refl; within = within; locals = locals }) good
      (λ value b next locals_b at last ran same. finishes value at last next locals_b b))

  -- A call from outside: in so many instructions, or more, the code comes to the end of the call.
  pub calls_entry : (program : Program) (budget : ℕ) (e : Entry) (args : List Word) (world : World) (slots : List Word)
      (parameters : ℕ)
      → Enters s Good function room (tick e.line >> body program budget e) parameters
      → room ≤ length slots → parameters ≤ length slots → args ≡ take parameters slots
      → Good (begun world budget (frame_of e.name e.line Null args))
      → Arrives s (here function 0 parameters slots []) (begun world budget (frame_of e.name e.line Null args))
      (end_of (run_of_call program budget e (begun world budget (frame_of e.name e.line Null args))))
  calls_entry program budget e args world slots parameters enters long within locals good =
      runs (tick e.line >> body program budget e) parameters slots
      (begun world budget (frame_of e.name e.line Null args)) enters long within locals good

  -- The initializers of a module, whose frame has no tick of its own.
  pub loads_module : (program : Program) (budget : ℕ) (world : World) (slots : List Word) (end more : ℕ)
      → Acts s Good function room (initialize_module (calls_within program budget) 0 (program.tree).globals) 0 end 0 more
      → Has s Good function room end i.ReturnNothing
      → room ≤ length slots
      → Good (begun (with_globals program.tree world) budget init_frame)
      → Arrives s (here function 0 0 slots []) (begun (with_globals program.tree world) budget init_frame)
      (end_of (run_of_load program budget (begun (with_globals program.tree world) budget init_frame)))
  loads_module program budget world slots end more acts has long good =
      let a = begun (with_globals program.tree world) budget init_frame in
      let run = initialize_module (calls_within program budget) 0 (program.tree).globals in
      subst (λ (o : Option Outcome). Arrives s (here function 0 0 slots []) a o) (whole_run ((run >> give None) a))
      (arrives_then s (here function 0 0 slots []) a (run a) (λ _. give None) (λ v b. end_of (Done v b))
      (acts.comes [] (length slots) slots a (λ _ b. end_of (Done None b)) long
      (record { long = refl; within = omega arith; locals = refl }) good (λ b next ran there.
      let w : Window = record { slots = next; count = more; callers = [] } in
      leaves_at s None (here function end more next []) b (end_of (Done None b))
      (step_is s Good function room w b end i.ReturnNothing has)
      (finishes None end more next (b.frame).locals b))))
