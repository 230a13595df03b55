-- The code of declarations does what they do.
use Rattle.std.proofs.Common.{◌≡◌, ◌≤◌, ◌<◌, ℕ, suc, ◌+◌, List, [], ◌∷◌, ◌++◌, take, length, refl, sym, ap, ◌∙◌, subst, arith}
use Rattle.std.proofs.Common.{true, false, Bool, cond, nat_lt}
use Rattle.std.specs.Prelude.{Option, Some, None, slice_index_or, slice_set, if◌then◌else◌}
use Rattle.std.proofs.Math.Seq.{take-suc}
use Rattle.std.proofs.lemmas.List.{length-set, get_or-set_same, take-set-le}
use Rattle.ash_host.specs.declared.word.Word.{Word}
use Rattle.ash_host.specs.declared.word.Word.TheVariants.{Null}
use Rattle.ash_integers.specs.declared.int_type.IntType.TheVariants as ints
use Rattle.ash_typed.specs.declared.types.VarType.{VarType}
use Rattle.ash_typed.specs.declared.types.VarType.TheVariants as vars
use Rattle.ash_meaning.specs.Activity.{Frame, Activity, in_frame}
use Rattle.ash_meaning.specs.Runs.{Run, Progress, Done, onward, give, ◌>>=◌, ◌>>◌}
use Rattle.ash_meaning.specs.Releases as releases
use Rattle.ash_meaning.specs.Releases.{let_go, full, declaring, declare}
use Rattle.ash_meaning.specs.OperatorMeaning.{zero_of}
use Rattle.ash_meaning.specs.Ends.{Outcome}
use Rattle.std.proofs.lemmas.Bool.Decides.{nat_tests}
use Rattle.ash_run_steps.specs.Guarded.{Guarded, onward as guarded_onward, give as guarded_give, unsound}
use Rattle.ash_run_steps.specs.GuardedSteps.{is_alive, write_local, end_expression}
use Rattle.ash_run_steps.specs.FrameSteps as steps
use Rattle.ash_code.specs.declared.instruction.Instruction.TheVariants as i
use Rattle.ash_code.specs.Controls.{Caller, Control, Window, with_word, with_count}
use Rattle.ash_code.specs.Performing.{Setting, GoesOn, go}
use Rattle.ash_code.specs.Running.{step}
use Rattle.ash_compile.specs.Stretches.{continued, Arrives, Holds, Has, Computes}
use Rattle.ash_compile.specs.Performances.{here, HasLocals, Acts}
use Rattle.ash_compile.proofs.Simulation.{steps_on, goes_by, step_is, off, then_is}
use Rattle.ash_compile.proofs.Statements.{arrives_then, released_frame, fits_there}
use Rattle.ash_compile.proofs.Conditions.{RanksAfter}

is_below : (count size : ℕ) → count < size → nat_lt count size ≡ true
is_below count size low = grind (arith, nat_tests)

-- one more local

one_more : (size count : ℕ) (slots next : List Word) (word : Word) (a b : Activity) → count < size → length next ≡ size
    → slice_index_or next count Null ≡ word → (a.frame).locals ≡ take count next
    → (b.frame).locals ≡ (a.frame).locals ++ word ∷ []
    → HasLocals size (count + 1) next b
one_more size count slots next word a b room long value locals more =
    let same : suc count ≡ count + 1 = omega arith in
    record {
      long = long;
      within = omega (arith, room);
      locals = more ∙ ap (λ (ws : List Word). ws ++ word ∷ []) locals
          ∙ ap (λ (x : Word). take count next ++ x ∷ []) (sym value)
          ∙ sym (take-suc next count Null (omega (arith, room, long))) ∙ ap (λ (n : ℕ). take n next) same;
    }

-- what a variable without a value has
pub zero_is_alive : (of : VarType) (a : Activity) → is_alive (zero_of of) a ≡ true
zero_is_alive vars.Bool a = refl
zero_is_alive (vars.Integer ints.Int) a = refl
zero_is_alive (vars.Integer ints.Uint) a = refl
zero_is_alive (vars.Integer ints.Int64) a = refl
zero_is_alive (vars.Integer ints.Uint64) a = refl
zero_is_alive (vars.Object of) a = refl
zero_is_alive (vars.Handle of) a = refl

module _ (s : Setting) (Good : Activity → Type 0) (function room : ℕ) where
  loads : (at count : ℕ) (slots : List Word) (callers : List Caller) (word : Word) (a : Activity)
      → Has s Good function room at (i.Load word count)
      → step s (here function at count slots callers) a
      ≡ Some (Done (GoesOn (here function (at + 1) count (slice_set slots count word) callers)) a)
  loads at count slots callers word a has =
      let w : Window = record { slots = slots; count = count; callers = callers } in
      let c = here function at count slots callers in
      step_is s Good function room w a at (i.Load word count) has
      ∙ ap (λ (t : Bool). guarded_onward ((if t then write_local count word else guarded_give tt) a)
      (λ _. go (with_word count word c))) (off count count (omega arith))

  declares_at : (at count : ℕ) (slots : List Word) (callers : List Caller) (word : Word) (a : Activity)
      → count < length slots
      → Has s Good function room at i.Declare → slice_index_or slots count Null ≡ word → is_alive word a ≡ true
      → step s (here function at count slots callers) a
      ≡ Some (Done (GoesOn (here function (at + 1) (count + 1) slots callers)) (in_frame (declaring word) a))
  declares_at at count slots callers word a there has value alive =
      let w : Window = record { slots = slots; count = count; callers = callers } in
      let c = here function at count slots callers in
      step_is s Good function room w a at i.Declare has
      ∙ ap (λ (t : Bool). guarded_onward (cond t (steps.declare (slice_index_or slots count Null)) unsound a)
      (λ _. go (with_count (count + 1) c))) (is_below count (length slots) there)
      ∙ ap (λ (x : Word). guarded_onward (steps.declare x a) (λ _. go (with_count (count + 1) c))) value
      ∙ ap (λ (t : Bool). guarded_onward (cond t (Some (Done tt (in_frame (declaring word) a))) None)
      (λ _. go (with_count (count + 1) c))) alive

  -- a variable without a value
  pub declares_zero : (of : VarType) (from count : ℕ) → count < room
      → Has s Good function room from (i.Load (zero_of of) count) → Has s Good function room (from + 1) i.Declare
      → Acts s Good function room (declare (zero_of of)) from (from + 1 + 1) count (count + 1)
  declares_zero of from count fits has_load has_declare = record {
    comes = λ callers size slots a rest long stands good goes.
        let word = zero_of of in
        let next = slice_set slots count word in
        let value = get_or-set_same slots count word Null (omega (arith, fits, long, stands.long)) in
        steps_on s (here function from count slots callers) a (here function (from + 1) count next callers) a
        (rest tt (in_frame (declaring word) a)) (loads from count slots callers word a has_load)
        (steps_on s (here function (from + 1) count next callers) a (here function (from + 1 + 1) (count + 1) next callers)
        (in_frame (declaring word) a) (rest tt (in_frame (declaring word) a))
        (declares_at (from + 1) count next callers word a
        (omega (arith, fits, long, stands.long, length-set slots count word)) has_declare value (zero_is_alive of a))
        (goes (in_frame (declaring word) a) next refl
        (one_more size count slots next word a (in_frame (declaring word) a) (omega (arith, fits, long))
        (length-set slots count word ∙ stands.long) value
        (stands.locals ∙ sym (take-set-le count slots count word (omega arith))) refl)));
  }

  -- a variable with a value

  ends_declared : (at count : ℕ) (slots : List Word) (callers : List Caller) (word : Word) (a : Activity)
      → count < length slots
      → Has s Good function room at i.DeclareAndEnd → slice_index_or slots count Null ≡ word → is_alive word a ≡ true
      → (s.test).has_ranks a.world ≡ true
      → step s (here function at count slots callers) a
      ≡ guarded_onward (Some (releases.end_expression (in_frame (declaring word) a)))
      (λ _ b. Some (Done (GoesOn (here function (at + 1) (count + 1) slots callers)) b))
  ends_declared at count slots callers word a there has value alive ranks =
      let w : Window = record { slots = slots; count = count; callers = callers } in
      let c = here function at count slots callers in
      step_is s Good function room w a at i.DeclareAndEnd has
      ∙ ap (λ (t : Bool). guarded_onward (guarded_onward (cond t (steps.declare (slice_index_or slots count Null)) unsound a)
      (λ _. end_expression s.test)) (λ _. go (with_count (count + 1) c))) (is_below count (length slots) there)
      ∙ ap (λ (x : Word). guarded_onward (guarded_onward (steps.declare x a) (λ _. end_expression s.test))
      (λ _. go (with_count (count + 1) c))) value
      ∙ ap (λ (t : Bool). guarded_onward (guarded_onward (cond t (Some (Done tt (in_frame (declaring word) a))) None)
      (λ _. end_expression s.test)) (λ _. go (with_count (count + 1) c))) alive
      ∙ ap (λ (t : Bool). guarded_onward (cond t (Some (releases.release (in_frame let_go (in_frame (declaring word) a)))) None)
      (λ _. go (with_count (count + 1) c))) ranks

  pub declares_value : (p : Run Word) (from mid count : ℕ) → Computes s Good function room p from mid count
      → Has s Good function room mid i.DeclareAndEnd
      → ((a b : Activity) (v : Word) → Good a → p a ≡ Done v b → is_alive v b ≡ true)
      → RanksAfter s Good p
      → Acts s Good function room (full (p >>= declare)) from (mid + 1) count (count + 1)
  declares_value p from mid count computes has alive ranks = record {
    comes = λ callers size slots a rest long stands good goes.
        let start = here function from count slots callers in
        arrives_then s start a ((p >>= declare) a) (λ u. releases.end_expression >> give u) rest
        (arrives_then s start a (p a) declare (λ u b. continued ((releases.end_expression >> give u) b) rest)
        (computes.comes (record { slots = slots; count = count; callers = callers }) a
        (λ v b. continued (declare v b) (λ u b. continued ((releases.end_expression >> give u) b) rest)) (omega arith)
        (omega (arith, long, stands.long)) (fits_there size count slots callers a stands) good (λ v b next ran held.
        let c = here function mid count next callers in
        let declared = in_frame (declaring v) b in
        arrives_then s c b (releases.end_expression declared) (λ _. give tt) rest
        (goes_by s c b (releases.end_expression declared) (λ _. here function (mid + 1) (count + 1) next callers)
        (λ _ d. rest tt d)
        (ends_declared mid count next callers v b (omega (arith, computes.within, long, held.long, stands.long)) has held.value (alive a b v good ran) (ranks a b v good ran))
        (λ u d ended.
        goes d next (then_is ((p >>= declare) a) tt declared (λ u. releases.end_expression >> give u) _
        (then_is (p a) v b declare _ ran refl) (ap (λ (x : Progress (Unit {0})). onward x (λ _. give tt)) ended))
        (one_more size count slots next v b d (omega (arith, computes.within, long)) (held.long ∙ stands.long) held.value
        held.locals (ap (λ (f : Frame). f.locals) (released_frame (in_frame let_go declared) d ended))))))));
  }
