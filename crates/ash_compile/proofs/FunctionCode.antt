-- The code of the functions of a sound module does what their frames do, and a call from outside comes to its outcome.
use Rattle.std.proofs.Common.{◌≡◌, ◌≤◌, ℕ, suc, List, [], take, length, ◌∙◌, subst, arith, true, false}
use Rattle.std.specs.Prelude.{Option, Some, None}
use Rattle.ash_host.specs.declared.word.Word.{Word}
use Rattle.ash_host.specs.declared.word.Word.TheVariants.{Null}
use Rattle.ash_typed.specs.declared.types.VarType.{VarType}
use Rattle.ash_typed.specs.SoundStatements.{AreSoundStmts}
use Rattle.ash_meaning.specs.Activity.{World, Activity}
use Rattle.ash_meaning.specs.Runs.{Run, Done, out_of_ticks, ◌>>=◌, ◌>>◌}
use Rattle.ash_meaning.specs.Frames.{tick, frame_of}
use Rattle.ash_meaning.specs.CallMeaning.{value_or_null}
use Rattle.ash_meaning.specs.Classes.{Entry}
use Rattle.ash_meaning.specs.StatementMeaning.{Flow, Broke, Continued, statements}
use Rattle.ash_meaning.specs.Functions.{initialize_fields, body}
use Rattle.ash_meaning.specs.Ends.{begun}
use Rattle.ash_soundness.specs.WellFormed.{IsWellFormed}
use Rattle.ash_soundness.specs.WellFormedLaws.{Leaves, IsLeftBy, by_break, by_continue}
use Rattle.ash_soundness.proofs.SoundStaysSound as sound
use Rattle.ash_soundness.proofs.Bodies.{keeps_bodies}
use Rattle.ash_soundness.proofs.Entries.{IsEntry}
use Rattle.ash_soundness.proofs.Frames.{tick_goes}
use Rattle.ash_soundness.proofs.Triples.{bind, weaken}
use Rattle.ash_run_steps.specs.GuardedSteps.{is_alive}
use Rattle.ash_code.specs.declared.instruction.Instruction.TheVariants as i
use Rattle.ash_code.specs.Arrivals.{end_of}
use Rattle.ash_code.specs.CompiledCode.{run_of_call}
use Rattle.ash_compile.specs.Stretches.{Arrives, Has}
use Rattle.ash_compile.specs.Performances.{here, Exits, Acts, Performs, Enters}
use Rattle.ash_compile.specs.Emission.{Scene, IsScene, calls_of}
use Rattle.ash_compile.proofs.Typed.{left_done}
use Rattle.ash_compile.proofs.Statements.{LeadsTo, spent, ticks_first}
use Rattle.ash_compile.proofs.Leaving.{Ends}
use Rattle.ash_compile.proofs.Loops as loops
use Rattle.ash_compile.proofs.Calling.{Returns}
use Rattle.ash_compile.proofs.Functions as frames
use Rattle.ash_compile.proofs.Functions.{of_function, finish, NeverJumps, calls_entry}
use Rattle.ash_compile.proofs.Loops.{came}
use Rattle.ash_compile.proofs.TypedStatements.{Ready, IsRanked, scope_of}
use Rattle.ash_compile.proofs.BlockCode.{given_alive}

-- Activities in which a function is entered: its first tick leads to those in which its statements run.
abbrev pub Entering : Scene → Activity → Type 0
Entering s a = IsWellFormed s.context s.env s.envs a × (a.ticks ≤ suc s.depth)

module _ (s : Scene) (scene : IsScene s) where
  first_tick : (line : ℕ) → LeadsTo (Entering s) (tick line) (Ready s)
  first_tick line a b v good is =
      (((left_done v b (tick_goes line good.0) is).passes).well, omega (arith, spent line a b is, good.1))

  -- what a frame does after its first tick
  abbrev pub inside : Entry → Run Flow
  inside e = initialize_fields (calls_of s) 0 e.fields >> statements (calls_of s) s.depth e.body

  broke_by : {result : Option VarType} {b : Activity} → IsLeftBy s.context result false false b Broke → ⊥
  broke_by (by_break is) = cc

  continued_by : {result : Option VarType} {b : Activity} → IsLeftBy s.context result false false b Continued → ⊥
  continued_by (by_continue is) = cc

  left_by : (result : Option VarType) (e : Entry) → AreSoundStmts (scope_of s scene result false false) e.body
      → LeadsTo (Ready s) (initialize_fields (calls_of s) 0 e.fields) (Ready s)
      → (a b : Activity) (f : Flow) → Ready s a → inside e a ≡ Done f b
      → IsLeftBy s.context result false false b f
  left_by result e is_sound fields a b f good is =
      let there = came (initialize_fields (calls_of s) 0 e.fields a) (λ _. statements (calls_of s) s.depth e.body) f b is in
      let begun_well = (fields a there.1 there.0 good there.2).0 in
      ((left_done f b (sound.blocks_keep scene.sound s.depth (scope_of s scene result false false) s.envs e.body there.1
      scene.declares is_sound begun_well) there.3).leads).left

  pub never_jumps : (result : Option VarType) (e : Entry) → AreSoundStmts (scope_of s scene result false false) e.body
      → LeadsTo (Ready s) (initialize_fields (calls_of s) 0 e.fields) (Ready s)
      → NeverJumps (Ready s) (inside e)
  never_jumps result e is_sound fields = record {
    broke = λ a b good is. broke_by (left_by result e is_sound fields a b Broke good is);
    continues = λ a b good is. continued_by (left_by result e is_sound fields a b Continued good is);
  }

  -- The code of a frame: the tick of its entry, the fields of what is constructed, the statements, and the end.
  pub does_frame : (exits : Exits) (result : Option VarType) (e : Entry) (mid end more : ℕ)
      → AreSoundStmts (scope_of s scene result false false) e.body
      → LeadsTo (Ready s) (initialize_fields (calls_of s) 0 e.fields) (Ready s)
      → Has s.setting (Entering s) s.function s.room 0 (i.Tick e.line)
      → Acts s.setting (Ready s) s.function s.room (initialize_fields (calls_of s) 0 e.fields) 1 mid
      (length (s.env).locals) (length (s.env).locals)
      → Performs s.setting (Ready s) s.function s.room exits (statements (calls_of s) s.depth e.body) mid end
      (length (s.env).locals) more
      → Ends s.setting (Entering s) s.function s.room exits end
      → Enters s.setting (Entering s) s.function s.room (tick e.line >> (inside e >>= finish exits.gives))
      (length (s.env).locals)
  does_frame exits result e mid end more is_sound fields has acts does ends =
      let locals = length (s.env).locals in
      frames.enters s.setting (Entering s) s.function s.room exits (Ready s) (inside e) e.line end locals more has
      (first_tick e.line)
      (loops.acts_first s.setting (Ready s) s.function s.room exits (Ready s) (initialize_fields (calls_of s) 0 e.fields)
      (statements (calls_of s) s.depth e.body) 1 mid end locals locals more acts fields does)
      ends (never_jumps result e is_sound fields)

  -- A function gives what its statements return.
  pub does_function : (exits : Exits) (result : Option VarType) (e : Entry) (mid end more : ℕ)
      → exits.gives ≡ of_function
      → AreSoundStmts (scope_of s scene result false false) e.body
      → LeadsTo (Ready s) (initialize_fields (calls_of s) 0 e.fields) (Ready s)
      → Has s.setting (Entering s) s.function s.room 0 (i.Tick e.line)
      → Acts s.setting (Ready s) s.function s.room (initialize_fields (calls_of s) 0 e.fields) 1 mid
      (length (s.env).locals) (length (s.env).locals)
      → Performs s.setting (Ready s) s.function s.room exits (statements (calls_of s) s.depth e.body) mid end
      (length (s.env).locals) more
      → Ends s.setting (Entering s) s.function s.room exits end
      → Enters s.setting (Entering s) s.function s.room (tick e.line >> body (s.context).program (suc s.depth) e)
      (length (s.env).locals)
  does_function exits result e mid end more gives is_sound fields has acts does ends =
      subst (λ (g : Option Word → Word → Option Word). Enters s.setting (Entering s) s.function s.room
      (tick e.line >> (inside e >>= finish g)) (length (s.env).locals)) gives
      (does_frame exits result e mid end more is_sound fields has acts does ends)

  -- A call from outside with some ticks: the code comes to its outcome.
  pub does_call_from_outside : (e : Entry) (args : List Word) (world : World) (slots : List Word)
      → Enters s.setting (Entering s) s.function s.room (tick e.line >> body (s.context).program (suc s.depth) e)
      (length (s.env).locals)
      → s.room ≤ length slots → length (s.env).locals ≤ length slots → args ≡ take (length (s.env).locals) slots
      → IsWellFormed s.context s.env s.envs (begun world (suc s.depth) (frame_of e.name e.line Null args))
      → Arrives s.setting (here s.function 0 (length (s.env).locals) slots [])
      (begun world (suc s.depth) (frame_of e.name e.line Null args))
      (end_of (run_of_call (s.context).program (suc s.depth) e (begun world (suc s.depth) (frame_of e.name e.line Null args))))
  does_call_from_outside e args world slots enters long within are good =
      calls_entry s.setting (Entering s) s.function s.room (s.context).program (suc s.depth) e args world slots
      (length (s.env).locals) enters long within are (good, omega arith)

  -- What a caller needs of the frame of a function.
  pub returns_of : IsRanked s → (caller : ℕ) (result : Option VarType) (e : Entry) → IsEntry s.context s.env result e
      → (a : Activity) → IsWellFormed s.context s.env s.envs a
      → Returns s.setting caller s.function (tick e.line >> body (s.context).program (suc s.depth) e) a a.callers
  returns_of ranked caller result e entry a good = record {
    returns = λ b v is. left_done v b leaves is;
  }
    where
      leaves : Leaves s.context
          (λ (v : Option Word) b. (b.callers ≡ a.callers) × (is_alive (value_or_null v) b ≡ true)
          × (((s.setting).test).has_ranks b.world ≡ true))
          ((tick e.line >> body (s.context).program (suc s.depth) e) a)
      leaves =
          bind (tick_goes e.line good) (λ none d g.
          weaken (λ v b r. (
            (r.passes).callers ∙ (g.passes).callers,
            given_alive (value_or_null v) b r.value,
            ranked _ b (r.passes).well,
          ))
          ((keeps_bodies scene.sound (suc s.depth)).keeps s.env result e entry s.envs d (g.passes).well))
