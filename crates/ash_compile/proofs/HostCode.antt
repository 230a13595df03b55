-- The code of calls that enter no frame does what they do: of hosts, and of arrays.
use Rattle.std.proofs.Common.{◌≡◌, ◌≤◌, ◌<◌, ℕ, zero, suc, ◌+◌, List, [], ◌∷◌, take, drop, length, refl, sym, ap, ◌∙◌}
use Rattle.std.proofs.Common.{subst, arith}
use Rattle.std.proofs.Common.{true, false, Bool, cond}
use Rattle.std.specs.Prelude.{Option, Some, None, is_some, slice_set}
use Rattle.std.specs.Option.{option_and_then}
use Rattle.ash_host.specs.declared.word.Word.{Word}
use Rattle.ash_host.specs.declared.word.Word.TheVariants as words
use Rattle.ash_host.specs.declared.element.ElementTag.{ElementTag}
use Rattle.ash_host.specs.declared.event.Target.{Target}
use Rattle.ash_host.specs.declared.event.Target.TheVariants as hosts
use Rattle.ash_host.specs.Calls.{Invoke}
use Rattle.ash_host.specs.Records.{HostRecord, next_record}
use Rattle.ash_host.specs.Objects.{Elements}
use Rattle.ash_typed.specs.declared.types.Element as typed_element
use Rattle.ash_typed.specs.declared.types.VarType.{VarType}
use Rattle.ash_typed.specs.TypedTree.{Expr, exprs}
use Rattle.ash_meaning.specs.Activity.{Activity, in_world}
use Rattle.ash_meaning.specs.Runs.{Run, Progress, Done, Ended, NoStep, onward, give, change, found, ◌>>=◌, ◌>>◌}
use Rattle.ash_meaning.specs.ArraySteps.{construct_array}
use Rattle.ash_meaning.specs.HostSteps.{state_of, after_answer, note, accept, invoke_host, construct_host}
use Rattle.ash_meaning.specs.ExpressionMeaning.{arguments}
use Rattle.ash_meaning.specs.Classes.{element_of}
use Rattle.ash_meaning.specs.Ends.{Outcome, outcome_of}
use Rattle.ash_host.specs.declared.event.Event.TheVariants.{Called}
use Rattle.ash_object_ranks.specs.ShownTables.{elements_shown}
use Rattle.ash_run_steps.specs.Guarded.{Guarded, onward as guarded_onward}
use Rattle.ash_run_steps.specs.HostGuards.{is_there}
use Rattle.ash_code.specs.declared.instruction.Instruction.{Instruction}
use Rattle.ash_code.specs.declared.instruction.Instruction.TheVariants as i
use Rattle.ash_code.specs.Controls.{Control, Window, control}
use Rattle.ash_code.specs.Performing.{Setting, Next, perform, put}
use Rattle.ash_code.specs.Running.{step, after, denote}
use Rattle.ash_compile.specs.Stretches.{continued, Arrives, with_slots, Has, Computes}
use Rattle.ash_compile.specs.Arguments.{ComputesAll, DoesArguments}
use Rattle.ash_compile.specs.Emission.{Scene, IsScene, Good, calls_of}
use Rattle.ash_compile.proofs.Simulation.{step_is, puts, stored}
use Rattle.ash_compile.proofs.Emission.{HasAt, greatest_within}
use Rattle.ash_compile.proofs.KeptLocals.{KeepsLocals, done_keeps, keeps_construct_array, keeps_invoke_host}
use Rattle.ash_compile.proofs.KeptLocals.{keeps_construct_host}
use Rattle.ash_compile.proofs.CallCode.{by_arguments}

-- runs under guards

pub grouped_guards : {A B C : Type 0} (p : Progress A) (f : A → Guarded B) (g : B → Guarded C)
    → guarded_onward (guarded_onward (Some p) f) g ≡ guarded_onward (Some p) (λ v b. guarded_onward (f v b) g)
grouped_guards (Done v b) f g = refl
grouped_guards (Ended e b) f g = refl
grouped_guards NoStep f g = refl

-- a step that gives null
pub null_given : (p : Progress (Unit {0})) (next : Word → Guarded Next)
    → guarded_onward (Some p) (λ _. next words.Null)
    ≡ guarded_onward (Some (onward p (λ _. give words.Null))) next
null_given (Done v b) next = refl
null_given (Ended e b) next = refl
null_given NoStep next = refl

module _ (s : Setting) (Good : Activity → Type 0) (function room : ℕ) where
  -- An instruction that puts the value of a step into a slot, under a guard that holds.
  pub puts_guarded : (w : Window) (at slot : ℕ) (b : Activity) (test : Bool) (p : Progress Word)
      (rest : Word → Activity → Option Outcome)
      → step s (control function at w) b ≡ guarded_onward (cond test (Some p) None) (put slot (control function at w))
      → test ≡ true
      → w.count ≤ slot
      → ((v : Word) (e : Activity) → p ≡ Done v e
      → Arrives s (control function (at + 1) (with_slots (slice_set w.slots slot v) w)) e (rest v e))
      → Arrives s (control function at w) b (continued p rest)
  puts_guarded w at slot b true p rest does holds low go = puts s Good function room w at slot b p rest does low go
  puts_guarded w at slot b false p rest does holds low go = absurd (cc)

  -- arguments, then an instruction that puts what is done with their values into a slot
  pub by_put : (p : Run (List Word)) (f : List Word → Run Word) (j : Instruction)
      (from at slot count : ℕ) → slot < room
      → ComputesAll s Good function room p from at slot count
      → Has s Good function room at j
      → ((ws : List Word) → KeepsLocals (f ws))
      → ((w : Window) (a b : Activity) (ws : List Word) → Good a → p a ≡ Done ws b → take count (drop slot w.slots) ≡ ws
      → perform s j (control function at w) b
      ≡ guarded_onward (Some (f ws b)) (put slot (control function at w)))
      → Computes s Good function room (p >>= f) from (at + 1) slot
  by_put p f j from at slot count within first has kept does =
      by_arguments s Good function room p f from at (at + 1) slot count within first
      (λ w a b ws rest low long fits good ran are goes.
      puts s Good function room w at slot b (f ws b) rest
      (step_is s Good function room w b at j has ∙ does w a b ws good ran are) low
      (λ v d run. goes v d (slice_set w.slots slot v) run
      (stored s Good function room w slot v b d low (omega (arith, within, long)) fits
      (done_keeps (f ws) b d v (kept ws) run))))

-- hosts

module _ (s : Scene) (scene : IsScene s) where
  pub does_service : (service id : ℕ) (result : Option VarType) (es : List Expr) (from at slot : ℕ) → slot < s.greatest
      → DoesArguments s es from at slot
      → HasAt s at (i.CallService service id result slot (length es))
      → Computes s.setting (Good s) s.function s.room
      (arguments (calls_of s) (exprs es) >>= invoke_host (hosts.Service service) id result) from (at + 1) slot
  does_service service id result es from at slot under does has =
      by_put s.setting (Good s) s.function s.room (arguments (calls_of s) (exprs es))
      (invoke_host (hosts.Service service) id result)
      (i.CallService service id result slot (length es)) from at slot (length es)
      (omega (arith, under, greatest_within s scene)) does has
      (λ ws. keeps_invoke_host (hosts.Service service) id result ws)
      (λ w a b ws good ran are.
      ap (λ (us : List Word). guarded_onward (Some (invoke_host (hosts.Service service) id result us b))
      (put slot (control s.function at w))) are)

  pub does_host_construction : (kind : ℕ) (es : List Expr) (from at slot : ℕ) → slot < s.greatest
      → DoesArguments s es from at slot
      → HasAt s at (i.ConstructHost kind slot (length es))
      → Computes s.setting (Good s) s.function s.room
      (arguments (calls_of s) (exprs es) >>= construct_host kind) from (at + 1) slot
  does_host_construction kind es from at slot under does has =
      by_put s.setting (Good s) s.function s.room (arguments (calls_of s) (exprs es)) (construct_host kind)
      (i.ConstructHost kind slot (length es)) from at slot (length es)
      (omega (arith, under, greatest_within s scene)) does has (λ ws. keeps_construct_host kind ws)
      (λ w a b ws good ran are.
      ap (λ (us : List Word). guarded_onward (Some (construct_host kind us b)) (put slot (control s.function at w)))
      are)

  -- arrays that are constructed: without an argument they are empty

  pub does_empty_array : (of : typed_element.Element) (tag : ElementTag) (from at slot : ℕ) → slot < s.greatest
      → elements_shown ((s.setting).names).modules tag ≡ element_of (s.context).program of
      → DoesArguments s [] from at slot
      → HasAt s at (i.ConstructArray tag slot)
      → Computes s.setting (Good s) s.function s.room
      (arguments (calls_of s) (exprs []) >>= construct_array (element_of (s.context).program of)) from (at + 1) slot
  does_empty_array of tag from at slot under same does has =
      by_put s.setting (Good s) s.function s.room (arguments (calls_of s) (exprs []))
      (construct_array (element_of (s.context).program of)) (i.ConstructArray tag slot) from at slot 0
      (omega (arith, under, greatest_within s scene)) does has
      (λ ws. keeps_construct_array (element_of (s.context).program of) ws)
      (λ w a b ws good ran are.
      ap (λ (shown : Elements (List ℕ)). guarded_onward (Some (construct_array shown [] b))
      (put slot (control s.function at w))) same
      ∙ ap (λ (us : List Word). guarded_onward (Some (construct_array (element_of (s.context).program of) us b))
      (put slot (control s.function at w))) (none_taken (drop slot w.slots) ∙ are))
    where
      none_taken : (us : List Word) → [] ≡ take 0 us
      none_taken [] = refl
      none_taken (u ∷ us) = refl
