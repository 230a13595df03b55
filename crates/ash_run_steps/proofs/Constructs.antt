-- Host objects are constructed as the meaning has it.
use Rattle.std.proofs.Common.{◌≡◌, ℕ, List, sym, refl, subst}
use Rattle.std.specs.Prelude.{Option, Some, None, IfSome, Result, Ok, Err, ◌++◌}
use Rattle.std.specs.Result.{IsErrAnd}
use Rattle.ash_host.specs.declared.event.Target.TheVariants as targets
use Rattle.ash_host.specs.declared.host_object.HostObject.{Ghosts}
use Rattle.ash_host.specs.declared.word.Word.{Word}
use Rattle.ash_host.specs.declared.word.Word.TheVariants as words
use Rattle.ash_host.specs.Calls.{Start}
use Rattle.ash_meaning.specs.Activity.{Activity}
use Rattle.ash_meaning.specs.HostSteps as hosts
use Rattle.ash_meaning.specs.Releases.{hold}
use Rattle.ash_meaning.specs.Runs as runs
use Rattle.ash_meaning.specs.Runs.{Progress, Done, Ended, NoStep, Run}
use Rattle.ash_run_steps.specs.declared.stop.Stop.{Stop}
use Rattle.ash_run_steps.specs.declared.stop.Stop.TheVariants as stops
use Rattle.ash_run_steps.specs.Guarded.{Guarded, plain, give, onward, ◌>>=◌}
use Rattle.ash_run_steps.specs.HostGuards.{start_host}
use Rattle.ash_run_steps.specs.RunStates.{State, Names, shown}
use Rattle.ash_run_steps.specs.Becoming.{Becomes, Comes}
use Rattle.ash_run_steps.proofs.Composed.{becomes_same, comes_then, comes_out}

abbrev begun : List Word → ℕ → Guarded Word
begun args number = plain (start_host number args) >>= (λ _. give (words.Object number))

abbrev held_first : List Word → ℕ → Guarded Word
held_first args number = plain (hold (words.Object number)) >>= (λ _. begun args number)

-- what the meaning does with a number that was drawn
abbrev held_then : List Word → ℕ → Run Word
held_then args number activity =
    runs.onward (runs.onward (runs.onward (hold (words.Object number) activity) (λ _. hosts.call_host (targets.Object number) (Start args))) (hosts.accept None)) (λ _. runs.give (words.Object number))

given_last : (p : Progress Word) (word : Word) → onward (Some p) (λ _. give word) ≡ Some (runs.onward p (λ _. runs.give word))
given_last (Done value activity) word = refl
given_last (Ended interrupt activity) word = refl
given_last NoStep word = refl

constructed_is : (kind : ℕ) (args : List Word) (a : Activity) → (plain (hosts.draw kind) >>= held_first args) a ≡ Some (hosts.construct_host kind args a)
constructed_is kind args a = go (hosts.draw kind a)
  where
    go : (p : Progress ℕ) → onward (Some p) (held_first args) ≡ Some (runs.onward p (held_then args))
    go (Done number b) = given_last (runs.onward (runs.onward (hold (words.Object number) b) (λ _. hosts.call_host (targets.Object number) (Start args))) (hosts.accept None)) (words.Object number)
    go (Ended interrupt b) = refl
    go NoStep = refl

module _ {B : Type 0} (G : Ghosts B) (names : Names) where
  becomes_as : {A : Type 0} (run other : Guarded A) (old : State B) (left : Guarded A) (new : State B) → ((a : Activity) → run a ≡ other a)
      → Becomes G names run old left new → Becomes G names other old left new
  becomes_as run other old left new same is = record {
    records = is.records;
    gave = is.gave;
    same = λ rest. subst (λ (o : Option (Progress _)). IfSome o (λ p. left (shown G names rest new) ≡ Some p)) (same (shown G names (is.records ++ rest) old)) (is.same rest);
  }

  comes_as : {A : Type 0} (run other : Guarded A) (old : State B) (r : Result A Stop) (new : State B) → ((a : Activity) → run a ≡ other a)
      → Comes G names run old r new → Comes G names other old r new
  comes_as run other old (Ok value) new same is = becomes_as run other old _ new same is
  comes_as run other old (Err (stops.Raised exception)) new same is = becomes_as run other old _ new same is
  comes_as run other old (Err stops.OutOfTicks) new same is = becomes_as run other old _ new same is
  comes_as run other old (Err stops.Unsound) new same is = becomes_as run other old _ new same is
  comes_as run other old (Err stops.NoMemory) new same is = tt

  -- the exit of a `?`
  pub comes_exit : {A : Type 0} (run : Guarded A) (old new : State B) (e : Stop) (r : Result A Stop) → IsErrAnd r (λ y. y ≡ e)
      → Comes G names run old (Err e) new → Comes G names run old r new
  comes_exit run old new e (Ok value) is comes = absurd is
  comes_exit run old new e (Err y) is comes = subst (λ (x : Stop). Comes G names run old (Err x) new) (sym is) comes

  module _ (kind : ℕ) (args : List Word) (old drawn : State B) where
    pub construct_is_refused : (e : Stop) → Comes G names (plain (hosts.draw kind)) old (Err e) drawn → Comes G names (plain (hosts.construct_host kind args)) old (Err e) drawn
    construct_is_refused e draws =
        comes_as (plain (hosts.draw kind) >>= held_first args) (plain (hosts.construct_host kind args)) old (Err e) drawn (constructed_is kind args) (comes_out G names (plain (hosts.draw kind)) (held_first args) old drawn e draws)

    module _ (number : ℕ) (held new : State B) (draws : Becomes G names (plain (hosts.draw kind)) old (give number) drawn) (holds : Becomes G names (plain (hold (words.Object number))) drawn (give tt) held) where
      by_parts : (r : Result Word Stop) → Comes G names (begun args number) held r new → Comes G names (plain (hosts.construct_host kind args)) old r new
      by_parts r starts =
          comes_as (plain (hosts.draw kind) >>= held_first args) (plain (hosts.construct_host kind args)) old r new (constructed_is kind args)
          (comes_then G names (plain (hosts.draw kind)) (held_first args) old drawn new number r draws
          (comes_then G names (plain (hold (words.Object number))) (λ _. begun args number) drawn held new tt r holds starts))

      pub construct_raises : (e : Stop) → Comes G names (plain (start_host number args)) held (Err e) new → Comes G names (plain (hosts.construct_host kind args)) old (Err e) new
      construct_raises e starts = by_parts (Err e) (comes_out G names (plain (start_host number args)) (λ _. give (words.Object number)) held new e starts)

      pub construct_gives : (value : Word) → Becomes G names (plain (start_host number args)) held (give value) new → Becomes G names (plain (hosts.construct_host kind args)) old (give (words.Object number)) new
      construct_gives value starts =
          by_parts (Ok (words.Object number)) (comes_then G names (plain (start_host number args)) (λ _. give (words.Object number)) held new new value (Ok (words.Object number)) starts (becomes_same G names (give (words.Object number)) new))
