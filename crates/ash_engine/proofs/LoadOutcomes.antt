-- What the outcome of a load is, and what it is not.
use Rattle.std.proofs.Common.{◌≡◌, List, sym, ◌∙◌, subst}
use Rattle.std.specs.Prelude.{Option, Result, Ok, Err, IfOk, OnErr}
use Rattle.ash_host.specs.declared.event.Event.{Event}
use Rattle.ash_host.specs.declared.word.Word.{Word}
use Rattle.ash_typed.specs.Modules.{Module}
use Rattle.ash_requests.specs.declared.step_error.StepError.{StepError}
use Rattle.ash_run_steps.specs.declared.beginning.Parts.{Parts}
use Rattle.ash_context.specs.declared.outcome.Outcome.{Outcome}
use Rattle.ash_context.specs.declared.outcome.Outcome.TheVariants as outcomes
use Rattle.ash_context.specs.declared.outcome.RunFault.{RunFault}
use Rattle.ash_engine.specs.declared.changes.ModuleChange.TheVariants as changes
use Rattle.ash_engine.specs.declared.live.Live.{Live}
use Rattle.ash_engine.specs.declared.live.Rest.{Rest}
use Rattle.ash_engine.specs.declared.steps.LiveStep.{LiveStep}
use Rattle.ash_engine.specs.TableRuns.{end_named, IsAnswered, IsAbandoned}
use Rattle.ash_engine.specs.TableTasks.{entry_name}

pub same_outcome : (r : Result Outcome RunFault) (one other : Outcome) → r ≡ Ok one → r ≡ Ok other → one ≡ other
same_outcome r one other here there = let e : ◌≡◌ {A = Result Outcome RunFault} (Ok one) (Ok other) = sym here
    ∙ there in cc

pub no_fault : (r : Result Outcome RunFault) (one : Outcome) (fault : RunFault) → r ≡ Ok one → r ≡ Err fault → ⊥
no_fault r one fault here there = let e : ◌≡◌ {A = Result Outcome RunFault} (Ok one) (Err fault) = sym here ∙ there in
    cc

pub same_value : (one other : Option Word) → outcomes.Finished one ≡ outcomes.Finished other → one ≡ other
same_value one other e = cc

-- a module that was given up after one outcome was so after another that is the same
pub abandoned_as : {B : Type 0} (rest : Rest) (parts : Parts B) (tree : Module) (result : Result (LiveStep B) StepError)
    (one other : Outcome) → one ≡ other
    → IfOk result (λ s. (live : Live B) × (events : List Event) × IsAbandoned rest parts live events × IsAnswered live
    (end_named (entry_name tree) one) events changes.Unchanged s)
    → IfOk result (λ s. (live : Live B) × (events : List Event) × IsAbandoned rest parts live events × IsAnswered live
    (end_named (entry_name tree) other) events changes.Unchanged s)
abandoned_as {B} rest parts tree result one other same h =
    subst (λ (o : Outcome). IfOk result (λ s. (live : Live B) × (events : List Event) × IsAbandoned rest parts live
    events × IsAnswered live (end_named (entry_name tree) o) events changes.Unchanged s)) same h

-- what holds anyway holds if there is an error
pub on_error : {A E P : Type 0} (result : Result A E) → P → OnErr result P
on_error (Ok value) holds = tt
on_error (Err error) holds = holds
