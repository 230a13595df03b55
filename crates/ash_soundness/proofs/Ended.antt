-- Each request of a well-formed state has a step, where the host offers nothing.
use Rattle.std.proofs.Common.{◌≡◌, ℕ, [], ◌∷◌, refl, ap, ◌∙◌}
use Rattle.std.specs.Prelude.{Option, Ok, Err, IsSome, is_some, option_map}
use Rattle.std.specs.Option.{option_and_then}
use Rattle.ash_typed.specs.Signatures.{HostSignatures}
use Rattle.ash_meaning.specs.Ends.{call_function, load_module}
use Rattle.ash_soundness.specs.WellFormedLaws.{OffersNothing}
use Rattle.ash_soundness.proofs.Found.{some_from, some_mapped}
use Rattle.ash_requests.specs.States.{State, Hosts, Embedding, without_module, world_of}
use Rattle.ash_requests.specs.Tasks.{Task, Initialize, Invoke, Remove, Read, Show, Count, Rewrite, TaskResult, task_of}
use Rattle.ash_requests.specs.Steps.{Step, after_load, after_call, perform, unless_refused, step, with_step, run, performed}
use Rattle.ash_requests.specs.Premises.{ReadsSound}
use Rattle.ash_soundness.specs.WellFormedStates.{AreHosts, IsWellFormedState, WellFormedHaveSteps, HaveRuns}
use Rattle.ash_soundness.proofs.Asked.{IsTask, initializes, calls, task_is}
use Rattle.ash_soundness.proofs.Called.{call_ends}
use Rattle.ash_soundness.proofs.Came.{load_ends}
use Rattle.ash_soundness.proofs.Stepped.{arguments_values, steps_keep}

module _ {Fault : Type 0} (embedding : Embedding Fault) (host : HostSignatures) where
  task_has_step : (budget : ℕ) (t : Task) (s : State) (hosts : Hosts) → OffersNothing host → ReadsSound host embedding → IsWellFormedState embedding host s → AreHosts hosts → IsTask embedding s t → IsSome (perform {Fault = Fault} budget t s hosts)
  task_has_step budget (Initialize name source tree) s hosts none sound h hs (initializes good is free few left) =
      some_mapped (after_load name source s) (load_module (record { name = name; tree = tree }) budget (world_of [] s.modules s hosts)) (load_ends embedding host s hosts h hs left sound name source tree good is free few budget none)
  task_has_step budget (Invoke m tree place args) s hosts none sound h hs (calls {f = f} asked found is at given left) =
      some_mapped (after_call m s) (call_function (record { name = m.name; tree = tree }) place args budget (world_of m.globals (without_module m.name s.modules) s hosts)) (call_ends embedding host sound s hosts h hs m tree found is place f args budget none at (arguments_values f.parameters asked args given))
  task_has_step budget (Remove name) s hosts none sound h hs t = refl
  task_has_step budget (Read word) s hosts none sound h hs t = refl
  task_has_step budget (Show shown) s hosts none sound h hs t = refl
  task_has_step budget Count s hosts none sound h hs t = refl
  task_has_step budget Rewrite s hosts none sound h hs t = refl

  result_has_step : (budget : ℕ) (d : TaskResult Fault) (s : State) (hosts : Hosts) → OffersNothing host → ReadsSound host embedding → IsWellFormedState embedding host s → AreHosts hosts → ((t : Task) → d ≡ Ok t → IsTask embedding s t) → IsSome (unless_refused budget d s hosts)
  result_has_step budget (Ok t) s hosts none sound h hs is = task_has_step budget t s hosts none sound h hs (is t refl)
  result_has_step budget (Err refusal) s hosts none sound h hs is = refl

  pub have_steps : WellFormedHaveSteps embedding host
  have_steps budget request s hosts none sound h hs = result_has_step budget (task_of embedding request s) s hosts none sound h hs (λ t is. task_is embedding s request t is)

  pub have_runs : HaveRuns embedding host
  have_runs budget [] s hosts none sound h hs = refl
  have_runs budget (request ∷ requests) s hosts none sound h hs =
      let (one, first) = some_from (step embedding budget request s hosts) (have_steps budget request s hosts none sound h hs) in
      let kept = steps_keep embedding host budget request s hosts one sound h hs (performed first) in
      ap (λ (o : Option (Step Fault)). is_some (option_and_then (λ one. option_map (with_step one) (run embedding budget requests one.state one.hosts)) o)) first
      ∙ some_mapped (with_step one) (run embedding budget requests one.state one.hosts) (have_runs budget requests one.state one.hosts none sound kept.0 kept.1)
