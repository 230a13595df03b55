use Rattle.std.proofs.Common.{◌≡◌, List, sym, subst}
use Rattle.std.specs.Prelude.{IfOk}
use Rattle.ash_requests.specs.declared.outcome.Outcome as outcome
use Rattle.ash_requests.specs.declared.outcome.Outcome.TheVariants as outcomes
use Rattle.ash_plain_world.specs.ActivityViews.{world_seen}
use Rattle.ash_requests.specs.OutcomeViews.{end_seen}
use Rattle.ash_requests.specs.Steps.{answered, after_load_with, without_globals}
use Rattle.ash_requests.specs.States.{LoadedModule}
use Rattle.ash_plain_steps.specs.StepViews.{step_seen}
use Rattle.ash_plain_steps.proofs.runs.finish_load.Goals as goal

pub returns-in-Finished-clause-stepped : goal.returns-in-Finished-clause-stepped
returns-in-Finished-clause-stepped g c old e is =
    subst (λ (x : outcome.Outcome). IfOk c.keep.result (λ s. step_seen g.S.SourceReader.fault_seen s ≡ after_load_with {Fault = g.S.SourceReader.FaultSeen} c.args.new.name.now c.args.new.source.now old (end_seen x) (world_seen c.args.end.world))) (sym c.in-Finished.is)
    (c.keep.ensures.stepped old e is)

pub returns-in-Exception-clause-stepped : goal.returns-in-Exception-clause-stepped
returns-in-Exception-clause-stepped g c old e is =
    subst (λ (x : outcome.Outcome). IfOk c.abandon.result (λ s. step_seen g.S.SourceReader.fault_seen s ≡ after_load_with {Fault = g.S.SourceReader.FaultSeen} c.args.new.name.now c.args.new.source.now old (end_seen x) (world_seen c.args.end.world))) (sym c.in-Exception.is)
    (subst (λ (l : List LoadedModule). IfOk c.abandon.result (λ s. step_seen g.S.SourceReader.fault_seen s ≡ answered {Fault = g.S.SourceReader.FaultSeen} (end_seen (outcomes.Exception c.in-Exception.code c.in-Exception.function c.in-Exception.line)) l (without_globals (world_seen c.args.end.world)) old)) (sym is)
    (c.abandon.ensures.stepped old e))

pub returns-in-Aborted-clause-stepped : goal.returns-in-Aborted-clause-stepped
returns-in-Aborted-clause-stepped g c old e is =
    subst (λ (x : outcome.Outcome). IfOk c.abandon-in-Aborted.result (λ s. step_seen g.S.SourceReader.fault_seen s ≡ after_load_with {Fault = g.S.SourceReader.FaultSeen} c.args.new.name.now c.args.new.source.now old (end_seen x) (world_seen c.args.end.world))) (sym c.in-Aborted.is)
    (subst (λ (l : List LoadedModule). IfOk c.abandon-in-Aborted.result (λ s. step_seen g.S.SourceReader.fault_seen s ≡ answered {Fault = g.S.SourceReader.FaultSeen} (end_seen (outcomes.Aborted c.in-Aborted.function c.in-Aborted.line)) l (without_globals (world_seen c.args.end.world)) old)) (sym is)
    (c.abandon-in-Aborted.ensures.stepped old e))
