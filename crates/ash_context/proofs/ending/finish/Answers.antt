use Rattle.std.proofs.Common.{◌≡◌, ◌∙◌, [], subst, sym, ap}
use Rattle.std.specs.Prelude.{Option, Result, Err}
use Rattle.ash_host.specs.declared.word.Word.{Word}
use Rattle.ash_run_steps.specs.declared.stop.Stop.{Stop}
use Rattle.ash_context.specs.declared.outcome.Outcome.{Outcome}
use Rattle.ash_context.specs.declared.outcome.RunFault.{RunFault}
use Rattle.ash_context.specs.declared.outcome.RunFault.TheVariants as faults
use Rattle.ash_context.specs.Outcomes.{said_of, CameTo}
use Rattle.ash_context.proofs.Endings.{had_begun, came_to}
use Rattle.ash_context.proofs.ending.finish.Goals as goal

pub returns : goal.returns
returns g c =
    let G = g.B.HostObject in
    let state = c.args.state in
    let place = c.place-function in
    let ended = c.end-ended in
    let parts = c.into_parts-parts.result.0 in
    let said = c.outcome_of-outcome.ensures.said in
    record {
      came = λ names test run start comes.
          subst (λ (r : Result Outcome RunFault). CameTo G names test run start r parts) (sym said)
          (came_to G names test run start ended.new.self parts c.into_parts-parts.ensures.table
          (λ rest. c.into_parts-parts.ensures.world names rest) state state.frames.frame ended.result
          (λ value becomes. ended.ensures.finished names test run start [] value becomes)
          (λ interrupt becomes. ended.ensures.interrupted names test run start interrupt becomes)
          c.args.end place.result.0 place.result.1 place.ensures.function place.ensures.line comes);
      memory = λ is.
          said ∙ ap (λ (end : Result (Option Word) Stop). said_of end place.result.0 place.result.1 ended.result) is;
      begun = λ is.
          had_begun c.args.end place.result.0 place.result.1 ended.result
          (subst (λ (r : Result Outcome RunFault). r ≡ Err faults.NotBegun) said is);
      held = c.into_parts-parts.ensures.held;
    }
