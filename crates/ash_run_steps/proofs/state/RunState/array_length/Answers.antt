use Rattle.std.proofs.Common.{ap, length}
use Rattle.ash_run_steps.specs.RunStates.{state_with}
use Rattle.ash_run_steps.proofs.ArraySteps.{length_gives}
use Rattle.ash_run_steps.proofs.state.RunState.array_length.Goals as goal

pub returns : goal.returns
returns g c = record {
  length = λ names.
      let s = c.self.inside in
      rw (← c.self.view_is) (length_gives g.B.HostObject names (state_with s.table s.stack s.globals.items s.outside.items s.events.items s.ticks) c.args.number _ (ap length c.words_at.ensures.words));
}
