use Rattle.std.proofs.Common.{◌≡◌, length}
use Rattle.std.specs.Prelude.{◌==◌}
use Rattle.ash_run_steps.specs.PartSteps.{words_at}
use Rattle.ash_run_steps.specs.RunStates.{state_with}
use Rattle.ash_run_steps.proofs.ArraySteps.{empty_gives}
use Rattle.ash_run_steps.proofs.state.RunState.array_is_empty.Goals as goal

pub returns : goal.returns
returns g c = record {
  empty = λ names.
      let s = c.self.inside in
      let none : c.is_empty.result ≡ (length (words_at c.args.number s.table) == 0) = rw c.words_at.ensures.words at c.is_empty.ensures in
      rw (← c.self.view_is) (empty_gives g.B.HostObject names (state_with s.table s.stack s.globals.items s.outside.items s.events.items s.ticks) c.args.number c.is_empty.result none);
}
