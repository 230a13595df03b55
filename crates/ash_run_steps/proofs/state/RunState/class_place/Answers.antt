use Rattle.ash_run_steps.specs.RunStates.{state_with}
use Rattle.ash_run_steps.proofs.ClassSteps.{place_gives}
use Rattle.ash_run_steps.proofs.state.RunState.class_place.Goals as goal

pub returns : goal.returns
returns g c = record {
  place = λ names alone.
      let s = c.self.inside in
      rw (← c.self.view_is) (place_gives g.B.HostObject names c.args.owner alone c.args.number c.place_of.result (state_with s.table s.stack s.globals.items s.outside.items s.events.items s.ticks) c.place_of.ensures.place);
}
