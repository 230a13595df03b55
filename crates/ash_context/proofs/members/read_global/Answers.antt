use Rattle.ash_meaning.specs.Locations as locations
use Rattle.ash_run_steps.specs.Guarded.{plain, ◌>>=◌}
use Rattle.ash_run_steps.proofs.Composed.{comes_then}
use Rattle.ash_code.specs.Steps.{give_held}
use Rattle.ash_context.specs.Positions.{control_of}
use Rattle.ash_context.proofs.Puts.{if_ok}
use Rattle.ash_context.proofs.members.read_global.Goals as goal

pub returns : goal.returns
returns g c =
    let old = c.args.state.now in
    let at = control_of c.args.at old.frames in
    let read = plain (locations.read (locations.Global c.args.place)) in
    let step = c.held-step in
    record {
      does = λ s. c.store_given.ensures.put s (read >>= give_held) at old
          (comes_then g.B.HostObject s.names read give_held old old step.new.state c.read_global-word.result step.result (c.read_global-word.ensures.read s.names) (step.ensures.held s.names))
          (if_ok step.result (λ same. same c.args.at) step.ensures.same);
    }
