use Rattle.std.proofs.Common.{ap}
use Rattle.std.specs.Prelude.{Ok}
use Rattle.ash_run_steps.specs.Guarded.{give}
use Rattle.ash_run_steps.specs.GuardedSteps.{hold}
use Rattle.ash_run_steps.specs.Stacks.{Frames}
use Rattle.ash_run_steps.proofs.Composed.{becomes_same}
use Rattle.ash_context.specs.Positions.{control_of}
use Rattle.ash_context.proofs.Puts.{after_ok, after_err}
use Rattle.ash_context.proofs.storing.held.Goals as goal

pub returns-in-Ok : goal.returns-in-Ok
returns-in-Ok g c =
    let old = c.args.state.now in
    let new = c.hold.new.self in
    let word = c.args.word in
    let is = c.in-Ok.is in
    record {
      held = λ names. after_ok g.B.HostObject names (hold word) (λ _. give word) old new new c.hold.result tt (Ok word) is (c.hold.ensures.held names) (becomes_same g.B.HostObject names (give word) new);
      same = λ at. ap (λ (f : Frames). control_of at f) (rw is at c.hold.ensures.frames);
    }

pub returns-in-Err : goal.returns-in-Err
returns-in-Err g c =
    record {
      held = λ names. after_err g.B.HostObject names (hold c.args.word) (λ _. give c.args.word) c.args.state.now c.hold.new.self c.hold.result c.in-Err.stop c.in-Err.is (c.hold.ensures.held names);
      same = tt;
    }
