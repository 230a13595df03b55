use Rattle.std.proofs.Common.{ap}
use Rattle.ash_meaning.specs.ObjectSteps.{object_of}
use Rattle.ash_run_steps.specs.ArrayGuards.{remove_last}
use Rattle.ash_run_steps.specs.Guarded.{plain}
use Rattle.ash_run_steps.specs.Stacks.{Frames}
use Rattle.ash_context.specs.Positions.{control_of}
use Rattle.ash_context.proofs.Puts.{after_ok, after_err, if_ok}
use Rattle.ash_context.proofs.arrays.removed.Goals as goal

pub returns-in-Ok : goal.returns-in-Ok
returns-in-Ok g c =
    let old = c.args.state.now in
    let step = c.remove_last in
    record {
      removed = λ names. after_ok g.B.HostObject names (plain (object_of c.args.array)) remove_last old old step.new.self c.object_of.result c.in-Ok.number step.result c.in-Ok.is (c.object_of.ensures.found names) (step.ensures.removed names);
      same = if_ok step.result (λ same at. ap (λ (f : Frames). control_of at f) same) step.ensures.frames;
    }

pub returns-in-Err : goal.returns-in-Err
returns-in-Err g c =
    let old = c.args.state.now in
    record {
      removed = λ names. after_err g.B.HostObject names (plain (object_of c.args.array)) remove_last old old c.object_of.result c.in-Err.stop c.in-Err.is (c.object_of.ensures.found names);
      same = tt;
    }
