use Rattle.std.proofs.Common.{ap}
use Rattle.ash_meaning.specs.ObjectSteps.{object_of}
use Rattle.ash_run_steps.specs.ArrayGuards.{resize_array}
use Rattle.ash_run_steps.specs.Guarded.{plain}
use Rattle.ash_run_steps.specs.Stacks.{Frames}
use Rattle.ash_context.specs.Positions.{control_of}
use Rattle.ash_context.proofs.Puts.{after_ok, after_err, if_ok}
use Rattle.ash_context.proofs.arrays.resized.Goals as goal

pub returns-in-Ok : goal.returns-in-Ok
returns-in-Ok g c =
    let old = c.args.state.now in
    let step = c.resize_array in
    record {
      resized = λ names. after_ok g.B.HostObject names (plain (object_of c.args.array)) (λ number. resize_array number c.args.count) old old step.new.self c.object_of.result c.in-Ok.number step.result c.in-Ok.is (c.object_of.ensures.found names) (step.ensures.resized names);
      same = if_ok step.result (λ same at. ap (λ (f : Frames). control_of at f) same) step.ensures.frames;
    }

pub returns-in-Err : goal.returns-in-Err
returns-in-Err g c =
    let old = c.args.state.now in
    record {
      resized = λ names. after_err g.B.HostObject names (plain (object_of c.args.array)) (λ number. resize_array number c.args.count) old old c.object_of.result c.in-Err.stop c.in-Err.is (c.object_of.ensures.found names);
      same = tt;
    }
