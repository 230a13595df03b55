use Rattle.std.proofs.Common.{ap}
use Rattle.ash_meaning.specs.ObjectSteps.{object_of}
use Rattle.ash_run_steps.specs.ArrayGuards.{insert_last}
use Rattle.ash_run_steps.specs.Guarded.{plain}
use Rattle.ash_run_steps.specs.Stacks.{Frames}
use Rattle.ash_context.specs.Positions.{control_of}
use Rattle.ash_context.proofs.Puts.{after_ok, after_err, always}
use Rattle.ash_context.proofs.arrays.inserted.Goals as goal

pub returns-in-Ok : goal.returns-in-Ok
returns-in-Ok g c =
    let old = c.args.state.now in
    let step = c.insert_last in
    record {
      inserted = λ names. after_ok g.B.HostObject names (plain (object_of c.args.array)) (λ number. insert_last number c.args.word) old old step.new.self c.object_of.result c.in-Ok.number step.result c.in-Ok.is (c.object_of.ensures.found names) (step.ensures.inserted names);
      same = always step.result (λ at. ap (λ (f : Frames). control_of at f) step.ensures.frames);
    }

pub returns-in-Err : goal.returns-in-Err
returns-in-Err g c =
    let old = c.args.state.now in
    record {
      inserted = λ names. after_err g.B.HostObject names (plain (object_of c.args.array)) (λ number. insert_last number c.args.word) old old c.object_of.result c.in-Err.stop c.in-Err.is (c.object_of.ensures.found names);
      same = tt;
    }
