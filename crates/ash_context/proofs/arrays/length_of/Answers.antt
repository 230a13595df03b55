use Rattle.std.specs.Prelude.{Ok}
use Rattle.ash_meaning.specs.ObjectSteps.{object_of}
use Rattle.ash_run_steps.specs.ArrayGuards.{array_length}
use Rattle.ash_run_steps.specs.Guarded.{plain}
use Rattle.ash_context.proofs.Puts.{after_ok, after_err}
use Rattle.ash_context.proofs.arrays.length_of.Goals as goal

pub returns-in-Ok : goal.returns-in-Ok
returns-in-Ok g c =
    let s = c.args.state.now in
    record { length = λ names. after_ok g.B.HostObject names (plain (object_of c.args.array)) array_length s s s c.object_of.result c.in-Ok.number (Ok c.array_length.result) c.in-Ok.is (c.object_of.ensures.found names) (c.array_length.ensures.length names) }

pub returns-in-Err : goal.returns-in-Err
returns-in-Err g c =
    let s = c.args.state.now in
    record { length = λ names. after_err g.B.HostObject names (plain (object_of c.args.array)) array_length s s c.object_of.result c.in-Err.stop c.in-Err.is (c.object_of.ensures.found names) }
