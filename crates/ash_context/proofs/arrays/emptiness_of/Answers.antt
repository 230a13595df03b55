use Rattle.std.specs.Prelude.{Ok}
use Rattle.ash_meaning.specs.ObjectSteps.{object_of}
use Rattle.ash_run_steps.specs.ArrayGuards.{array_is_empty}
use Rattle.ash_run_steps.specs.Guarded.{plain}
use Rattle.ash_context.proofs.Puts.{after_ok, after_err}
use Rattle.ash_context.proofs.arrays.emptiness_of.Goals as goal

pub returns-in-Ok : goal.returns-in-Ok
returns-in-Ok g c =
    let s = c.args.state.now in
    record { empty = λ names. after_ok g.B.HostObject names (plain (object_of c.args.array)) array_is_empty s s s c.object_of.result c.in-Ok.number (Ok c.array_is_empty.result) c.in-Ok.is (c.object_of.ensures.found names) (c.array_is_empty.ensures.empty names) }

pub returns-in-Err : goal.returns-in-Err
returns-in-Err g c =
    let s = c.args.state.now in
    record { empty = λ names. after_err g.B.HostObject names (plain (object_of c.args.array)) array_is_empty s s c.object_of.result c.in-Err.stop c.in-Err.is (c.object_of.ensures.found names) }
