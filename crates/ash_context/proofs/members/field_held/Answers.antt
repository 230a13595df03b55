use Rattle.ash_meaning.specs.ObjectSteps.{object_of}
use Rattle.ash_run_steps.specs.Guarded.{plain}
use Rattle.ash_context.specs.Members as members
use Rattle.ash_context.proofs.Puts.{after_ok, after_err}
use Rattle.ash_context.proofs.members.field_held.Goals as goal

pub returns-in-Ok : goal.returns-in-Ok
returns-in-Ok g c =
    let old = c.args.state.now in
    let part = c.part_held in
    record {
      held = λ names. after_ok g.B.HostObject names (plain (object_of c.args.object)) (λ number. members.part_held number c.args.place) old old part.new.state c.object_of.result c.in-Ok.number part.result c.in-Ok.is (c.object_of.ensures.found names) (part.ensures.held names);
      same = part.ensures.same;
    }

pub returns-in-Err : goal.returns-in-Err
returns-in-Err g c =
    let old = c.args.state.now in
    record {
      held = λ names. after_err g.B.HostObject names (plain (object_of c.args.object)) (λ number. members.part_held number c.args.place) old old c.object_of.result c.in-Err.stop c.in-Err.is (c.object_of.ensures.found names);
      same = tt;
    }
