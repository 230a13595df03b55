use Rattle.std.proofs.Common.{refl}
use Rattle.ash_meaning.specs.ObjectSteps.{object_of}
use Rattle.ash_run_steps.specs.Guarded.{plain}
use Rattle.ash_run_steps.specs.HostGuards.{set_property}
use Rattle.ash_context.proofs.Puts.{after_ok, after_err}
use Rattle.ash_context.proofs.hosts.property_set.Goals as goal

pub returns-in-Ok : goal.returns-in-Ok
returns-in-Ok g c =
    let old = c.args.state.now in
    let new = c.set_property.new.self in
    record {
      written = λ names. after_ok g.B.HostObject names (plain (object_of c.args.object)) (λ number. set_property number c.args.id c.args.word) old old new c.object_of.result c.in-Ok.number c.set_property.result c.in-Ok.is
          (c.object_of.ensures.found names) (c.set_property.ensures.written names);
      frames = c.set_property.ensures.frames;
    }

pub returns-in-Err : goal.returns-in-Err
returns-in-Err g c =
    let old = c.args.state.now in
    record {
      written = λ names. after_err g.B.HostObject names (plain (object_of c.args.object)) (λ number. set_property number c.args.id c.args.word) old old c.object_of.result c.in-Err.stop c.in-Err.is
          (c.object_of.ensures.found names);
      frames = refl;
    }
