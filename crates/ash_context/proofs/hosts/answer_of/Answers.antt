use Rattle.std.proofs.Common.{refl, take, drop}
use Rattle.ash_host.specs.declared.event.Target.TheVariants as targets
use Rattle.ash_meaning.specs.ObjectSteps.{object_of}
use Rattle.ash_run_steps.specs.Guarded.{plain}
use Rattle.ash_run_steps.specs.HostGuards.{invoke_host}
use Rattle.ash_context.proofs.Puts.{after_ok, after_err}
use Rattle.ash_context.proofs.hosts.answer_of.Goals as goal

pub returns-in-Ok : goal.returns-in-Ok
returns-in-Ok g c =
    let old = c.args.state.now in
    let new = c.invoke_host.new.self in
    let row = c.args.row in
    let words = take row.count (drop row.first ((old.frames).frame).slots) in
    record {
      answered = λ names. after_ok g.B.HostObject names (plain (object_of c.args.object)) (λ number. invoke_host (targets.Object number) c.args.id c.args.declared words) old old new c.object_of.result c.in-Ok.number c.invoke_host.result c.in-Ok.is
          (c.object_of.ensures.found names) (c.invoke_host.ensures.invoked names);
      frames = c.invoke_host.ensures.frames;
    }

pub returns-in-Err : goal.returns-in-Err
returns-in-Err g c =
    let old = c.args.state.now in
    let row = c.args.row in
    let words = take row.count (drop row.first ((old.frames).frame).slots) in
    record {
      answered = λ names. after_err g.B.HostObject names (plain (object_of c.args.object)) (λ number. invoke_host (targets.Object number) c.args.id c.args.declared words) old old c.object_of.result c.in-Err.stop c.in-Err.is
          (c.object_of.ensures.found names);
      frames = refl;
    }
