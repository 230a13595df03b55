use Rattle.std.proofs.Common.{List, refl, subst}
use Rattle.ash_host.specs.declared.word.Word.{Word}
use Rattle.ash_meaning.specs.Frames as frames
use Rattle.ash_run_steps.specs.Becoming.{Comes}
use Rattle.ash_run_steps.specs.Guarded.{plain}
use Rattle.ash_run_steps.specs.MakingSteps.{make_script}
use Rattle.ash_context.proofs.Puts.{after_ok, after_err}
use Rattle.ash_context.proofs.constructing.new_object.Goals as goal

pub returns-in-Ok : goal.returns-in-Ok
returns-in-Ok g c =
    let old = c.args.state.now in
    let class = c.args.class.now in
    let step = c.make_script in
    let new = step.new.self in
    record {
      made = λ names. after_ok g.B.HostObject names (plain frames.demand_frame) (λ _. make_script (names.modules c.args.owner) class.place (class.fields).items) old old new c.demand_frame.result tt step.result c.in-Ok.is
          (c.demand_frame.ensures.demanded names)
          (subst (λ (ws : List Word). Comes g.B.HostObject names (make_script (names.modules c.args.owner) class.place ws) old step.result new) c.deref.ensures.value (step.ensures.made names));
      frames = step.ensures.frames;
    }

pub returns-in-Err : goal.returns-in-Err
returns-in-Err g c =
    let old = c.args.state.now in
    let class = c.args.class.now in
    record {
      made = λ names. after_err g.B.HostObject names (plain frames.demand_frame) (λ _. make_script (names.modules c.args.owner) class.place (class.fields).items) old old c.demand_frame.result c.in-Err.stop c.in-Err.is
          (c.demand_frame.ensures.demanded names);
      frames = refl;
    }
