use Rattle.std.proofs.Common.{subst}
use Rattle.std.specs.Prelude.{Result}
use Rattle.ash_meaning.specs.Frames as frames
use Rattle.ash_run_steps.specs.declared.stop.Stop.{Stop}
use Rattle.ash_run_steps.specs.Becoming.{Comes}
use Rattle.ash_run_steps.specs.Guarded.{plain}
use Rattle.ash_run_steps.proofs.Composed.{comes_then, comes_out}
use Rattle.ash_code.specs.Performing.{enter_at}
use Rattle.ash_context.specs.Positions.{control_of, came_to}
use Rattle.ash_context.proofs.calling.call_with.Goals as goal

pub returns-in-Ok : goal.returns-in-Ok
returns-in-Ok g c =
    let old = c.args.state.now in
    let at = control_of c.args.at old.frames in
    record {
      called = λ s same. comes_then g.B.HostObject s.names (plain frames.demand_frame) (λ _. enter_at s c.args.function c.args.this c.args.first at) old old c.enter_at.new.state tt
          (came_to c.enter_at.result c.enter_at.new.state.frames)
          (subst (λ (r : Result (Unit {0}) Stop). Comes g.B.HostObject s.names (plain frames.demand_frame) old r old) c.in-Ok.is (c.demand_frame.ensures.demanded s.names)) (c.enter_at.ensures.entered s same);
    }

pub returns-in-Err : goal.returns-in-Err
returns-in-Err g c =
    let old = c.args.state.now in
    let at = control_of c.args.at old.frames in
    record {
      called = λ s same. comes_out g.B.HostObject s.names (plain frames.demand_frame) (λ _. enter_at s c.args.function c.args.this c.args.first at) old old c.in-Err.stop
          (subst (λ (r : Result (Unit {0}) Stop). Comes g.B.HostObject s.names (plain frames.demand_frame) old r old) c.in-Err.is (c.demand_frame.ensures.demanded s.names));
    }
