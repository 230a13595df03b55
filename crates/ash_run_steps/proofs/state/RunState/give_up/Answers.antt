use Rattle.std.proofs.Common.{◌≡◌, [], ◌<◌, length, ap, sym, refl, arith}
use Rattle.ash_run_steps.specs.Stacks.{Frames}
use Rattle.ash_run_steps.proofs.EndSteps.{bare_then, fewer_callers, none_left, others_then}
use Rattle.ash_run_steps.proofs.state.RunState.give_up.Goals as goal

pub loop-callers-init : goal.loop-callers-init
loop-callers-init g c =
    let many : length (c.args.self.now.frames).callers ≡ c.depth-callers-end.result = rw (← c.self.view_is) (sym c.depth-callers-end.ensures.depth) in
    record { fewer = omega (arith, many); same = refl; others = refl }

pub give_up_frame-requires : goal.give_up_frame-requires
give_up_frame-requires g c = record { called = omega (arith, c.loop-callers.invariant.fewer, c.loop-callers-test.true) }

pub loop-callers-preserved : goal.loop-callers-preserved
loop-callers-preserved g c =
    let old = c.loop-callers.self in
    let new = c.give_up_frame.new.self in
    let up = c.give_up_frame.ensures in
    let some : 0 < length (old.frames).callers = omega (arith, c.loop-callers.invariant.fewer, c.loop-callers-test.true) in
    let one = ap (λ (f : Frames). length f.callers) up.frames in
    record {
      fewer = omega (arith, fewer_callers [] old.frames some, one, c.loop-callers.invariant.fewer);
      same = bare_then c.args.self.now old new c.loop-callers.invariant.same up.same;
      others = others_then c.args.self.now old new c.loop-callers.invariant.others up.others;
    }

pub clear_frame-requires : goal.clear_frame-requires
clear_frame-requires g c = record { first = none_left (c.loop-callers.self.frames).callers (omega (arith, c.loop-callers.invariant.fewer, c.loop-callers-test.false)) }

pub returns-clause-same : goal.returns-clause-same
returns-clause-same g c = bare_then c.args.self.now c.loop-callers.self c.clear_frame.new.self c.loop-callers.invariant.same c.clear_frame.ensures.same

pub returns-clause-others : goal.returns-clause-others
returns-clause-others g c = others_then c.args.self.now c.loop-callers.self c.clear_frame.new.self c.loop-callers.invariant.others c.clear_frame.ensures.others
