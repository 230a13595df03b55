use Rattle.ash_meaning.specs.Releases as releases
use Rattle.ash_run_steps.specs.FrameSteps.{leave_each}
use Rattle.ash_run_steps.specs.Guarded.{give, plain, ◌>>◌}
use Rattle.ash_run_steps.specs.GuardedSteps.{release}
use Rattle.ash_run_steps.specs.RunStates.{shown}
use Rattle.ash_run_steps.proofs.Composed.{comes_then}
use Rattle.ash_run_steps.proofs.JumpSteps.{becomes_from, together}
use Rattle.ash_run_steps.proofs.state.RunState.end_blocks.Goals as goal

pub returns-clause-ended : goal.returns-clause-ended
returns-clause-ended g c = λ names test inner low.
    let old = c.args.self.now in
    let one = plain (releases.leave_blocks c.args.count) in
    let left = becomes_from g.B.HostObject names one (leave_each inner >> one) old (give tt) c.leave_blocks.new.self (λ rest. together c.args.count inner (shown g.B.HostObject names rest old) low) (c.leave_blocks.ensures.left names) in
    comes_then g.B.HostObject names (leave_each inner >> one) (λ _. release test) old c.leave_blocks.new.self c.release.new.self tt c.release.result left (c.release.ensures.released names test)
