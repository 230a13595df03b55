use Rattle.ash_meaning.specs.Activity.{in_frame}
use Rattle.ash_meaning.specs.Releases.{let_go}
use Rattle.ash_meaning.specs.Runs.{change}
use Rattle.ash_run_steps.specs.Guarded.{plain}
use Rattle.ash_run_steps.specs.GuardedSteps.{release}
use Rattle.ash_run_steps.proofs.Composed.{comes_then}
use Rattle.ash_run_steps.proofs.state.RunState.end_expression.Goals as goal

pub returns-clause-ended : goal.returns-clause-ended
returns-clause-ended g c = λ names test. comes_then g.B.HostObject names (plain (change (in_frame let_go))) (λ _. release test) c.args.self.now c.let_go.new.self c.release.new.self tt c.release.result (c.let_go.ensures.let_go names) (c.release.ensures.released names test)
