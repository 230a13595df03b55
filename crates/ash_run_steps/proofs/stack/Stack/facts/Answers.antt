use Rattle.std.proofs.Common.{arith}
use Rattle.ash_run_steps.proofs.Stacking.{roots_few}
use Rattle.ash_run_steps.proofs.stack.Stack.facts.Goals as goal

pub returns-clause-few : goal.returns-clause-few
returns-clause-few c =
    rw (← c.self.view_is) (omega (arith, roots_few c.self.inside.frame c.self.inside.callers.items c.self.inside.slots.items c.self.inside.held.items, c.self.inside.callers.ok.0, c.self.inside.slots.ok.0, c.self.inside.held.ok.0))
