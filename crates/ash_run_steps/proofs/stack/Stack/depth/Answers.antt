use Rattle.std.proofs.Common.{arith}
use Rattle.ash_run_steps.proofs.Stacking.{callers_counted}
use Rattle.ash_run_steps.proofs.stack.Stack.depth.Goals as goal

pub returns : goal.returns
returns c = record {
  depth = rw (← c.self.view_is) (omega (arith, callers_counted c.self.inside.frame c.self.inside.callers.items c.self.inside.slots.items c.self.inside.held.items, c.self.inside.callers.ok.0));
}
