use Rattle.ash_run_steps.proofs.Stacking.{seen_written}
use Rattle.ash_run_steps.proofs.stack.Stack.set_word.Goals as goal

pub returns : goal.returns
returns c = record {
  written = rw (← c.self.view_is) (seen_written c.self.inside.frame c.self.inside.callers.items c.self.inside.slots.items c.self.inside.held.items c.args.slot c.args.word);
}
