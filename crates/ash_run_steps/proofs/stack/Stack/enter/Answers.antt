use Rattle.std.proofs.Common.{◌+◌, arith, refl}
use Rattle.ash_run_steps.proofs.Stacking.{seen_entered}
use Rattle.ash_run_steps.proofs.stack.Stack.enter.Goals as goal

pub returns-clause-entered : goal.returns-clause-entered
returns-clause-entered c =
    let f = c.self.inside.frame in
    rw (← c.self.view_is) (seen_entered f c.self.inside.callers.items c.self.inside.slots.items c.self.inside.held.items (record { function = c.args.function; line = c.args.line; this = c.args.this; back = c.args.back; base = f.base + c.args.at; count = c.args.count; mark = c.len.result }) c.push_caller.new.callers.items c.args.at refl (omega (arith, c.self.inside.held.ok.0, c.len.ensures)) c.in_ok-push_caller.ensures.pushed (c.self.invariant.1))
