use Rattle.std.proofs.Common.{◌-◌, arith, refl, sym}
use Rattle.ash_run_steps.proofs.Stacking.{began_at}
use Rattle.ash_run_steps.proofs.stack.Stack.began.Goals as goal

pub returns : goal.returns
returns c =
    let s = c.self.inside in
    record {
      began = rw (← c.self.view_is) (began_at s.frame s.callers.items c.in-Some.caller.now s.slots.items s.held.items (s.frame.base - c.in-Some.caller.now.base)
          (sym (rw (c.in-Some.is, c.deref.ensures.value) at c.last.ensures.value)) (omega (arith, c.self.invariant.0)) c.self.invariant.2 refl);
    }
