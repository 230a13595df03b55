use Rattle.std.proofs.Common.{◌≡◌, ◌+◌, length}
use Rattle.ash_run_steps.specs.RunStates.{bare}
use Rattle.ash_run_steps.proofs.state.RunState.give_up.Given as goal

abbrev pub invariant-loop-callers : goal.invariant-loop-callers
invariant-loop-callers g l = record {
  fewer : length (l.self.frames).callers + l._callers ≡ l._callers-end;
  same : bare l.self.table ≡ bare l.initial.self.table;
  others : l.self ≡ record l.initial.self { table = l.self.table; frames = l.self.frames };
}
