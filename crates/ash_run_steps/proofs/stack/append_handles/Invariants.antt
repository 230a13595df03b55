use Rattle.std.proofs.Common.{◌≡◌, ◌++◌, ◌+◌, ◌≤◌, drop, length, reverse, vec_len, vec_capacity}
use Rattle.ash_host.specs.Objects.{handles}
use Rattle.ash_run_steps.proofs.stack.append_handles.Given as goal

abbrev pub invariant-loop-left : goal.invariant-loop-left
invariant-loop-left l = record {
  items : l.held.items ≡ l.initial.held.items ++ reverse (handles (drop l.left l.words));
  room : vec_len l.held + l.left ≤ vec_capacity l.held;
  within : l.left ≤ length l.words;
}

abbrev pub decreases-loop-left : goal.decreases-loop-left
decreases-loop-left l = l.left
