use Rattle.std.proofs.Common.{◌≡◌, ◌++◌, drop}
use Rattle.ash_host.specs.Objects.{handles}
use Rattle.ash_requests.specs.States.{globals_of}
use Rattle.ash_plain_steps.specs.StateViews.{modules_seen}
use Rattle.ash_engine.proofs.runs.push_all_handles.Given as goal

-- the handles so far, and those of what is left
abbrev pub invariant-loop-m : goal.invariant-loop-m
invariant-loop-m l =
    l.numbers.items ++ handles (globals_of (modules_seen (drop l.m-index l.modules)))
    ≡ l.fn.numbers.items ++ handles (globals_of (modules_seen l.modules))
