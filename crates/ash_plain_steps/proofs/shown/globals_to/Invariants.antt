use Rattle.std.proofs.Common.{◌≡◌, ◌+◌, drop}
use Rattle.ash_host.specs.Objects.{handles_to}
use Rattle.ash_requests.specs.States.{globals_of}
use Rattle.ash_plain_steps.specs.StateViews.{modules_seen}
use Rattle.ash_plain_steps.proofs.shown.globals_to.Given as goal

-- the count so far, and that of what is left
abbrev pub invariant-loop-m : goal.invariant-loop-m
invariant-loop-m l =
    l.count + handles_to l.number (globals_of (modules_seen (drop l.m-index l.modules))) ≡ handles_to l.number (globals_of (modules_seen l.modules)) + l.others
