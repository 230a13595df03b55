use Rattle.std.proofs.Common.{take}
use Rattle.ash_host.specs.Objects.{handles}
use Rattle.ash_requests.specs.States.{globals_of}
use Rattle.ash_plain_steps.specs.StateViews.{modules_seen}
use Rattle.ash_run_steps.specs.RunStates.{HoldsMore}
use Rattle.ash_engine.proofs.starting.hold_globals.Given as goal

abbrev pub invariant-loop-module : goal.invariant-loop-module
invariant-loop-module g l = HoldsMore (handles (globals_of (modules_seen (take l.module-index l.modules)))) l.initial.table l.table
