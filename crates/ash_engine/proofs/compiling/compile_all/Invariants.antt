use Rattle.std.proofs.Common.{◌≡◌, take}
use Rattle.std.specs.List.{AllZip}
use Rattle.ash_plain_steps.specs.StateViews.{modules_seen}
use Rattle.ash_table_states.specs.TableStates.{places_from}
use Rattle.ash_engine.specs.TableStates.{slots_of, IsCompiledFrom}
use Rattle.ash_engine.proofs.compiling.compile_all.Given as goal

abbrev pub invariant-loop-place : goal.invariant-loop-place
invariant-loop-place l = record {
  each : AllZip IsCompiledFrom (take l.place l.modules) l.all.items;
  slots : slots_of l.all.items ≡ places_from 0 (modules_seen (take l.place l.modules));
}
