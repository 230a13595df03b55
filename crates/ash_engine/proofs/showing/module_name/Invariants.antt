use Rattle.std.proofs.Common.{◌≡◌, drop}
use Rattle.ash_plain_steps.specs.StateViews.{modules_seen}
use Rattle.ash_table_states.specs.TableStates.{names_in}
use Rattle.ash_engine.specs.TableStates.{slots_of, names_of}
use Rattle.ash_engine.proofs.showing.module_name.Given as goal

-- the name is that among what is left
abbrev pub invariant-loop-place : goal.invariant-loop-place
invariant-loop-place g l =
    names_in (drop l.place (modules_seen l.live.loaded.modules.items)) (drop l.place (slots_of l.live.compiled.items)) l.slot ≡ names_of l.live l.slot
