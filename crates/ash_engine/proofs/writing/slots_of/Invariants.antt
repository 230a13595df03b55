use Rattle.std.proofs.Common.{◌≡◌, take}
use Rattle.ash_engine.specs.TableStates.{slots_of}
use Rattle.ash_engine.proofs.writing.slots_of.Given as goal

abbrev pub invariant-loop-one : goal.invariant-loop-one
invariant-loop-one l = l.slots.items ≡ slots_of (take l.one-index l.compiled)
