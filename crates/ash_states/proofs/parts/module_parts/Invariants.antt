use Rattle.std.proofs.Common.{◌≡◌, take}
use Rattle.ash_plain_steps.specs.StateViews.{modules_seen}
use Rattle.ash_image.specs.SnapshotViews.{modules_in}
use Rattle.ash_states.specs.Indexes.{stored_modules_of}
use Rattle.ash_states.proofs.parts.module_parts.Given as goal

abbrev pub invariant-loop-loaded : goal.invariant-loop-loaded
invariant-loop-loaded l = modules_in l.parts.items ≡ stored_modules_of (modules_seen (take l.loaded-index l.modules))
