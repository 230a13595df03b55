use Rattle.std.proofs.Common.{◌≡◌, ◌++◌, map, drop}
use Rattle.std.specs.Prelude.{flat_map}
use Rattle.ash_meaning.specs.Releases.{roots_of_frame}
use Rattle.ash_plain_world.specs.ActivityViews.{frame_seen}
use Rattle.ash_plain_world.proofs.releases.push_roots.Given as goal

abbrev pub invariant-loop-frame : goal.invariant-loop-frame
invariant-loop-frame l =
    l.roots.items ++ flat_map roots_of_frame (map frame_seen (drop l.frame-index l.frames)) ≡ l.fn.roots.items ++ flat_map roots_of_frame (map frame_seen l.frames)
