use Rattle.std.proofs.Common.{◌≡◌, drop}
use Rattle.std.specs.List.{list_all}
use Rattle.ash_image.specs.SnapshotViews.{modules_of}
use Rattle.ash_image.specs.Fitting.{is_loadable}
use Rattle.ash_image.proofs.fitting.all_loadable.Given as goal

abbrev pub invariant-loop-loaded : goal.invariant-loop-loaded
invariant-loop-loaded l = list_all is_loadable (modules_of (drop l.loaded-index l.modules)) ≡ list_all is_loadable (modules_of l.modules)
