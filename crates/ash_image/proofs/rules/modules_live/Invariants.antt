use Rattle.std.proofs.Common.{◌≡◌, drop}
use Rattle.std.specs.List.{list_all}
use Rattle.ash_image.specs.SnapshotViews.{modules_of}
use Rattle.ash_image.specs.Rules.{module_lives}
use Rattle.ash_image.proofs.rules.modules_live.Given as goal

abbrev pub invariant-loop-module : goal.invariant-loop-module
invariant-loop-module l = list_all (module_lives l.alive) (modules_of (drop l.module-index l.modules)) ≡ list_all (module_lives l.alive) (modules_of l.modules)
