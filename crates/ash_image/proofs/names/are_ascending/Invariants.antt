use Rattle.std.proofs.Common.{◌≡◌, ◌∷◌, drop, map}
use Rattle.ash_image.specs.SnapshotViews.{module_of, modules_of}
use Rattle.ash_image.specs.Image.{are_ascending, names_of}
use Rattle.ash_image.proofs.names.are_ascending.Given as goal

abbrev pub invariant-loop-module : goal.invariant-loop-module
invariant-loop-module l = are_ascending (names_of
    (module_of l.last ∷ map module_of (drop l.module-index l.rest)))
    ≡ are_ascending (names_of (modules_of l.fn.modules))
