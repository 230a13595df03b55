use Rattle.std.proofs.Common.{◌≡◌, take}
use Rattle.ash_host.specs.Objects.{numbers}
use Rattle.ash_image.specs.SnapshotViews.{objects_of}
use Rattle.ash_image.proofs.rules.numbers_of.Given as goal

abbrev pub invariant-loop-object : goal.invariant-loop-object
invariant-loop-object l = l.found.items ≡ numbers (objects_of (take l.object-index l.objects))
