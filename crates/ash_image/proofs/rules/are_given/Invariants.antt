use Rattle.std.proofs.Common.{◌≡◌, drop}
use Rattle.std.specs.List.{list_all}
use Rattle.ash_image.specs.SnapshotViews.{objects_of}
use Rattle.ash_image.specs.Rules.{is_given}
use Rattle.ash_image.proofs.rules.are_given.Given as goal

abbrev pub invariant-loop-object : goal.invariant-loop-object
invariant-loop-object l = list_all (is_given l.last) (objects_of (drop l.object-index l.objects)) ≡ list_all (is_given l.last) (objects_of l.objects)
