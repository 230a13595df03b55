use Rattle.std.proofs.Common.{◌≡◌, ◌∷◌, drop, map}
use Rattle.ash_host.specs.Objects.{numbers}
use Rattle.ash_image.specs.Image.{do_rise}
use Rattle.ash_image.specs.SnapshotViews.{object_of, objects_of}
use Rattle.ash_image.proofs.numbered.do_rise.Given as goal

abbrev pub invariant-loop-object : goal.invariant-loop-object
invariant-loop-object l = do_rise (numbers (object_of l.last ∷ map object_of (drop l.object-index l.rest)))
    ≡ do_rise (numbers (objects_of l.fn.objects))
