use Rattle.ash_image.specs.declared.version.Version.TheVariants.{Two}
use Rattle.ash_image.specs.Image.{FitsObject}
use Rattle.ash_image.specs.SnapshotViews.{object_in}
use Rattle.ash_image.proofs.Listed.{all_map_at}
use Rattle.ash_image.proofs.lengths.objects_length.Goals as goal

pub object_length-total-requires : goal.object_length-total-requires
object_length-total-requires c = record {
  fits_object =
      all_map_at (FitsObject Two) object_in c.args.objects.now c.loop-parts.parts-index _ c.requires.fit_objects.each
      c.loop-parts-test.true;
}
