use Rattle.ash_image.specs.declared.version.Version.TheVariants.{Two}
use Rattle.ash_image.specs.Image.{FitsObject}
use Rattle.ash_image.specs.SnapshotViews.{object_in}
use Rattle.ash_image.proofs.Listed.{all_map_at}
use Rattle.ash_image.proofs.numbered.write_each.Goals as goal

pub write_object-requires : goal.write_object-requires
write_object-requires c = record {
  fits_object =
      all_map_at (FitsObject Two) object_in c.args.objects.now c.loop-parts.parts-index _ c.requires.fits_object
      c.loop-parts-test.true;
}
