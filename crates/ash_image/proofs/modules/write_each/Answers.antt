use Rattle.ash_image.specs.Image.{FitsModule}
use Rattle.ash_image.specs.SnapshotViews.{module_in}
use Rattle.ash_image.proofs.Listed.{all_map_at}
use Rattle.ash_image.proofs.modules.write_each.Goals as goal

pub write_module-requires : goal.write_module-requires
write_module-requires c = record {
  fits_module =
      all_map_at FitsModule module_in c.args.modules.now c.loop-parts.parts-index _ c.requires.fits_module
      c.loop-parts-test.true;
}
