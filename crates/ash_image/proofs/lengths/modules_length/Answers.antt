use Rattle.ash_image.specs.Image.{FitsModule}
use Rattle.ash_image.specs.SnapshotViews.{module_in}
use Rattle.ash_image.proofs.Listed.{all_map_at}
use Rattle.ash_image.proofs.lengths.modules_length.Goals as goal

pub module_length-total-requires : goal.module_length-total-requires
module_length-total-requires c = record {
  fits_module =
      all_map_at FitsModule module_in c.args.modules.now c.loop-parts.parts-index _ c.requires.fit_modules.each
      c.loop-parts-test.true;
}
