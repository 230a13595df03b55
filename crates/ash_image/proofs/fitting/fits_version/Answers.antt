use Rattle.ash_image.specs.SnapshotViews.{snapshot_of}
use Rattle.ash_image.proofs.FittingLaws.{fits_exactly}
use Rattle.ash_image.proofs.fitting.fits_version.Goals as goal

pub returns : goal.returns
returns c = record {
  exact = fits_exactly c.args.version (snapshot_of c.args.state.now) c.is_within.result c.is_within.ensures.value
      c.state_range.ensures.ranged c.state_range.ensures.utf8;
}
