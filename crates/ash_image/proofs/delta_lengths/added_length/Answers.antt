use Rattle.std.proofs.Common.{arith}
use Rattle.ash_image.specs.SnapshotViews.{module_in}
use Rattle.ash_image.proofs.DeltaLengths.{added_length}
use Rattle.ash_image.proofs.delta_lengths.added_length.Goals as goal

pub returns-clause-exact : goal.returns-clause-exact
returns-clause-exact c = omega (arith, added_length (module_in c.args.parts))
