use Rattle.std.proofs.Common.{arith}
use Rattle.ash_image.specs.DeltaViews.{delta_in}
use Rattle.ash_image.proofs.DeltaLengths.{delta_length}
use Rattle.ash_image.proofs.delta_lengths.delta_length.Goals as goal

pub returns-clause-exact : goal.returns-clause-exact
returns-clause-exact c = omega (arith, delta_length (delta_in c.args.parts))
