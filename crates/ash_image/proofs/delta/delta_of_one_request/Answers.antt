use Rattle.std.proofs.Common.{arith}
use Rattle.ash_image.proofs.DeltaLaws.{one_delta}
use Rattle.ash_image.proofs.DeltaLengths.{delta_short}
use Rattle.ash_image.proofs.delta.delta_of_one_request.Goals as goal

pub returns : goal.returns
returns c = record { one = one_delta; short = λ version d fits few. omega (arith, delta_short version d fits few) }
