use Rattle.std.proofs.Common.{refl}
use Rattle.ash_image.proofs.image.images_are_read.Goals as goal

pub returns : goal.returns
returns c = record { again = λ version s fits keeps. ((fits, refl), keeps) }
