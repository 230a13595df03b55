use Rattle.ash_image.proofs.ImageLaws.{spelled_once}
use Rattle.ash_image.proofs.image.image_of_one_state.Goals as goal

pub returns : goal.returns
returns c = record { one = λ bytes v w s t h g. spelled_once bytes v w s t h.0 g.0 }
