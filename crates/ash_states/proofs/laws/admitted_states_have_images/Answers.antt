use Rattle.ash_states.proofs.Depicted.{has_image}
use Rattle.ash_states.proofs.laws.admitted_states_have_images.Goals as goal

pub returns : goal.returns
returns c = record { image = has_image }
