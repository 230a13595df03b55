use Rattle.ash_states.proofs.OneImage.{one_state}
use Rattle.ash_states.proofs.laws.image_of_one_state.Goals as goal

pub returns : goal.returns
returns c = record { one = one_state }
