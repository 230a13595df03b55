use Rattle.ash_states.proofs.Admitted.{first_admitted}
use Rattle.ash_states.proofs.laws.first_state_is_admitted.Goals as goal

pub returns : goal.returns
returns c = record { first = first_admitted }
