use Rattle.ash_image.proofs.OneState.{one_state, one_after, one_led, known_by_names}
use Rattle.ash_image.proofs.leading.deltas_lead_to_one_state.Goals as goal

pub returns : goal.returns
returns c = record { one = one_state; body = one_after; named = one_led; known = known_by_names }
