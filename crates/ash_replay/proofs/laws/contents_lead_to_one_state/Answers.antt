use Rattle.ash_replay.proofs.Once.{state_once}
use Rattle.ash_replay.proofs.laws.contents_lead_to_one_state.Goals as goal

pub returns : goal.returns
returns c = record { one = state_once }
