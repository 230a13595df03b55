use Rattle.ash_replay.proofs.HostStatesRead.{host_state_once}
use Rattle.ash_replay.proofs.laws.contents_have_one_state.Goals as goal

pub returns : goal.returns
returns c = record { one = host_state_once }
