use Rattle.ash_replay.proofs.Faultless.{only_memory}
use Rattle.ash_replay.proofs.laws.states_have_no_fault.Goals as goal

pub returns : goal.returns
returns c = record { only = only_memory }
