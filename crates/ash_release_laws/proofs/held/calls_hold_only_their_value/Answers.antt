use Rattle.ash_release_laws.proofs.CallsHold as laws
use Rattle.ash_release_laws.proofs.held.calls_hold_only_their_value.Goals as goal

pub returns : goal.returns
returns c = record { calls = laws.calls_hold_their_value }
