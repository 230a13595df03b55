use Rattle.ash_replay.proofs.Adding.{state_of_alone, state_of_push, fits_in}
use Rattle.ash_replay.proofs.laws.records_lead_on.Goals as goal

pub returns : goal.returns
returns c = record { alone = state_of_alone; more = state_of_push; fit = fits_in }
