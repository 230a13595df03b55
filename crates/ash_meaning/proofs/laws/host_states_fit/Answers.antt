use Rattle.ash_meaning.proofs.Fits as fits
use Rattle.ash_meaning.proofs.laws.host_states_fit.Goals as goal

pub returns : goal.returns
returns g c = record { fit = fits.host_states_fit _ }
