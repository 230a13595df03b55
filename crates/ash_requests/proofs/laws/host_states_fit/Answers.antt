use Rattle.ash_requests.proofs.Fits as fits
use Rattle.ash_requests.proofs.laws.host_states_fit.Goals as goal

pub returns : goal.returns
returns g c =
    record { fit = λ embedding budget requests state hosts history answerers runs numbered answer. fits.runs_fit _ answerers embedding budget requests state hosts history runs numbered answer }
