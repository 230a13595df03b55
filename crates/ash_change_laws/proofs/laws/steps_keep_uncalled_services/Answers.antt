use Rattle.ash_change_laws.proofs.RequestsKeep as lemmas
use Rattle.ash_change_laws.proofs.laws.steps_keep_uncalled_services.Goals as goal

pub returns : goal.returns
returns g c = record { keep = lemmas.steps_keep }
