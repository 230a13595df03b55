use Rattle.ash_change_laws.proofs.RunsKeep as lemmas
use Rattle.ash_change_laws.proofs.laws.uncalled_services_stay.Goals as goal

pub returns : goal.returns
returns c = record { stay = lemmas.runs_keep }
