use Rattle.ash_change_records.proofs.BodiesLead.{bodies_lead}
use Rattle.ash_change_records.proofs.ListedFit.{delta_fits, names_listable}
use Rattle.ash_change_records.proofs.laws.bodies_lead.Goals as goal

pub returns : goal.returns
returns c = record { lead = bodies_lead }
