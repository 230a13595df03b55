use Rattle.ash_change_records.proofs.ChangesLead.{changes_lead}
use Rattle.ash_change_records.proofs.BodiesLead.{listed_lead_to}
use Rattle.ash_change_records.proofs.laws.listed_changes_lead.Goals as goal

pub returns : goal.returns
returns c = record { lead = changes_lead; lead_to = listed_lead_to }
