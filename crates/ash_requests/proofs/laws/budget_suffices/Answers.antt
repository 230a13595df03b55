use Rattle.ash_requests.proofs.Budgets as lemmas
use Rattle.ash_requests.proofs.laws.budget_suffices.Goals as goal

pub returns : goal.returns
returns g c = record { same = lemmas.suffices }
