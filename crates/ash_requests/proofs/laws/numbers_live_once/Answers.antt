use Rattle.ash_requests.proofs.Numbers as numbers
use Rattle.ash_requests.proofs.laws.numbers_live_once.Goals as goal

pub returns : goal.returns
returns g c = record { once = numbers.runs_live }
