use Rattle.ash_requests.proofs.Counted as counted
use Rattle.ash_requests.proofs.laws.answers_are_counted.Goals as goal

pub returns : goal.returns
returns g c = record { counted = counted.counted_by }
