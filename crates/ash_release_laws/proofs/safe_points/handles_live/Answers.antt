use Rattle.ash_release_laws.proofs.Dangling as dangling
use Rattle.ash_release_laws.proofs.safe_points.handles_live.Goals as goal

pub returns-clause-live : goal.returns-clause-live
returns-clause-live g = λ c. dangling.handles_live

pub returns-clause-exactly : goal.returns-clause-exactly
returns-clause-exactly g = λ c. dangling.lives_exactly_if_reached
