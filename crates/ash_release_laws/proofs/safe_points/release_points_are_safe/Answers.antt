use Rattle.ash_release_laws.proofs.Safe as safe
use Rattle.ash_release_laws.proofs.safe_points.release_points_are_safe.Goals as goal

pub returns : goal.returns
returns g = record { safe = λ c. safe.release_points_are_safe }
