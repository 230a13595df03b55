use Rattle.ash_meaning.proofs.Departures as departures
use Rattle.ash_meaning.proofs.laws.objects_go_at_releases.Goals as goal

pub returns : goal.returns
returns c = record { at_releases = departures.go_at_releases }
