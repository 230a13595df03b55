use Rattle.ash_meaning.proofs.Depth as depth
use Rattle.ash_meaning.proofs.laws.depth_is_no_part.Goals as goal

pub returns : goal.returns
returns c = record { same = depth.depth_is_no_part }
