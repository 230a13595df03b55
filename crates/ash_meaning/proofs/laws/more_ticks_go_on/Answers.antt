use Rattle.ash_meaning.proofs.Depth as depth
use Rattle.ash_meaning.proofs.Endings as endings
use Rattle.ash_meaning.proofs.laws.more_ticks_go_on.Goals as goal

pub returns-clause-phrases : goal.returns-clause-phrases
returns-clause-phrases c = depth.more_ticks_go_on

pub returns-clause-runs : goal.returns-clause-runs
returns-clause-runs c = endings.budget_suffices
