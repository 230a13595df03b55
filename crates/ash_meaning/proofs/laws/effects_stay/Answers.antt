use Rattle.ash_meaning.proofs.Endings as endings
use Rattle.ash_meaning.proofs.laws.effects_stay.Goals as goal

pub returns : goal.returns
returns c = record { stay = endings.runs_stay }
