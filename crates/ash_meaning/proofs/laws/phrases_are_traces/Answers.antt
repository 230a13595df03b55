use Rattle.ash_meaning.proofs.Depth as depth
use Rattle.ash_meaning.proofs.laws.phrases_are_traces.Goals as goal

pub returns : goal.returns
returns c = record { traces = depth.phrases_are_traces }
