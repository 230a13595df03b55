use Rattle.ash_host.proofs.ObjectLaws as laws
use Rattle.ash_host.proofs.laws.numbers_rise.Goals as goal

pub returns-clause-swept : goal.returns-clause-swept
returns-clause-swept g c = laws.sweep_keeps_last _

pub returns-clause-made : goal.returns-clause-made
returns-clause-made g c = laws.numbers_rise _
