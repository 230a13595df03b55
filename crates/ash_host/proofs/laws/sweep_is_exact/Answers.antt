use Rattle.ash_host.proofs.ObjectLaws as laws
use Rattle.ash_host.proofs.laws.sweep_is_exact.Goals as goal

pub returns-clause-one : goal.returns-clause-one
returns-clause-one g c = laws.sweep_is_one _

pub returns-clause-settles : goal.returns-clause-settles
returns-clause-settles g c = laws.sweep_settles _

pub returns-clause-exact : goal.returns-clause-exact
returns-clause-exact g c = laws.sweep_is_exact _
