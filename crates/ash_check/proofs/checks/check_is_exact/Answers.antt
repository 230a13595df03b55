use Rattle.ash_check.proofs.ExactLaws.{accepted_is, cyclic_is, cycle_is, broken_is}
use Rattle.ash_check.proofs.checks.check_is_exact.Goals as goal

pub returns-clause-accepted : goal.returns-clause-accepted
returns-clause-accepted c = accepted_is

pub returns-clause-cyclic : goal.returns-clause-cyclic
returns-clause-cyclic c = cyclic_is

pub returns-clause-names : goal.returns-clause-names
returns-clause-names c = cycle_is

pub returns-clause-broken : goal.returns-clause-broken
returns-clause-broken c = broken_is
