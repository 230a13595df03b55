use Rattle.ash_class_cycles.proofs.CycleSearches.{reported_is, none_is_reported}
use Rattle.ash_class_cycles.proofs.acyclic.search_is_exact.Goals as goal

pub returns-clause-reported : goal.returns-clause-reported
returns-clause-reported c = reported_is

pub returns-clause-none : goal.returns-clause-none
returns-clause-none c = none_is_reported
