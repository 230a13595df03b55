use Rattle.ash_object_ranks.proofs.ShownTables as tables
use Rattle.ash_object_ranks.proofs.Sweeps as sweeps
use Rattle.ash_object_ranks.proofs.table_laws.sweeps_take_the_unreachable.Goals as goal

pub returns-clause-ranks : goal.returns-clause-ranks
returns-clause-ranks g c = λ names. tables.tables_have_ranks g.B.HostObject names

pub returns-clause-exact : goal.returns-clause-exact
returns-clause-exact g c = λ names. sweeps.sweeps_take_the_unreachable g.B.HostObject names

pub returns-clause-releases : goal.returns-clause-releases
returns-clause-releases g c = λ names. sweeps.sweeps_are_releases g.B.HostObject names
