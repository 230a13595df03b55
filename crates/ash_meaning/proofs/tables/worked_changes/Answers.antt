use Rattle.std.proofs.Common.{refl}
use Rattle.ash_meaning.proofs.Computing.{computing}
use Rattle.ash_meaning.proofs.tables.worked_changes.Goals as goal

pub returns-clause-of_int : goal.returns-clause-of_int
unfolding computing
returns-clause-of_int c = refl

pub returns-clause-of_uint : goal.returns-clause-of_uint
unfolding computing
returns-clause-of_uint c = refl

pub returns-clause-of_int64 : goal.returns-clause-of_int64
unfolding computing
returns-clause-of_int64 c = refl

pub returns-clause-of_uint64 : goal.returns-clause-of_uint64
unfolding computing
returns-clause-of_uint64 c = refl
