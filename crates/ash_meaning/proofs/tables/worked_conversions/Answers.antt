use Rattle.std.proofs.Common.{refl}
use Rattle.ash_meaning.proofs.Computing.{computing}
use Rattle.ash_meaning.proofs.tables.worked_conversions.Goals as goal

pub returns-clause-to_int : goal.returns-clause-to_int
unfolding computing
returns-clause-to_int c = refl

pub returns-clause-to_uint : goal.returns-clause-to_uint
unfolding computing
returns-clause-to_uint c = refl

pub returns-clause-to_int64 : goal.returns-clause-to_int64
unfolding computing
returns-clause-to_int64 c = refl

pub returns-clause-to_uint64 : goal.returns-clause-to_uint64
unfolding computing
returns-clause-to_uint64 c = refl
