use Rattle.std.proofs.Common.{refl}
use Rattle.ash_meaning.proofs.Computing.{computing}
use Rattle.ash_meaning.proofs.tables.worked_comparisons.Goals as goal

pub returns-clause-of_int : goal.returns-clause-of_int
unfolding computing
returns-clause-of_int c = refl

pub returns-clause-of_uint : goal.returns-clause-of_uint
unfolding computing
returns-clause-of_uint c = refl

pub returns-clause-of_int64 : goal.returns-clause-of_int64
unfolding computing
returns-clause-of_int64 c = refl

pub returns-clause-of_uint64 : goal.returns-clause-of_uint64
unfolding computing
returns-clause-of_uint64 c = refl

pub returns-clause-equal_truths : goal.returns-clause-equal_truths
unfolding computing
returns-clause-equal_truths c = refl

pub returns-clause-different_truths : goal.returns-clause-different_truths
unfolding computing
returns-clause-different_truths c = refl

pub returns-clause-exclusive_truths : goal.returns-clause-exclusive_truths
unfolding computing
returns-clause-exclusive_truths c = refl
