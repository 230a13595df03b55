use Rattle.std.proofs.Common.{refl}
use Rattle.ash_meaning.proofs.Computing.{computing}
use Rattle.ash_meaning.proofs.tables.worked_int64_table.Goals as goal

pub returns-clause-products : goal.returns-clause-products
unfolding computing
returns-clause-products c = refl

pub returns-clause-quotients : goal.returns-clause-quotients
unfolding computing
returns-clause-quotients c = refl

pub returns-clause-remainders : goal.returns-clause-remainders
unfolding computing
returns-clause-remainders c = refl

pub returns-clause-sums : goal.returns-clause-sums
unfolding computing
returns-clause-sums c = refl

pub returns-clause-differences : goal.returns-clause-differences
unfolding computing
returns-clause-differences c = refl

pub returns-clause-shifted_left : goal.returns-clause-shifted_left
unfolding computing
returns-clause-shifted_left c = refl

pub returns-clause-shifted_right : goal.returns-clause-shifted_right
unfolding computing
returns-clause-shifted_right c = refl

pub returns-clause-shifted_with_sign : goal.returns-clause-shifted_with_sign
unfolding computing
returns-clause-shifted_with_sign c = refl

pub returns-clause-ands : goal.returns-clause-ands
unfolding computing
returns-clause-ands c = refl

pub returns-clause-exclusive_ors : goal.returns-clause-exclusive_ors
unfolding computing
returns-clause-exclusive_ors c = refl

pub returns-clause-ors : goal.returns-clause-ors
unfolding computing
returns-clause-ors c = refl
