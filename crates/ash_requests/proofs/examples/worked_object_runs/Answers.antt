use Rattle.std.proofs.Common.{refl}
use Rattle.ash_requests.proofs.Computing.{computing}
use Rattle.ash_requests.proofs.examples.worked_object_runs.Goals as goal

pub returns-clause-right_side_first : goal.returns-clause-right_side_first
unfolding computing
returns-clause-right_side_first c = refl

pub returns-clause-assigned_to_itself : goal.returns-clause-assigned_to_itself
unfolding computing
returns-clause-assigned_to_itself c = refl

pub returns-clause-empty_pool : goal.returns-clause-empty_pool
unfolding computing
returns-clause-empty_pool c = refl

pub returns-clause-through_null : goal.returns-clause-through_null
unfolding computing
returns-clause-through_null c = refl

pub returns-clause-shown_with_snapshot : goal.returns-clause-shown_with_snapshot
unfolding computing
returns-clause-shown_with_snapshot c = refl

pub returns-clause-counts : goal.returns-clause-counts
unfolding computing
returns-clause-counts c = refl

pub returns-clause-two_modules : goal.returns-clause-two_modules
unfolding computing
returns-clause-two_modules c = refl

pub returns-clause-let_go_early : goal.returns-clause-let_go_early
unfolding computing
returns-clause-let_go_early c = refl
