use Rattle.std.proofs.Common.{refl}
use Rattle.ash_meaning.proofs.Computing.{computing}
use Rattle.ash_meaning.proofs.outcomes.worked_point_examples.Goals as goal

pub returns-clause-each_statement : goal.returns-clause-each_statement
unfolding computing
returns-clause-each_statement c = refl

pub returns-clause-each_member : goal.returns-clause-each_member
unfolding computing
returns-clause-each_member c = refl

pub returns-clause-each_turn : goal.returns-clause-each_turn
unfolding computing
returns-clause-each_turn c = refl

pub returns-clause-head : goal.returns-clause-head
unfolding computing
returns-clause-head c = refl

pub returns-clause-each_step : goal.returns-clause-each_step
unfolding computing
returns-clause-each_step c = refl

pub returns-clause-assignment : goal.returns-clause-assignment
unfolding computing
returns-clause-assignment c = refl

pub returns-clause-assigned_to_itself : goal.returns-clause-assigned_to_itself
unfolding computing
returns-clause-assigned_to_itself c = refl

pub returns-clause-blocks_of_a_switch : goal.returns-clause-blocks_of_a_switch
unfolding computing
returns-clause-blocks_of_a_switch c = refl

pub returns-clause-returned_value : goal.returns-clause-returned_value
unfolding computing
returns-clause-returned_value c = refl

pub returns-clause-blocks_of_a_frame : goal.returns-clause-blocks_of_a_frame
unfolding computing
returns-clause-blocks_of_a_frame c = refl

pub returns-clause-body : goal.returns-clause-body
unfolding computing
returns-clause-body c = refl

pub returns-clause-parameter : goal.returns-clause-parameter
unfolding computing
returns-clause-parameter c = refl

pub returns-clause-aborted_frames : goal.returns-clause-aborted_frames
unfolding computing
returns-clause-aborted_frames c = refl

pub returns-clause-held_outside : goal.returns-clause-held_outside
unfolding computing
returns-clause-held_outside c = refl
