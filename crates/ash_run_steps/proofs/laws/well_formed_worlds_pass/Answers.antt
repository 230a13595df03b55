use Rattle.ash_object_ranks.specs.ObjectRanks.{rank_at, rank_limit}
use Rattle.ash_object_ranks.proofs.Ranked.{objects_have_ranks}
use Rattle.ash_run_steps.proofs.RankTests.{ranks_pass}
use Rattle.ash_run_steps.proofs.laws.well_formed_worlds_pass.Goals as goal

pub returns-clause-objects : goal.returns-clause-objects
returns-clause-objects c = λ host modules ranks world sound have living.
    ranks_pass (rank_at modules ranks world.objects) rank_limit world.objects (objects_have_ranks sound have living)

pub returns-clause-worlds : goal.returns-clause-worlds
returns-clause-worlds c = λ context ranks world sound have is.
    ranks_pass (rank_at context.modules ranks world.objects) rank_limit world.objects (objects_have_ranks sound have is.living)

pub returns-clause-activities : goal.returns-clause-activities
returns-clause-activities c = λ context ranks env envs activity sound have is.
    ranks_pass (rank_at context.modules ranks (activity.world).objects) rank_limit (activity.world).objects (objects_have_ranks sound have (is.world).living)
