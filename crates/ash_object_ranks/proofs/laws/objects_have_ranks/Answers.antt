use Rattle.ash_object_ranks.proofs.Ranked as ranked
use Rattle.ash_object_ranks.proofs.laws.objects_have_ranks.Goals as goal

pub returns-clause-objects : goal.returns-clause-objects
returns-clause-objects g c = λ host modules ranks all sound have living. ranked.objects_have_ranks sound have living

pub returns-clause-worlds : goal.returns-clause-worlds
returns-clause-worlds g c = λ context ranks w sound have h. ranked.objects_have_ranks sound have h.living

pub returns-clause-activities : goal.returns-clause-activities
returns-clause-activities g c = λ context ranks env envs a sound have h. ranked.objects_have_ranks sound have (h.world).living

pub returns-clause-states : goal.returns-clause-states
returns-clause-states g c = λ embedding host ranks s reads have h. ranked.states_have_ranks embedding host ranks s reads have h
