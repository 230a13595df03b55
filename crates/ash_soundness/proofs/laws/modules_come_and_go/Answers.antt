use Rattle.ash_soundness.proofs.Modules as modules
use Rattle.ash_soundness.proofs.laws.modules_come_and_go.Goals as goal

pub returns-clause-more : goal.returns-clause-more
returns-clause-more g = modules.more_modules_keep

pub returns-clause-fewer : goal.returns-clause-fewer
returns-clause-fewer g = modules.fewer_modules_keep

pub returns-clause-own : goal.returns-clause-own
returns-clause-own g = modules.values_are_of_their_module

pub returns-clause-others : goal.returns-clause-others
returns-clause-others g = modules.values_keep_their_types
