use Rattle.ash_class_cycles.proofs.RankLaws.{typed_refers, typed_ranks}
use Rattle.ash_class_cycles.proofs.ranks.typed_ranks_fall.Goals as goal

pub returns-clause-refers : goal.returns-clause-refers
returns-clause-refers c = typed_refers

pub returns-clause-ranks : goal.returns-clause-ranks
returns-clause-ranks c = typed_ranks
