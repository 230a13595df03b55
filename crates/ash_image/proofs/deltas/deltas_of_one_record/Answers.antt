use Rattle.ash_image.proofs.DeltasLaws.{one_spelling, deltas_short}
use Rattle.ash_image.proofs.deltas.deltas_of_one_record.Goals as goal

pub returns : goal.returns
returns c = record { one = one_spelling; short = deltas_short }
