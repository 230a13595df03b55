use Rattle.ash_meaning.proofs.Numbers as numbers
use Rattle.ash_meaning.proofs.laws.numbers_live_once.Goals as goal

pub returns : goal.returns
returns c = record { once = λ first last t numbered. numbers.along t numbered }
