use Rattle.ash_lines.proofs.WordLemmas.{left_or_none}
use Rattle.ash_lines.proofs.words.Words.is_empty.Goals as goal

pub returns : goal.returns
returns c = record { empty = left_or_none c.args.self.now.rest c.is_none.result c.is_none.ensures }
