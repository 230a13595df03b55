use Rattle.ash_lines.proofs.WordLemmas.{utf8-word}
use Rattle.ash_lines.proofs.request_line.word_str.Goals as goal

pub unreachable-requires : goal.unreachable-requires
unreachable-requires c = c.in-Err.ensures.cases.0 (utf8-word c.args.word.now c.requires.word)
