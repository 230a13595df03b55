use Rattle.std.proofs.Common.{◌∙◌}
use Rattle.ash_lex.proofs.WordTables.{unsupported_word-from}
use Rattle.ash_lex.proofs.words.unsupported_word.Goals as goal

pub returns-in-len1-up : goal.returns-in-len1-up
returns-in-len1-up c = record {
  which =
      c.unsupported_word_among.ensures.value
      ∙ unsupported_word-from c.args.bytes.now c.unsupported_words_from.result.now c.in-len1-up.len_at_least
      c.unsupported_words_from.ensures.value;
}
