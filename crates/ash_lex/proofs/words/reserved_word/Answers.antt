use Rattle.std.proofs.Common.{◌∙◌}
use Rattle.ash_lex.proofs.WordTables.{reserved_word-from}
use Rattle.ash_lex.proofs.words.reserved_word.Goals as goal

pub returns-in-len1-up : goal.returns-in-len1-up
returns-in-len1-up c = record {
  which =
      c.reserved_word_among.ensures.value
      ∙ reserved_word-from c.args.bytes.now c.reserved_words_from.result.now c.in-len1-up.len_at_least
      c.reserved_words_from.ensures.value;
}
