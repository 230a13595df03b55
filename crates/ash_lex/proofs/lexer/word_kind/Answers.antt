use Rattle.std.proofs.Common.{sym}
use Rattle.ash_lex.proofs.NameText.{name_is_text, ok_unless}
use Rattle.ash_lex.proofs.WordLookups.{reserved_word-is, unsupported_word-is}
use Rattle.ash_lex.proofs.lexer.word_kind.Goals as goal

pub returns-in-Some-clause-meaning : goal.returns-in-Some-clause-meaning
returns-in-Some-clause-meaning c = reserved_word-is c.args.word.now c.in-Some.reserved (sym c.in-Some.ensures.which)

pub returns-in-Some-unsupported_word-clause-meaning : goal.returns-in-Some-unsupported_word-clause-meaning
returns-in-Some-unsupported_word-clause-meaning c =
    unsupported_word-is c.args.word.now c.in-Some-unsupported_word.unsupported (sym c.in-Some-unsupported_word.ensures.which)

-- a name is text
pub unwrap-name-requires : goal.unwrap-name-requires
unwrap-name-requires c =
    ok_unless c.from_utf8.result _ _ c.from_utf8.ensures.cases (λ e h. h.0 (name_is_text c.args.word.now c.requires.name))
