use Rattle.std.proofs.Common.{sym}
use Rattle.ash_lex.proofs.Reading.{read_mark, read_nothing}
use Rattle.ash_lex.proofs.lexer.mark_len.Goals as goal

pub returns-then-starts_with-clause-passed : goal.returns-then-starts_with-clause-passed
returns-then-starts_with-clause-passed c = read_mark c.args.text.now (sym c.if-starts_with.ensures.value)

pub returns-else-starts_with-clause-passed : goal.returns-else-starts_with-clause-passed
returns-else-starts_with-clause-passed c = read_nothing c.args.text.now (sym c.if-starts_with.ensures.value)
