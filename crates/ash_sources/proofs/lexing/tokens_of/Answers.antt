use Rattle.std.proofs.Common.{arith}
use Rattle.ash_lex.specs.Tokens.{lexemes}
use Rattle.ash_sources.specs.Lexing.{IsText}
use Rattle.ash_sources.proofs.LexingLaws.{text_spelled, text_refused}
use Rattle.ash_sources.proofs.lexing.tokens_of.Goals as goal

pub returns-clause-spelled : goal.returns-clause-spelled
returns-clause-spelled c =
    let text = c.in-Ok.ensures.cases in
    let is : IsText c.args.source.now = record { short = omega arith; utf8 = text.1 } in
    text_spelled (λ found. lexemes found.items) c.args.source.now c.in-Ok.text.now is text.0 c.lex.result
    c.lex.ensures.found

pub returns-clause-refused : goal.returns-clause-refused
returns-clause-refused c =
    let text = c.in-Ok.ensures.cases in
    let is : IsText c.args.source.now = record { short = omega arith; utf8 = text.1 } in
    text_refused c.args.source.now c.in-Ok.text.now is text.0 c.lex.result c.lex.ensures.fault
