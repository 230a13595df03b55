use Rattle.std.proofs.Common.{arith}
use Rattle.ash_lex.specs.Tokens.{lexemes}
use Rattle.ash_lex.proofs.Verdict.{rising, only, fault, refused}
use Rattle.ash_lex.proofs.lexer.lex.Goals as goal

pub returns-clause-rising : goal.returns-clause-rising
returns-clause-rising c =
    rising (λ tokens. lexemes tokens.items) c.tokens_of.result c.args.text.now
    (rw c.as_bytes.ensures.value at c.tokens_of.ensures.tokens)

pub returns-clause-only : goal.returns-clause-only
returns-clause-only c tokens has_tokens small =
    only (λ answered. lexemes answered.items) c.tokens_of.result c.args.text.now
    (rw c.as_bytes.ensures.value at c.tokens_of.ensures.tokens)
    (rw c.as_bytes.ensures.value at c.tokens_of.ensures.stopped) tokens has_tokens

pub returns-clause-fault : goal.returns-clause-fault
returns-clause-fault c =
    fault c.tokens_of.result c.args.text.now (omega arith) (rw c.as_bytes.ensures.value at c.tokens_of.ensures.stopped)

pub returns-clause-refused : goal.returns-clause-refused
returns-clause-refused c first is small =
    refused (λ answered. lexemes answered.items) c.tokens_of.result c.args.text.now
    (rw c.as_bytes.ensures.value at c.tokens_of.ensures.tokens)
    (rw c.as_bytes.ensures.value at c.tokens_of.ensures.stopped) first is
