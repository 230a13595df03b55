use Rattle.std.proofs.Common.{◌-◌, length}
use Rattle.ash_lex.specs.Tokens.{lexemes}
use Rattle.ash_lex.proofs.Reading.{IsReadTo}
use Rattle.ash_lex.proofs.lexer.tokens_of.Given as goal

abbrev pub invariant-loop-at : goal.invariant-loop-at
invariant-loop-at l = IsReadTo l.text l.at l.line (lexemes l.tokens.items)

abbrev pub decreases-loop-at : goal.decreases-loop-at
decreases-loop-at l = length l.text - l.at
