use Rattle.std.proofs.lemmas.Result.{err_from_is_err_and}
use Rattle.std.proofs.lemmas.List.{take_rest}
use Rattle.ash_lex.specs.Tokens.{lexemes}
use Rattle.ash_lex.proofs.Reading.{gap_keeps, token_keeps, stops_text}
use Rattle.ash_lex.proofs.lexer.tokens_of.Goals as goal

-- the step's fault is the text's first
pub returns-in_err-len-clause-stopped : goal.returns-in_err-len-clause-stopped
returns-in_err-len-clause-stopped c =
    let p = err_from_is_err_and c.from_residual-in_err-len.result c.from_residual-in_err-len.ensures.1 in
    let here = rw (take_rest c.args.text.now c.loop-at.at) at c.in_err-len.ensures.stops in
    rw (p.1, p.2) (stops_text c.args.text.now c.loop-at.at c.loop-at.line
    (lexemes c.loop-at.tokens.items) c.in_err-len.field-0.0 c.loop-at.invariant here)

pub loop-at-preserved-in-Gap : goal.loop-at-preserved-in-Gap
loop-at-preserved-in-Gap c =
    gap_keeps c.args.text.now _ c.loop-at.at c.loop-at.line c.line_feeds-line.result c.in-Gap.len
    (lexemes c.loop-at.tokens.items) c.in_ok-len.field-0 c.loop-at.invariant
    (take_rest c.args.text.now c.loop-at.at) c.in_ok-len.ensures.passes c.in-Gap.is c.line_feeds-line.ensures.count

pub loop-at-preserved : goal.loop-at-preserved
loop-at-preserved c =
    token_keeps c.args.text.now _ c.loop-at.at c.loop-at.line c.in-Token.len c.in-Token.kind c.loop-at.tokens.items _
    c.in_ok-len.field-0 c.loop-at.invariant (take_rest c.args.text.now c.loop-at.at) c.in_ok-len.ensures.passes
    c.in-Token.is c.in_ok-push-in-Token.ensures.items
