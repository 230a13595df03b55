use Rattle.std.proofs.Common.{List, Ok, sym, subst}
use Rattle.std.proofs.lemmas.Result.{err_from_is_err_and}
use Rattle.ash_lex.specs.Tokens.{lexemes}
use Rattle.ash_lex.specs.declared.tokens.Token.{Token}
use Rattle.ash_sources.specs.Lexing.{Lexes}
use Rattle.ash_sources.proofs.ScriptAnswers.{tokens_refused, script_spelled, script_unspelled}
use Rattle.ash_sources.proofs.parsing.script_of.Goals as goal

pub returns-in_err-tokens-clause-refused : goal.returns-in_err-tokens-clause-refused
returns-in_err-tokens-clause-refused c =
    let p = err_from_is_err_and c.from_residual.result c.from_residual.ensures.1 in
    rw (p.1, p.2) (tokens_refused c.args.source.now _ c.in_err-tokens.ensures.refused)

pub returns-clause-spelled : goal.returns-clause-spelled
returns-clause-spelled c =
    let lexed : Lexes c.args.source.now (Ok (lexemes c.deref.result.now)) =
    subst (λ (ts : List Token). Lexes c.args.source.now (Ok (lexemes ts))) (sym c.deref.ensures.value)
    c.in_ok-tokens.ensures.spelled in
    script_spelled c.args.source.now (lexemes c.deref.result.now) lexed c.script_with_tokens.result
    c.script_with_tokens.ensures.derived

pub returns-clause-refused : goal.returns-clause-refused
returns-clause-refused c =
    let lexed : Lexes c.args.source.now (Ok (lexemes c.deref.result.now)) =
    subst (λ (ts : List Token). Lexes c.args.source.now (Ok (lexemes ts))) (sym c.deref.ensures.value)
    c.in_ok-tokens.ensures.spelled in
    script_unspelled c.args.source.now (lexemes c.deref.result.now) lexed c.script_with_tokens.result
    c.script_with_tokens.ensures.refused
