use Rattle.std.proofs.Common.{◌≡◌, true, false}
use Rattle.ash_registry.proofs.Meanings.{declares_it, declared_by_tokens}
use Rattle.ash_registry.proofs.texts.parse_whole.Goals as goal

pub returns-in-Ok-clause-declared : goal.returns-in-Ok-clause-declared
returns-in-Ok-clause-declared c = declares_it c.args.text.now c.args.tokens.now _ c.requires.lexed c.in-Ok.ensures.derived

pub returns-in-Err-2-clause-declared : goal.returns-in-Err-2-clause-declared
returns-in-Err-2-clause-declared c = λ d h.
    let e = c.in-Err.ensures.only d (declared_by_tokens c.args.text.now c.args.tokens.now d c.requires.lexed h) in
    let t : c.ran_out.result ≡ true = c.ran_out.ensures.exact.1 e in
    let f : c.ran_out.result ≡ false = c.if-ran_out.false in
    cc
