use Rattle.std.proofs.Common.{◌≡◌, ◌∙◌, sym, ap, true, false, length, arith}
use Rattle.ash_lines.specs.LineWords.{is_none_left}
use Rattle.ash_lines.proofs.WordLemmas.{parse_line-bad, parse_line-good, pieces-left, length-pieces}
use Rattle.ash_lines.proofs.request_line.parse_line.Goals as goal

pub returns-then-not-is_all_words-clause-parsed : goal.returns-then-not-is_all_words-clause-parsed
returns-then-not-is_all_words-clause-parsed c =
    parse_line-bad c.args.line.now (sym c.if-not-is_all_words.true ∙ c.is_all_words.ensures.words)

pub returns-in-None-clause-parsed : goal.returns-in-None-clause-parsed
returns-in-None-clause-parsed c =
    let e = sym c.of-words.ensures.pieces ∙ c.in-None.ensures.next in
    let f = sym (pieces-left c.args.line.now) ∙ ap is_none_left e in
    absurd (let q : false ≡ true = f in cc)

pub parse_verb-requires-clause-short : goal.parse_verb-requires-clause-short
parse_verb-requires-clause-short c =
    let e = ap length (sym c.of-words.ensures.pieces ∙ c.in-Some.ensures.next) in
    omega (arith, e, c.requires.short, length-pieces c.args.line.now)

pub returns-in-Some-clause-parsed : goal.returns-in-Some-clause-parsed
returns-in-Some-clause-parsed c =
    c.parse_verb.ensures.parsed
    ∙ parse_line-good c.args.line.now _ (sym c.if-not-is_all_words.false ∙ c.is_all_words.ensures.words)
    (sym c.of-words.ensures.pieces ∙ c.in-Some.ensures.next)
