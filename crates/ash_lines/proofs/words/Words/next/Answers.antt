use Rattle.std.proofs.Common.{◌∙◌, ap}
use Rattle.ash_lines.specs.LineWords.{words_left}
use Rattle.ash_lines.proofs.LineLemmas.{pieces-at, pieces-none, none-space}
use Rattle.ash_lines.proofs.words.Words.next.Goals as goal

pub returns-in-None : goal.returns-in-None
returns-in-None c = record {
  next = ap words_left c.in_ok-line.was ∙ pieces-none c.in_ok-line.line.now (none-space c.in_ok-line.line.now c.in-None.ensures.first);
}

pub returns-in-Some : goal.returns-in-Some
returns-in-Some c = record { next = ap words_left c.in_ok-line.was ∙ pieces-at c.in_ok-line.line.now c.in-Some.space c.in-Some.ensures.first }
