use Rattle.std.proofs.Common.{◌≡◌, length}
use Rattle.std.specs.List.{list_all}
use Rattle.ash_lines.specs.Lines.{is_word}
use Rattle.ash_lines.specs.LineWords.{words_left}
use Rattle.ash_lines.proofs.words.is_all_words.Given as goal

abbrev pub invariant-loop-word : goal.invariant-loop-word
invariant-loop-word l = list_all is_word (words_left l.initial.words.rest) ≡ list_all is_word (words_left l.words.rest)

abbrev pub decreases-loop-word : goal.decreases-loop-word
decreases-loop-word l = length (words_left l.words.rest)
