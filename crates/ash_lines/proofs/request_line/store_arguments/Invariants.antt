use Rattle.std.proofs.Common.{◌≡◌, ◌≤◌, ◌+◌, length, vec_capacity}
use Rattle.ash_lines.specs.Lines.{max_arguments, arguments_of}
use Rattle.ash_lines.specs.LineWords.{words_left}
use Rattle.ash_lines.proofs.WordLemmas.{prepend}
use Rattle.ash_lines.proofs.request_line.store_arguments.Given as goal

abbrev pub invariant-loop-word : goal.invariant-loop-word
invariant-loop-word l = record {
  stored : arguments_of (words_left l.initial.words.rest) ≡ prepend l.arguments.items (arguments_of (words_left l.words.rest));
  short : length l.arguments.items + length (words_left l.words.rest) ≤ max_arguments;
  room : max_arguments ≤ vec_capacity l.arguments;
}

abbrev pub decreases-loop-word : goal.decreases-loop-word
decreases-loop-word l = length (words_left l.words.rest)
