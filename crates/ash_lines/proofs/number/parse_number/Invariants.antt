use Rattle.std.proofs.Common.{◌≡◌, ◌<◌, drop}
use Rattle.ash_lines.specs.Lines.{value_after}
use Rattle.ash_lines.proofs.NumberLemmas.{tens}
use Rattle.ash_lines.proofs.number.parse_number.Given as goal

abbrev pub invariant-loop-i : goal.invariant-loop-i
invariant-loop-i l = record {
  value : value_after l.number (drop l.i l.word) ≡ value_after 0 l.word;
  small : l.number < tens l.i;
}
