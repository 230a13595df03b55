use Rattle.std.proofs.Common.{◌≤◌, length, vec_capacity}
use Rattle.ash_lines.specs.Lines.{max_line_bytes}
use Rattle.ash_lines.specs.Reading.{ReadsLinePart}
use Rattle.ash_lines.proofs.line.read_line.Given as goal

abbrev pub invariant-bytes : goal.invariant-bytes
invariant-bytes g l = record {
  read : ReadsLinePart g.S.Source.feed l.initial.input l.line.items l.input;
  short : length l.line.items ≤ max_line_bytes;
  room : max_line_bytes ≤ vec_capacity l.line;
}

abbrev pub decreases-bytes : goal.decreases-bytes
decreases-bytes g l = g.S.Source.feed.allowance l.input
