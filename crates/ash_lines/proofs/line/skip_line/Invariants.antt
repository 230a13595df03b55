use Rattle.std.proofs.Common.{List, ℕ}
use Rattle.ash_lines.specs.Reading.{ReadsLinePart}
use Rattle.ash_lines.proofs.SourceLemmas.{HasSkipped}
use Rattle.ash_lines.proofs.line.skip_line.Given as goal

abbrev pub invariant-bytes : goal.invariant-bytes
invariant-bytes g l = (bytes : List ℕ) × ReadsLinePart g.S.Source.feed l.initial.input bytes l.input × HasSkipped l.any bytes

abbrev pub decreases-bytes : goal.decreases-bytes
decreases-bytes g l = g.S.Source.feed.allowance l.input
