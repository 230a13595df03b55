use Rattle.std.proofs.Common.{◌≡◌, ◌+◌, length}
use Rattle.std.specs.Option.{option_map}
use Rattle.ash_lex.specs.Scan.{comment_end}
use Rattle.ash_lex.proofs.pieces.comment_end.Given as goal

-- the end is as far after what was passed as it is in the rest
abbrev pub invariant-loop-rest : goal.invariant-loop-rest
invariant-loop-rest l = record {
  passed : l.before + length l.rest ≡ length l.text;
  end_is : option_map (λ n. n + l.before) (comment_end l.rest) ≡ comment_end l.text;
}

abbrev pub decreases-loop-rest : goal.decreases-loop-rest
decreases-loop-rest l = length l.rest
