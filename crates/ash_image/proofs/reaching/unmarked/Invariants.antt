use Rattle.std.proofs.Common.{◌≡◌, false, replicate}
use Rattle.ash_image.proofs.reaching.unmarked.Given as goal

abbrev pub invariant-loop : goal.invariant-loop
invariant-loop l = l.marked.items ≡ replicate l.counter false
