use Rattle.std.proofs.Common.{◌≡◌}
use Rattle.ash_image.proofs.IndexedLaws.{counted_on}
use Rattle.ash_image.proofs.changed_modules.are_all.Given as goal

abbrev pub invariant-loop-index : goal.invariant-loop-index
invariant-loop-index l = counted_on l.words l.index ≡ counted_on l.words 0
