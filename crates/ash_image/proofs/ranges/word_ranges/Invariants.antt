use Rattle.std.proofs.Common.{drop}
use Rattle.std.specs.List.{AllByRecursion}
use Rattle.ash_image.specs.ImageWords.{FitsWord}
use Rattle.ash_image.proofs.ranges.word_ranges.Given as goal

abbrev pub invariant-loop-word : goal.invariant-loop-word
invariant-loop-word l = AllByRecursion FitsWord (drop l.word-index l.words) → AllByRecursion FitsWord l.words
