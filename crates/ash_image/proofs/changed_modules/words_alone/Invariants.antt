use Rattle.std.proofs.Common.{◌≡◌, take}
use Rattle.ash_image.specs.DeltaReading.{words_alone}
use Rattle.ash_image.specs.DeltaViews.{all_indexed}
use Rattle.ash_image.proofs.changed_modules.words_alone.Given as goal

abbrev pub invariant-loop-indexed : goal.invariant-loop-indexed
invariant-loop-indexed l = l.alone.items ≡ words_alone (all_indexed (take l.indexed-index l.words))
