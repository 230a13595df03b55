use Rattle.std.proofs.Common.{◌≡◌, ◌++◌, take}
use Rattle.std.specs.List.{flat_map}
use Rattle.ash_image.specs.Delta.{indexed_word}
use Rattle.ash_image.specs.DeltaViews.{all_indexed}
use Rattle.ash_image.proofs.changed_modules.write_each.Given as goal

abbrev pub invariant-loop-indexed : goal.invariant-loop-indexed
invariant-loop-indexed l = l.out.items
    ≡ l.initial.out.items ++ flat_map indexed_word (all_indexed (take l.indexed-index l.words))
