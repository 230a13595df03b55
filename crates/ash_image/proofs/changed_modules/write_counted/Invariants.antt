use Rattle.std.proofs.Common.{◌≡◌, ◌++◌, take}
use Rattle.std.specs.List.{flat_map}
use Rattle.ash_image.specs.Delta.{indexed_word, indexed_from}
use Rattle.ash_image.proofs.changed_modules.write_counted.Given as goal

abbrev pub invariant-loop-index : goal.invariant-loop-index
invariant-loop-index l = l.out.items ≡ l.initial.out.items ++ flat_map indexed_word (indexed_from 0 (take l.index l.words))
