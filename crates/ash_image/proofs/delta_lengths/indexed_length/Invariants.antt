use Rattle.std.proofs.Common.{◌≡◌, ◌≤◌, ◌*◌, length, take}
use Rattle.std.specs.List.{flat_map}
use Rattle.ash_image.specs.Delta.{indexed_word}
use Rattle.ash_image.specs.DeltaViews.{all_indexed}
use Rattle.ash_image.proofs.delta_lengths.indexed_length.Given as goal

abbrev pub invariant-loop-indexed : goal.invariant-loop-indexed
invariant-loop-indexed l = record {
  exact : l.total ≡ length (flat_map indexed_word (all_indexed (take l.indexed-index l.words)));
  most : l.total ≤ 11 * l.indexed-index;
}
