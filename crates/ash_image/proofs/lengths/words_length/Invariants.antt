use Rattle.std.proofs.Common.{◌≡◌, ◌≤◌, ◌*◌, length, take}
use Rattle.std.specs.List.{flat_map}
use Rattle.ash_image.specs.ImageWords.{word}
use Rattle.ash_image.proofs.lengths.words_length.Given as goal

abbrev pub invariant-loop-word : goal.invariant-loop-word
invariant-loop-word l = record {
  exact : l.total ≡ length (flat_map word (take l.word-index l.words));
  most : l.total ≤ 9 * l.word-index;
}
