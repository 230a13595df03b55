use Rattle.std.proofs.Common.{◌≡◌, drop}
use Rattle.ash_image.specs.Delta.{are_apart}
use Rattle.ash_image.proofs.delta.none_among.Given as goal

abbrev pub invariant-loop-number : goal.invariant-loop-number
invariant-loop-number l = are_apart (drop l.number-index l.numbers) l.others ≡ are_apart l.numbers l.others
