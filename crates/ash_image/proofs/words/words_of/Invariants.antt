use Rattle.std.proofs.Common.{◌≡◌, ◌-◌}
use Rattle.ash_image.specs.Fields.{times_at}
use Rattle.ash_image.specs.ImageWords.{word_at}
use Rattle.ash_image.proofs.ItemLoop.{with_prefix}
use Rattle.ash_image.proofs.words.words_of.Given as goal

abbrev pub invariant-loop : goal.invariant-loop
invariant-loop l = with_prefix l.words.items (times_at word_at (l.count - l.counter) l.rest)
    ≡ times_at word_at l.count l.bytes
