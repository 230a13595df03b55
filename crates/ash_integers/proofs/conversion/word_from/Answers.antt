use Rattle.std.proofs.Common.{rules}
use Rattle.std.specs.Int.{int_wrap}
use Rattle.ash_integers.proofs.conversion.word_from.Goals as goal

pub returns-in-Int : goal.returns-in-Int
unfolding int_wrap
returns-in-Int c = record { low_bits = search rules }

pub returns-in-Int64 : goal.returns-in-Int64
unfolding int_wrap
returns-in-Int64 c = record { low_bits = search rules }
