use Rattle.std.proofs.Common.{◌≡◌, ◌<◌, ◌^◌, take}
use Rattle.ash_lex.specs.Bytes.{value_in}
use Rattle.ash_lex.proofs.numbers.value_in.Given as goal

-- the value of the digits so far
abbrev pub invariant-loop-digit : goal.invariant-loop-digit
invariant-loop-digit l = record {
  fits : l.value < 2 ^ 64;
  so_far : l.value ≡ value_in l.base (take l.digit-index l.digits);
}
