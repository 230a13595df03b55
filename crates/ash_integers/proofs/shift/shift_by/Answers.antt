use Rattle.std.proofs.Common.{◌∙◌}
use Rattle.std.specs.Prelude.{pos}
use Rattle.std.specs.Int.{w32, cast_signed, cast_unsigned}
use Rattle.std.proofs.lemmas.Int.{to_z-of_z}
use Rattle.ash_integers.specs.Integers.{number_of}
use Rattle.ash_integers.specs.declared.int_type.IntType.TheVariants.{Int, Uint64}
use Rattle.ash_integers.proofs.Shifting.{below_32, below_64, shifted_is}
use Rattle.ash_integers.proofs.shift.shift_by.Goals as goal

pub returns-in-Int : goal.returns-in-Int
returns-in-Int c = record {
  shifted =
      rw c.in-Int.is
      (c.shift_int.ensures.value ∙ shifted_is c.args.operator Int c.args.left c.args.count (cast_signed w32 (cast_unsigned w32 c.int.result)) c.count_32.result (to_z-of_z w32 c.int.result (record { sfits = c.int.type_inv }) ∙ c.int.ensures.value) c.count_32.ensures.value (below_32 (number_of c.args.count) c.count_32.result c.count_32.ensures.value));
}

pub returns-in-Uint64 : goal.returns-in-Uint64
returns-in-Uint64 c = record {
  shifted =
      rw c.in-Uint64.is
      (c.shift_uint64.ensures.value ∙ shifted_is c.args.operator Uint64 c.args.left c.args.count (pos c.uint64.result) c.count_64-in-Uint64.result c.uint64.ensures.value c.count_64-in-Uint64.ensures.value (below_64 (number_of c.args.count) c.count_64-in-Uint64.result c.count_64-in-Uint64.ensures.value));
}
