-- Code that converts an integer to another type, or needn't.
use Rattle.std.specs.Prelude.{◌≡◌, ℕ}
use Rattle.ash_integers.specs.declared.int_type.IntType.{IntType}
use Rattle.ash_code.specs.declared.instruction.Instruction.TheVariants as i
use Rattle.ash_compile.specs.declared.builder.Written.{Written}
use Rattle.ash_compile.specs.Emission.{Puts}

-- Between equal types there is no code; else an instruction converts the value of a slot.
pub data Converts (old new : Written) (from to : IntType) (slot : ℕ) : Type 0 where
  needless : from ≡ to → new ≡ old → Converts old new from to slot
  converts : Puts old new slot (i.Convert to slot slot) → Converts old new from to slot
