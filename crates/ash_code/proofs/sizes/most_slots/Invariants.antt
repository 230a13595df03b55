use Rattle.std.proofs.Common.{◌≡◌, drop}
use Rattle.std.specs.Prelude.{max}
use Rattle.ash_code.specs.declared.code.FunctionCode.{FunctionCode}
use Rattle.ash_code.specs.Sizes as sizes
use Rattle.ash_code.proofs.sizes.most_slots.Given as goal

abbrev pub invariant-loop-function : goal.invariant-loop-function
invariant-loop-function l =
    sizes.most_slots l.code
    ≡ max l.most (sizes.most (λ (f : FunctionCode). f.slots) (drop l.function-index ((l.code).functions).items))
