use Rattle.std.proofs.Common.{◌≡◌, drop, length}
use Rattle.std.specs.Prelude.{max}
use Rattle.ash_code.specs.declared.code.FunctionCode.{FunctionCode}
use Rattle.ash_code.specs.Sizes as sizes
use Rattle.ash_code.proofs.sizes.longest.Given as goal

abbrev pub invariant-loop-function : goal.invariant-loop-function
invariant-loop-function l =
    sizes.longest l.code
    ≡ max l.longest
    (sizes.most (λ (f : FunctionCode). length (f.instructions).items) (drop l.function-index ((l.code).functions).items))
