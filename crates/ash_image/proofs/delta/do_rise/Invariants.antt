use Rattle.std.proofs.Common.{◌≡◌, ◌∷◌, drop}
use Rattle.ash_image.specs.Image.{do_rise}
use Rattle.ash_image.proofs.delta.do_rise.Given as goal

abbrev pub invariant-loop-number : goal.invariant-loop-number
invariant-loop-number l = do_rise (l.last ∷ drop l.number-index l.numbers) ≡ do_rise (0 ∷ l.fn.numbers)
