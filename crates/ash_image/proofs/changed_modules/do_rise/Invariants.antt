use Rattle.std.proofs.Common.{◌≡◌, ◌∷◌, drop, map}
use Rattle.ash_host.specs.Objects.{numbers}
use Rattle.ash_image.specs.Image.{do_rise}
use Rattle.ash_image.specs.DeltaViews.{indexed_of, all_indexed}
use Rattle.ash_image.proofs.changed_modules.do_rise.Given as goal

abbrev pub invariant-loop-word : goal.invariant-loop-word
invariant-loop-word l = do_rise (numbers (indexed_of l.last ∷ map indexed_of (drop l.word-index l.rest)))
    ≡ do_rise (numbers (all_indexed l.fn.words))
