use Rattle.std.proofs.Common.{◌≡◌, drop}
use Rattle.std.specs.Prelude.{nat_lt}
use Rattle.std.specs.List.{list_all}
use Rattle.ash_image.specs.DeltaViews.{all_indexed}
use Rattle.ash_image.proofs.leading.are_globals_there.Given as goal

abbrev pub invariant-loop-indexed : goal.invariant-loop-indexed
invariant-loop-indexed l = list_all (λ e. nat_lt e.0 l.count) (all_indexed (drop l.indexed-index l.listed))
    ≡ list_all (λ e. nat_lt e.0 l.count) (all_indexed l.listed)
