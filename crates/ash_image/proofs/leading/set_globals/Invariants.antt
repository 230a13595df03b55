use Rattle.std.proofs.Common.{◌≡◌, length}
use Rattle.ash_image.specs.DeltaViews.{all_indexed}
use Rattle.ash_image.specs.Leading.{AreThere, values_after}
use Rattle.ash_image.proofs.leading.set_globals.Given as goal

abbrev pub invariant-loop-indexed : goal.invariant-loop-indexed
invariant-loop-indexed l = record {
  led : values_after (all_indexed l.listed.items) l.globals.items
      ≡ values_after (all_indexed l.fn.listed.items) l.initial.globals.items;
  there : AreThere (all_indexed l.listed.items) (length l.globals.items);
}

abbrev pub decreases-loop-indexed : goal.decreases-loop-indexed
decreases-loop-indexed l = length l.listed.items
