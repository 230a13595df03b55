use Rattle.std.proofs.Common.{◌≡◌, ◌≤◌, ◌*◌, ◌^◌, length, take}
use Rattle.std.specs.List.{flat_map}
use Rattle.ash_image.specs.Image.{service}
use Rattle.ash_image.specs.DeltaViews.{service_states_in}
use Rattle.ash_image.proofs.delta_lengths.states_length.Given as goal

abbrev pub invariant-loop-parts : goal.invariant-loop-parts
invariant-loop-parts l = record {
  exact : l.total ≡ length (flat_map service (service_states_in (take l.parts-index l.services)));
  most : l.total ≤ 2 ^ 11 * l.parts-index;
}
