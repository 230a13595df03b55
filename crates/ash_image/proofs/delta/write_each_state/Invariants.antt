use Rattle.std.proofs.Common.{◌≡◌, ◌++◌, take}
use Rattle.std.specs.List.{flat_map}
use Rattle.ash_image.specs.Image.{service}
use Rattle.ash_image.specs.DeltaViews.{service_states_in}
use Rattle.ash_image.proofs.delta.write_each_state.Given as goal

abbrev pub invariant-loop-parts : goal.invariant-loop-parts
invariant-loop-parts l = l.out.items
    ≡ l.initial.out.items ++ flat_map service (service_states_in (take l.parts-index l.services))
