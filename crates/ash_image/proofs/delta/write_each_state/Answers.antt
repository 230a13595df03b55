use Rattle.std.proofs.Common.{ℕ, List}
use Rattle.ash_image.specs.ObjectBytes.{FitsHost}
use Rattle.ash_image.specs.DeltaViews.{service_state_in}
use Rattle.ash_image.proofs.Listed.{all_map_at}
use Rattle.ash_image.proofs.delta.write_each_state.Goals as goal

pub write_host-requires : goal.write_host-requires
write_host-requires c = record {
  fits = all_map_at (λ (s : ℕ × List ℕ). FitsHost s.0 s.1) service_state_in c.args.services.now c.loop-parts.parts-index _
      c.requires.fits_host c.loop-parts-test.true;
}
