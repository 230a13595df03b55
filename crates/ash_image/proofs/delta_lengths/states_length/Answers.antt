use Rattle.std.proofs.Common.{ℕ, List}
use Rattle.ash_image.specs.ObjectBytes.{FitsHost}
use Rattle.ash_image.specs.DeltaViews.{service_state_in}
use Rattle.ash_image.proofs.Listed.{all_map_at}
use Rattle.ash_image.proofs.delta_lengths.states_length.Goals as goal

pub host_length-total-requires : goal.host_length-total-requires
host_length-total-requires c = record {
  fits_host =
      all_map_at (λ (s : ℕ × List ℕ). FitsHost s.0 s.1) service_state_in c.args.services.now c.loop-parts.parts-index _
      c.requires.fit_states.each c.loop-parts-test.true;
}
