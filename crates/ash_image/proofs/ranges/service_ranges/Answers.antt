use Rattle.std.proofs.Common.{arith}
use Rattle.std.specs.Prelude.{ℕ, ◌<◌, ◌^◌, List}
use Rattle.ash_image.specs.ImageObjectViews.{service_of}
use Rattle.ash_image.proofs.Ranging.{holds_more, holds_all}
use Rattle.ash_image.proofs.ranges.service_ranges.Goals as goal

pub loop-service-preserved : goal.loop-service-preserved
loop-service-preserved c =
    holds_more (λ (s : ℕ × List ℕ). s.0 < 2 ^ 16) service_of c.args.services.now c.loop-service.service-index
    c.service-item.result _ c.loop-service-test.true c.service-item.is c.service_range.ensures.ranged c.loop-service.invariant

pub returns : goal.returns
returns c = record {
  ranged = holds_all (λ (s : ℕ × List ℕ). s.0 < 2 ^ 16) service_of c.args.services.now c.loop-service.service-index _
      (omega arith) c.loop-service.invariant;
}
