use Rattle.std.proofs.Common.{arith}
use Rattle.ash_image.specs.DeltaViews.{delta_of}
use Rattle.ash_image.proofs.DeltaLaws.{put_rises}
use Rattle.ash_image.proofs.delta.delta_of.Goals as goal

pub are_apart-requires : goal.are_apart-requires
are_apart-requires c = record {
  rising =
      rw c.deref-2.ensures.value
      (put_rises c.args.version c.args.bytes.now (delta_of c.in_ok-delta.delta, c.in_ok-delta.rest.now)
      (λ i. omega (arith, c.type_inv.bytes i)) c.in_ok-delta.ensures.field);
}
