use Rattle.std.proofs.Common.{arith}
use Rattle.ash_image.specs.NamedViews.{object_seen}
use Rattle.ash_image.proofs.LeadingLaws.{gone_next, all_gone}
use Rattle.ash_image.proofs.leading.remove_objects.Goals as goal

pub loop-number-preserved : goal.loop-number-preserved
loop-number-preserved c = λ n.
    gone_next object_seen c.loop-number.objects c.remove.new.self c.args.gone.now c.loop-number.number-index _ n _
    c.loop-number-test.true c.remove.ensures.updates.0 (c.loop-number.invariant n)

pub returns : goal.returns
returns c = record {
  gone = λ n. all_gone object_seen c.loop-number.objects c.args.gone.now c.loop-number.number-index n _ (omega arith)
      (c.loop-number.invariant n);
}
