use Rattle.ash_bench.proofs.Tables.{has_field_still, alive_still}
use Rattle.ash_bench.proofs.objects.write_each.Goals as goal

pub loop-slot-preserved : goal.loop-slot-preserved
loop-slot-preserved c =
    let old = c.loop-slot.objects in
    let here = c.loop-slot.invariant.fields c.loop-slot.slot-index 0 c.loop-slot-test.true in
    let now = c.set_field_at.ensures.written here.0 here.1 in
    record {
      fields = λ k d within. rw now (has_field_still here.0 c.args.word _ old (c.loop-slot.invariant.fields k d within));
      alive = rw now (alive_still here.0 c.args.word c.args.word old c.loop-slot.invariant.alive);
    }
