use Rattle.std.proofs.Common.{arith}
use Rattle.ash_lines.proofs.WriterLemmas.{wrote_nothing, wrote_more, wrote_failed, slice_rest, slice_length}
use Rattle.ash_lines.proofs.writer.write_out.Goals as goal
use Rattle.ash_lines.proofs.writer.write_out.Goals.{in-Ok, in-Err+else-ne}

pub tries-init : goal.tries-init
tries-init g c = record { within = omega arith; wrote = wrote_nothing _ c.args.bytes.now }

pub tries-preserved : goal.tries-preserved
tries-preserved g c = elim c.match-write.branch [
  | in-Ok w ↦ (let b = rw w.in-Ok.is at c.write.ensures.bound in let l = slice_length c.args.bytes.now c.tries.written in record {
    within = rw w.written-is (omega (arith, b, l, c.tries.invariant.within));
    wrote = rw w.written-is (wrote_more _ _ _ c.args.bytes.now _ c.tries.written _ _ c.tries.invariant.wrote c.write.ensures.bytes w.in-Ok.is (slice_rest c.args.bytes.now c.tries.written));
  })
  | in-Err+else-ne w ↦ record {
    within = rw w.written-is c.tries.invariant.within;
    wrote = rw w.written-is (wrote_failed _ _ _ c.args.bytes.now _ c.tries.written _ _ c.tries.invariant.wrote c.write.ensures.bytes w.in-Err.is);
  }
]
