use Rattle.std.proofs.Common.{arith}
use Rattle.ash_registrations.proofs.Parameters.{write_next, all_written}
use Rattle.ash_registrations.proofs.text.push_more.Goals as goal

pub loop-primitive-preserved : goal.loop-primitive-preserved
loop-primitive-preserved c =
    write_next _ _ _ _ _ c.args.rest.now c.loop-primitive.primitive-index _ c.loop-primitive-test.true
    c.in_ok-push_str.ensures.bytes c.in_ok-push_str-2.ensures.bytes c.primitive_name.ensures.value c.loop-primitive.invariant

pub returns : goal.returns
returns c = record { value = all_written _ _ c.args.rest.now c.loop-primitive.primitive-index (omega arith) c.loop-primitive.invariant }
