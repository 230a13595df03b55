use Rattle.std.proofs.Common.{◌≡◌, ◌≤◌, ℕ, ◌+◌, refl, sym, ap, ◌∙◌, arith}
use Rattle.ash_compile.proofs.Layouts.{counted_all, counted_yes, counted_no}
use Rattle.ash_compile.proofs.layout.count_before.Goals as goal
use Rattle.ash_compile.proofs.layout.count_before.Goals.{then-interface-class, else-interface-class}

pub loop-interface-preserved : goal.loop-interface-preserved
loop-interface-preserved c =
    let here = c.loop-interface in
    let item = c.interface-item in
    elim c.if-interface-class.branch [
      | then-interface-class w ↦ (
        omega arith,
        w.count-is
            ∙ counted_yes c.args.class here.interface-index here.count c.args.interfaces.now item.result
            c.loop-interface-test.true
            item.is w.if-interface-class.true here.invariant.1,
      )
      | else-interface-class w ↦ (
        omega arith,
        w.count-is
            ∙ counted_no c.args.class here.interface-index here.count c.args.interfaces.now item.result
            c.loop-interface-test.true
            item.is w.if-interface-class.false here.invariant.1,
      )
    ]

pub returns : goal.returns
returns c = record {
  count = c.loop-interface.invariant.1
      ∙ counted_all c.args.class c.loop-interface.interface-index c.args.interfaces.now c.loop-interface-test.false;
  few = omega arith;
}
