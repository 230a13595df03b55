use Rattle.std.proofs.Common.{refl}
use Rattle.std.proofs.lemmas.Result.{err_from_is_err_and}
use Rattle.ash_lines.specs.ObjectTexts.{element_text}
use Rattle.ash_lines.proofs.ItemLemmas.{wrote-none, wrote-more, wrote-failed, wrote-all}
use Rattle.ash_lines.proofs.object.write_elements.Goals as goal

pub loop-element-init : goal.loop-element-init
loop-element-init g c = wrote-none g.K.Sink.outlet g.met.K.Sink.is_outlet element_text c.args.elements.now c.args.output.now

pub returns-in_err-write_element : goal.returns-in_err-write_element
returns-in_err-write_element g c =
    let p = err_from_is_err_and c.from_residual.result c.from_residual.ensures.1 in
    record { text = rw p.1 (wrote-failed g.K.Sink.outlet g.met.K.Sink.is_outlet element_text c.args.elements.now _ _ _ c.loop-element.element-index _ _ c.loop-element.invariant c.in_err-write_element.ensures.text c.loop-element-test.true refl) }

pub loop-element-preserved : goal.loop-element-preserved
loop-element-preserved g c =
    wrote-more g.K.Sink.outlet g.met.K.Sink.is_outlet element_text c.args.elements.now _ _ _ c.loop-element.element-index _ _ c.loop-element.invariant c.in_ok-write_element.ensures.text c.loop-element-test.true refl

pub returns : goal.returns
returns g c = record { text = wrote-all g.K.Sink.outlet element_text c.args.elements.now _ _ c.loop-element.element-index c.loop-element.invariant c.loop-element-test.false }
