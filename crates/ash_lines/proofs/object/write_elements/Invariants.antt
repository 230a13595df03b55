use Rattle.ash_lines.specs.ObjectTexts.{element_text}
use Rattle.ash_lines.proofs.ItemLemmas.{WroteUpTo}
use Rattle.ash_lines.proofs.object.write_elements.Given as goal

abbrev pub invariant-loop-element : goal.invariant-loop-element
invariant-loop-element g l = WroteUpTo g.K.Sink.outlet element_text l.elements l.initial.output l.element-index l.output
