use Rattle.ash_requests.specs.RequestViews.{field_seen}
use Rattle.ash_lines.specs.ObjectTexts.{field_text}
use Rattle.ash_lines.proofs.ItemLemmas.{WroteUpTo}
use Rattle.ash_lines.proofs.object.write_fields.Given as goal

abbrev pub invariant-loop-field : goal.invariant-loop-field
invariant-loop-field g l = WroteUpTo g.K.Sink.outlet (λ f. field_text (field_seen f)) l.fields l.initial.output l.field-index l.output
