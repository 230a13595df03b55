use Rattle.std.proofs.Common.{sym}
use Rattle.std.proofs.lemmas.Result.{err_from_is_err_and}
use Rattle.ash_requests.specs.RequestViews.{field_seen}
use Rattle.ash_lines.specs.ObjectTexts.{field_text}
use Rattle.ash_lines.proofs.ItemLemmas.{wrote-none, wrote-more, wrote-failed, wrote-all, seen-text}
use Rattle.ash_lines.proofs.object.write_fields.Goals as goal

pub loop-field-init : goal.loop-field-init
loop-field-init g c = wrote-none g.K.Sink.outlet g.met.K.Sink.is_outlet (λ f. field_text (field_seen f)) c.args.fields.now c.args.output.now

pub returns-in_err-write_field : goal.returns-in_err-write_field
returns-in_err-write_field g c =
    let p = err_from_is_err_and c.from_residual.result c.from_residual.ensures.1 in
    record { text = rw (p.1, seen-text field_seen field_text c.args.fields.now) (wrote-failed g.K.Sink.outlet g.met.K.Sink.is_outlet (λ f. field_text (field_seen f)) c.args.fields.now _ _ _ c.loop-field.field-index c.field-item.result c.field-item.result c.loop-field.invariant (rw c.as_str.ensures.value at c.in_err-write_field.ensures.text) c.loop-field-test.true (sym c.field-item.is)) }

pub loop-field-preserved : goal.loop-field-preserved
loop-field-preserved g c =
    wrote-more g.K.Sink.outlet g.met.K.Sink.is_outlet (λ f. field_text (field_seen f)) c.args.fields.now _ _ _ c.loop-field.field-index c.field-item.result c.field-item.result c.loop-field.invariant (rw c.as_str.ensures.value at c.in_ok-write_field.ensures.text) c.loop-field-test.true (sym c.field-item.is)

pub returns : goal.returns
returns g c = record { text = rw (seen-text field_seen field_text c.args.fields.now) (wrote-all g.K.Sink.outlet (λ f. field_text (field_seen f)) c.args.fields.now _ _ c.loop-field.field-index c.loop-field.invariant c.loop-field-test.false) }
