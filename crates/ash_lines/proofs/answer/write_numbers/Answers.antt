use Rattle.std.proofs.Common.{refl}
use Rattle.std.proofs.lemmas.Result.{err_from_is_err_and}
use Rattle.ash_lines.specs.ReplyText.{drop_text}
use Rattle.ash_lines.proofs.ItemLemmas.{wrote-none, wrote-more, wrote-failed, wrote-all}
use Rattle.ash_lines.proofs.answer.write_numbers.Goals as goal

pub loop-event-init : goal.loop-event-init
loop-event-init g c = wrote-none g.K.Sink.outlet g.met.K.Sink.is_outlet drop_text c.args.events.now c.args.output.now

pub returns-in_err-write_drop : goal.returns-in_err-write_drop
returns-in_err-write_drop g c =
    let p = err_from_is_err_and c.from_residual.result c.from_residual.ensures.1 in
    record { text = rw p.1 (wrote-failed g.K.Sink.outlet g.met.K.Sink.is_outlet drop_text c.args.events.now _ _ _ c.loop-event.event-index _ _ c.loop-event.invariant c.in_err-write_drop.ensures.text c.loop-event-test.true refl) }

pub loop-event-preserved : goal.loop-event-preserved
loop-event-preserved g c =
    wrote-more g.K.Sink.outlet g.met.K.Sink.is_outlet drop_text c.args.events.now _ _ _ c.loop-event.event-index _ _ c.loop-event.invariant c.in_ok-write_drop.ensures.text c.loop-event-test.true refl

pub returns : goal.returns
returns g c = record { text = wrote-all g.K.Sink.outlet drop_text c.args.events.now _ _ c.loop-event.event-index c.loop-event.invariant c.loop-event-test.false }
