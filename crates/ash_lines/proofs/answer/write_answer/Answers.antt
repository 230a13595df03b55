use Rattle.std.proofs.Common.{◌++◌}
use Rattle.std.proofs.lemmas.Result.{err_from_is_err_and}
use Rattle.ash_requests.specs.OutcomeViews.{end_seen}
use Rattle.ash_lines.specs.ReplyText.{end_text, seq_text, drops_text}
use Rattle.ash_lines.proofs.SinkLemmas.{fails-more, accepts-fails, writes-then}
use Rattle.ash_lines.proofs.answer.write_answer.Goals as goal

pub returns-in_err-write_outcome : goal.returns-in_err-write_outcome
returns-in_err-write_outcome g c =
    let a = c.args.answer.now in
    let p = err_from_is_err_and c.from_residual.result c.from_residual.ensures.1 in
    record { text = rw p.1 (fails-more g.K.Sink.outlet _ _ (end_text (end_seen a.outcome)) (seq_text a.seq ++ drops_text a.events.items) c.in_err-write_outcome.ensures.text) }

pub returns-in_err-write_seq : goal.returns-in_err-write_seq
returns-in_err-write_seq g c =
    let a = c.args.answer.now in
    let p = err_from_is_err_and c.from_residual-in_err-write_seq.result c.from_residual-in_err-write_seq.ensures.1 in
    record {
      text = rw p.1 (accepts-fails g.K.Sink.outlet g.met.K.Sink.is_outlet _ _ _ (end_text (end_seen a.outcome)) (seq_text a.seq ++ drops_text a.events.items) c.in_ok-write_outcome.ensures.text
          (fails-more g.K.Sink.outlet _ _ (seq_text a.seq) (drops_text a.events.items) c.in_err-write_seq.ensures.text));
    }

pub returns : goal.returns
returns g c =
    let a = c.args.answer.now in
    let drops = rw c.as_slice.ensures.value at c.write_drops.ensures.text in
    record {
      text = writes-then g.K.Sink.outlet g.met.K.Sink.is_outlet _ _ _ (end_text (end_seen a.outcome)) (seq_text a.seq ++ drops_text a.events.items) c.write_drops.result c.in_ok-write_outcome.ensures.text
          (writes-then g.K.Sink.outlet g.met.K.Sink.is_outlet _ _ _ (seq_text a.seq) (drops_text a.events.items) c.write_drops.result c.in_ok-write_seq.ensures.text drops);
    }
