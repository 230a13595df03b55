use Rattle.std.proofs.Common.{◌∷◌, []}
use Rattle.std.proofs.lemmas.Result.{err_from_is_err_and}
use Rattle.ash_sources.specs.SourceFaults.{fault_of}
use Rattle.ash_lines.specs.RefusalTexts.{fault_text}
use Rattle.ash_lines.proofs.SinkLemmas.{fails-more, writes_line-then}
use Rattle.ash_lines.proofs.reply.write_fault_line.Goals as goal

pub returns-in_err-write_fault : goal.returns-in_err-write_fault
returns-in_err-write_fault g c =
    let p = err_from_is_err_and c.from_residual.result c.from_residual.ensures.1 in
    record { line = rw p.1 (fails-more g.K.Sink.outlet _ _ (fault_text (fault_of c.args.fault.now)) (10 ∷ []) c.in_err-write_fault.ensures.text) }

pub returns : goal.returns
returns g c = record {
  line = writes_line-then g.K.Sink.outlet g.met.K.Sink.is_outlet _ _ _ (fault_text (fault_of c.args.fault.now)) (10 ∷ []) c.end_line.result c.in_ok-write_fault.ensures.text c.end_line.ensures.line;
}
