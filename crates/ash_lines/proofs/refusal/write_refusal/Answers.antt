use Rattle.std.proofs.Common.{ℕ, List, subst}
use Rattle.ash_lines.specs.Sink.{Writes}
use Rattle.ash_lines.proofs.RefusalLemmas.{text_by_code, text_by_fault}
use Rattle.ash_lines.proofs.refusal.write_refusal.Goals as goal

pub returns-in-Ok : goal.returns-in-Ok
returns-in-Ok g c = record {
  text = subst (λ (text : List ℕ). Writes g.K.Sink.outlet c.args.output.now text c.write_label.result c.write_label.new.output)
      (text_by_code c.args.refusal.now c.in-Ok.code.now c.in-Ok.ensures.coded) c.write_label.ensures.text;
}

pub returns-in-Err : goal.returns-in-Err
returns-in-Err g c = record {
  text = subst (λ (text : List ℕ). Writes g.K.Sink.outlet c.args.output.now text c.write_fault.result c.write_fault.new.output)
      (text_by_fault c.args.refusal.now c.in-Err.fault.now c.in-Err.ensures.coded) c.write_fault.ensures.text;
}
