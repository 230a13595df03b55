use Rattle.std.proofs.Common.{rules, ap}
use Rattle.ash_serve.proofs.CheckRunLemmas.{file_checked}
use Rattle.ash_serve.proofs.program.check.check_file.Goals as goal

pub returns : goal.returns
returns g c = record {
  checks = file_checked g.R.Read.remaining g.W.Write.contents _ c.in_ok-input.input c.check_script-result.new.input c.new-output.result c.check_script-result.new.output _ c.check_script-result.result _ _
      c.in_ok-input.ensures.left c.in_ok-input.ensures.allowance c.new-output.ensures.buffered (ap (λ y. y.now) c.new-output.ensures.writer) (λ e. let n = ap (λ y. y.ghost_name) c.into_writer-lent.ensures.same_writer in let v = ap (λ y. y.now) c.into_writer-lent.ensures.same_writer in let b = ap (λ y. y.ghost_name) c.new-output.ensures.writer in search rules) c.check_script-result.ensures.checks;
}
