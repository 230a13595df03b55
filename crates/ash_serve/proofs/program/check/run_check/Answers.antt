use Rattle.std.proofs.Common.{sym, subst}
use Rattle.ash_registry.specs.RegistryViews.{registered}
use Rattle.ash_serve.specs.CheckRun.{EndsCheck, check_state}
use Rattle.ash_serve.specs.declared.program.ending.ProgramEnd.{ProgramEnd}
use Rattle.ash_serve.proofs.CheckRunLemmas.{ends_check}
use Rattle.ash_serve.proofs.program.check.run_check.Goals as goal

pub returns : goal.returns
returns g c = record {
  ends = subst (λ (end : ProgramEnd). EndsCheck (registered c.args.registry.now) (check_state (g.R.Read.remaining c.args.reader) (g.W.Write.contents c.args.writer.now)) end (g.W.Write.contents c.check_file.new.writer)) (sym c.by.ensures.end)
      (ends_check _ _ _ c.check_file.result c.check_file.ensures.checks);
}
