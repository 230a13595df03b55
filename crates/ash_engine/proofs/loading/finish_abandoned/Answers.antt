use Rattle.std.proofs.Common.{subst}
use Rattle.std.proofs.lemmas.Result.{IfOk-weaker}
use Rattle.ash_meaning.specs.Ends.{End}
use Rattle.ash_engine.specs.declared.changes.ModuleChange.TheVariants as changes
use Rattle.ash_engine.specs.TableRuns.{IsAnswered}
use Rattle.ash_engine.proofs.loading.finish_abandoned.Goals as goal

pub returns-in-Ok-clause-abandoned : goal.returns-in-Ok-clause-abandoned
returns-in-Ok-clause-abandoned g c = IfOk-weaker c.answered.result _ _
    (λ one is. (
      c.in-Ok.live,
      c.in-Ok.events.items,
      c.in-Ok.ensures.abandoned,
      subst (λ (end : End). IsAnswered c.in-Ok.live end c.in-Ok.events.items changes.Unchanged one)
          c.in_ok-outcome.ensures.end is,
    )) c.answered.ensures.answered
