use Rattle.std.proofs.Common.{◌≡◌, sym, ◌∙◌, subst}
use Rattle.std.specs.Prelude.{Option}
use Rattle.std.proofs.lemmas.Result.{IfOk-weaker}
use Rattle.ash_host.specs.declared.word.Word.{Word}
use Rattle.ash_typed.specs.Modules.{module_of}
use Rattle.ash_meaning.specs.Ends.{Finished}
use Rattle.ash_context.specs.declared.outcome.Outcome.TheVariants as outcomes
use Rattle.ash_engine.specs.declared.changes.ModuleChange.TheVariants as changes
use Rattle.ash_engine.specs.TableRuns.{IsAnswered}
use Rattle.ash_engine.proofs.LoadOutcomes.{same_value, abandoned_as}
use Rattle.ash_engine.proofs.loading.finish_ended.Goals as goal

pub returns-in_ok-live-in-Finished-clause-kept : goal.returns-in_ok-live-in-Finished-clause-kept
returns-in_ok-live-in-Finished-clause-kept g c = λ value came.
    let live = c.in_ok-live-in-Finished.live in
    let same : c.in-Finished.value ≡ value = same_value c.in-Finished.value value (sym c.in-Finished.is ∙ came) in
    IfOk-weaker c.answered.result _ _
    (λ one is. (
      live,
      c.in_ok-live-in-Finished.ensures.kept,
      c.in_ok-live-in-Finished.place,
      c.in_ok-live-in-Finished.ensures.there,
      subst (λ (v : Option Word). IsAnswered live (Finished v) c.args.parts.events.items
          (changes.Loaded c.in_ok-live-in-Finished.place) one) same
          (subst (λ (events : _). IsAnswered live (Finished c.in-Finished.value) events.items
          (changes.Loaded c.in_ok-live-in-Finished.place) one) c.in_ok-live-in-Finished.ensures.events is),
    )) c.answered.ensures.answered

pub returns-in_ok-live-in-Finished-clause-abandoned : goal.returns-in_ok-live-in-Finished-clause-abandoned
returns-in_ok-live-in-Finished-clause-abandoned g c = λ other. absurd (other c.in-Finished.value c.in-Finished.is)

pub returns-in-Exception : goal.returns-in-Exception
returns-in-Exception g c =
    let one = outcomes.Exception c.in-Exception.code c.in-Exception.function c.in-Exception.line in
    record {
      kept = λ value came. absurd (let e : one ≡ outcomes.Finished value = sym c.in-Exception.is ∙ came in cc);
      abandoned = λ other. abandoned_as c.args.rest c.args.parts (module_of c.args.new_module.tree)
          c.finish_abandoned.result one c.args.outcome (sym c.in-Exception.is) c.finish_abandoned.ensures.abandoned;
      memory = c.finish_abandoned.ensures.memory;
    }

pub returns-in-Aborted : goal.returns-in-Aborted
returns-in-Aborted g c =
    let one = outcomes.Aborted c.in-Aborted.function c.in-Aborted.line in
    record {
      kept = λ value came. absurd (let e : one ≡ outcomes.Finished value = sym c.in-Aborted.is ∙ came in cc);
      abandoned = λ other. abandoned_as c.args.rest c.args.parts (module_of c.args.new_module.tree)
          c.finish_abandoned-in-Aborted.result one c.args.outcome
          (sym c.in-Aborted.is) c.finish_abandoned-in-Aborted.ensures.abandoned;
      memory = c.finish_abandoned-in-Aborted.ensures.memory;
    }
