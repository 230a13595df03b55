use Rattle.std.proofs.Common.{◌≡◌, sym, ◌∙◌}
use Rattle.std.specs.Prelude.{Option}
use Rattle.ash_host.specs.declared.word.Word.{Word}
use Rattle.ash_typed.specs.Modules.{module_of}
use Rattle.ash_context.specs.declared.outcome.Outcome.TheVariants as outcomes
use Rattle.ash_engine.proofs.LoadOutcomes.{same_outcome, no_fault, on_error, abandoned_as}
use Rattle.ash_engine.proofs.loading.finish_load.Goals as goal

pub returns-in-Ok : goal.returns-in-Ok
returns-in-Ok g c = record {
  kept = λ value came. c.finish_ended.ensures.kept value
      (same_outcome c.args.left.outcome c.in-Ok.outcome (outcomes.Finished value) c.in-Ok.is came);
  abandoned =
      λ outcome came other.
      let same : c.in-Ok.outcome ≡ outcome = same_outcome c.args.left.outcome c.in-Ok.outcome outcome c.in-Ok.is came in
      abandoned_as c.args.rest c.args.left.parts (module_of c.args.new_module.tree) c.finish_ended.result
      c.in-Ok.outcome outcome same
      (c.finish_ended.ensures.abandoned (λ value is. other value (sym same ∙ is)));
  refused = λ came. absurd (no_fault c.args.left.outcome c.in-Ok.outcome _ c.in-Ok.is came);
  begun = on_error c.finish_ended.result (λ came. no_fault c.args.left.outcome c.in-Ok.outcome _ c.in-Ok.is came);
  lost = λ came. absurd (no_fault c.args.left.outcome c.in-Ok.outcome _ c.in-Ok.is came);
  never = λ came. absurd (no_fault c.args.left.outcome c.in-Ok.outcome _ c.in-Ok.is came);
  memory = c.finish_ended.ensures.memory;
}
