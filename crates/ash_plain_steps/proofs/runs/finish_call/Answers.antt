use Rattle.std.proofs.Common.{◌∙◌, ap, set}
use Rattle.ash_plain_world.specs.ActivityViews.{world_seen}
use Rattle.ash_requests.specs.OutcomeViews.{end_seen}
use Rattle.ash_requests.specs.Steps.{answered}
use Rattle.ash_plain_steps.specs.declared.state.LoadedModule.{LoadedModule}
use Rattle.ash_plain_steps.specs.StateViews.{modules_seen}
use Rattle.std.proofs.Common.{sym}
use Rattle.ash_plain_steps.proofs.runs.finish_call.Goals as goal

pub returns : goal.returns
returns g c = record {
  value =
      λ m old there e. record {
        globals = ap (λ (v : _). v.items) c.answered.ensures.modules ∙ (c.replace_globals.ensures.value m there).1
            ∙ ap (λ (v : _). let changed : LoadedModule = record m { globals = v } in set c.args.rest.modules.items c.args.place changed) c.replace-globals.ensures.value;
        stepped = c.answered.ensures.stepped old e
            ∙ ap (λ (v : _). answered {Fault = g.S.SourceReader.FaultSeen} (end_seen c.args.end.outcome) (modules_seen v.items) (world_seen c.args.end.world) old) (sym c.answered.ensures.modules);
      };
}
