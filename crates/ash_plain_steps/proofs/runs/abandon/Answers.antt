use Rattle.std.proofs.Common.{List, [], ◌∙◌, ap}
use Rattle.ash_host.specs.declared.word.Word.{Word}
use Rattle.ash_meaning.specs.Activity.{World}
use Rattle.ash_meaning.specs.Releases.{sweep}
use Rattle.ash_plain_world.specs.ActivityViews.{world_seen}
use Rattle.ash_requests.specs.OutcomeViews.{end_seen}
use Rattle.ash_requests.specs.Steps.{answered}
use Rattle.ash_plain_steps.specs.StateViews.{modules_seen}
use Rattle.ash_plain_steps.proofs.runs.abandon.Goals as goal

pub returns-clause-stepped : goal.returns-clause-stepped
returns-clause-stepped g c old e =
    c.answered.ensures.stepped old e
    ∙ ap (λ (w : World). answered {Fault = g.S.SourceReader.FaultSeen} (end_seen c.args.outcome) (modules_seen c.args.rest.modules.items) w old)
    (c.in_ok-give_up_frames.ensures.swept
    ∙ ap (λ (l : List Word). let w : World = record (world_seen c.args.world) { globals = l } in sweep [] w) c.new.ensures.items)
