use Rattle.std.proofs.Common.{subst, ap, ◌∙◌, rules, string_bytes, Option}
use Rattle.ash_meaning.specs.Activity.{Activity}
use Rattle.ash_meaning.specs.MeaningLaws.{initialized}
use Rattle.ash_meaning.specs.Ends.{Outcome, outcome_of}
use Rattle.ash_plain_data.specs.ClassViews.{program_seen}
use Rattle.ash_plain_world.specs.ActivityViews.{world_seen, activity_seen}
use Rattle.ash_plain_scripts.specs.Entering.{without_value}
use Rattle.ash_plain_scripts.specs.EndViews.{EndsAs}
use Rattle.ash_plain_scripts.proofs.Loading.{load_is}
use Rattle.ash_plain_scripts.proofs.ends.load_module.Goals as goal

pub returns : goal.returns
returns c =
    let ends = c.finish.ensures.outcome (without_value (initialized (program_seen c.args.program.now) c.args.budget (activity_seen c.begun-activity.result))) (c.no_value.ensures.outcome (initialized (program_seen c.args.program.now) c.args.budget (activity_seen c.begun-activity.result)) (activity_seen c.initialize-run.new.activity) c.initialize-run.ensures.run) in
    let begins = ap (λ (a : Activity). outcome_of (without_value (initialized (program_seen c.args.program.now) c.args.budget a))) c.begun-activity.ensures.value in
    let loads = load_is (program_seen c.args.program.now) c.args.budget (world_seen c.args.world) c.in_ok-world.field-0.items (string_bytes c.in_ok-from_str.field-0) c.new.result.items c.new-2.result.items (search rules) (search rules) (search rules) (search rules) in
    record { outcome = subst (λ (o : Option Outcome). EndsAs c.finish.result o) (begins ∙ loads) ends }
