use Rattle.std.proofs.Common.{sym, ◌∙◌, rules}
use Rattle.ash_plain_world.specs.ActivityViews.{activity_seen}
use Rattle.ash_plain_scripts.specs.EvaluatorViews.{calls_seen}
use Rattle.ash_plain_scripts.proofs.Failing.{fails_onward}
use Rattle.ash_plain_scripts.proofs.Initializing.{module_step}
use Rattle.ash_plain_scripts.proofs.evaluator.Evaluator.initialize_module.Goals as goal

pub returns-in_err-initialize_globals : goal.returns-in_err-initialize_globals
returns-in_err-initialize_globals g c = record {
  run =
      rw (← c.loop-declaration.invariant, module_step (calls_seen c.args.self.now) c.loop-declaration.place c.args.declarations.now c.loop-declaration.declaration-index c.declaration-item.result (activity_seen c.loop-declaration.activity) c.loop-declaration-test.true c.declaration-item.is) (search (rules, fails_onward));
}

pub loop-declaration-preserved : goal.loop-declaration-preserved
loop-declaration-preserved g c =
    sym (module_step (calls_seen c.args.self.now) c.loop-declaration.place c.args.declarations.now c.loop-declaration.declaration-index c.declaration-item.result (activity_seen c.loop-declaration.activity) c.loop-declaration-test.true c.declaration-item.is ∙ search rules) ∙ c.loop-declaration.invariant
