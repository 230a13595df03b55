use Rattle.std.proofs.Common.{sym, ◌∙◌, rules}
use Rattle.ash_plain_world.specs.ActivityViews.{activity_seen}
use Rattle.ash_plain_scripts.specs.EvaluatorViews.{calls_seen}
use Rattle.ash_walked_phrases.specs.WalkedPhrases.{turn_seen}
use Rattle.ash_plain_scripts.proofs.Failing.{fails_onward}
use Rattle.ash_walked_phrases.proofs.Turns.{turns_more}
use Rattle.ash_walked_phrases.proofs.WalkedStatements.{block_follows, declare_follows, switch_follows}
use Rattle.ash_walked_phrases.proofs.Labels.{fall_step}
use Rattle.ash_plain_scripts.proofs.evaluator.Evaluator.+statements.Goals as goal

pub statement-returns-in-Declare : goal.statement-returns-in-Declare
statement-returns-in-Declare g t c = record {
  run =
      rw (declare_follows (calls_seen c.args.self.now) c.args.self.now.depth c.args.stmt.now c.in-Declare.variables (activity_seen c.args.activity.now) c.in-Declare.is) (search rules);
}

pub statement-returns-in-Block : goal.statement-returns-in-Block
statement-returns-in-Block g t c = record {
  run =
      rw (block_follows (calls_seen c.args.self.now) c.args.self.now.depth c.args.stmt.now c.in-Block.body (activity_seen c.args.activity.now) c.in-Block.is) (search rules);
}

pub turns-returns-in_err-flow : goal.turns-returns-in_err-flow
turns-returns-in_err-flow g t c = record {
  run =
      let loop = turn_seen (calls_seen c.args.self.now) c.args.self.now.depth c.args.line c.args.inside.now in
      rw (← c.loop.invariant, turns_more loop c.args.self.now.depth c.loop.counter (activity_seen c.loop.activity) c.loop-test.true) (search (rules, fails_onward));
}

pub turns-returns-in-Some : goal.turns-returns-in-Some
turns-returns-in-Some g t c = record {
  run =
      let loop = turn_seen (calls_seen c.args.self.now) c.args.self.now.depth c.args.line c.args.inside.now in
      rw (← c.loop.invariant, turns_more loop c.args.self.now.depth c.loop.counter (activity_seen c.loop.activity) c.loop-test.true) (search rules);
}

pub turns-loop-preserved : goal.turns-loop-preserved
turns-loop-preserved g t c =
    let loop = turn_seen (calls_seen c.args.self.now) c.args.self.now.depth c.args.line c.args.inside.now in
    sym (turns_more loop c.args.self.now.depth c.loop.counter (activity_seen c.loop.activity) c.loop-test.true ∙ search rules) ∙ c.loop.invariant

pub statement-returns-in-Switch : goal.statement-returns-in-Switch
statement-returns-in-Switch g t c = record {
  run =
      rw (switch_follows (calls_seen c.args.self.now) c.args.self.now.depth c.args.stmt.now c.in-Switch.of c.in-Switch.value c.in-Switch.cases (activity_seen c.args.activity.now) c.in-Switch.is) (search rules);
}

pub fall_through-returns-in_err-flow : goal.fall_through-returns-in_err-flow
fall_through-returns-in_err-flow g t c = record {
  run =
      rw (← c.loop-case.invariant, fall_step (calls_seen c.args.self.now) c.args.self.now.depth c.args.cases.now c.loop-case.case-index c.case-item.result (activity_seen c.loop-case.activity) c.loop-case-test.true c.case-item.is) (search (rules, fails_onward));
}

pub fall_through-returns-in_default : goal.fall_through-returns-in_default
fall_through-returns-in_default g t c = record {
  run =
      rw (← c.loop-case.invariant, fall_step (calls_seen c.args.self.now) c.args.self.now.depth c.args.cases.now c.loop-case.case-index c.case-item.result (activity_seen c.loop-case.activity) c.loop-case-test.true c.case-item.is) (search rules);
}

pub fall_through-loop-case-preserved : goal.fall_through-loop-case-preserved
fall_through-loop-case-preserved g t c =
    sym (fall_step (calls_seen c.args.self.now) c.args.self.now.depth c.args.cases.now c.loop-case.case-index c.case-item.result (activity_seen c.loop-case.activity) c.loop-case-test.true c.case-item.is ∙ search rules) ∙ c.loop-case.invariant
