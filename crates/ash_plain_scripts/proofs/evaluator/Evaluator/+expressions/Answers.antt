use Rattle.std.proofs.Common.{sym, ◌∙◌, rules}
use Rattle.ash_plain_world.specs.ActivityViews.{activity_seen}
use Rattle.ash_plain_scripts.specs.EvaluatorViews.{calls_seen}
use Rattle.ash_plain_scripts.proofs.Failing.{fails_onward}
use Rattle.ash_walked_phrases.proofs.WalkedExpressions.{path_follows, chain_follows, lazy_follows, call_follows, invoke_follows, arguments_begin, arguments_step, arguments_end}
use Rattle.ash_plain_scripts.proofs.evaluator.Evaluator.+expressions.Goals as goal

pub expression-returns-in-Path : goal.expression-returns-in-Path
expression-returns-in-Path g t c = record {
  run =
      rw (path_follows (calls_seen c.args.self.now) c.args.expr.now.kind.value c.in-Path.base c.in-Path.links (activity_seen c.args.activity.now) (sym c.deref.ensures ∙ c.in-Path.is)) (search rules);
}

pub expression-returns-in-Chain : goal.expression-returns-in-Chain
expression-returns-in-Chain g t c = record {
  run =
      rw (chain_follows (calls_seen c.args.self.now) c.args.expr.now.kind.value c.in-Chain.first c.in-Chain.operands (activity_seen c.args.activity.now) (sym c.deref.ensures ∙ c.in-Chain.is)) (search rules);
}

pub expression-returns-in-Lazy : goal.expression-returns-in-Lazy
expression-returns-in-Lazy g t c = record {
  run =
      rw (lazy_follows (calls_seen c.args.self.now) c.args.expr.now.kind.value c.in-Lazy.operator c.in-Lazy.first c.in-Lazy.others (activity_seen c.args.activity.now) (sym c.deref.ensures ∙ c.in-Lazy.is)) (search rules);
}

pub expression-returns-in-Call : goal.expression-returns-in-Call
expression-returns-in-Call g t c = record {
  run =
      rw (call_follows (calls_seen c.args.self.now) c.args.expr.now.kind.value c.in-Call.target _ c.in-Call.arguments (activity_seen c.args.activity.now) (sym c.deref.ensures ∙ c.in-Call.is)) (search rules);
}

pub link-returns-in-Invoke : goal.link-returns-in-Invoke
link-returns-in-Invoke g t c = record {
  run =
      rw (invoke_follows (calls_seen c.args.self.now) c.args.link.now c.in-Invoke.method _ c.in-Invoke.arguments c.args.handle (activity_seen c.args.activity.now) c.in-Invoke.is) (search rules);
}

pub arguments-loop-expr-init : goal.arguments-loop-expr-init
arguments-loop-expr-init g t c = search (rules, arguments_begin)

pub arguments-returns-in_err-word : goal.arguments-returns-in_err-word
arguments-returns-in_err-word g t c = record {
  run =
      rw (← c.loop-expr.invariant, arguments_step (calls_seen c.args.self.now) c.loop-expr.words.items c.args.all.now c.loop-expr.expr-index c.expr-item.result (activity_seen c.loop-expr.activity) c.loop-expr-test.true c.expr-item.is) (search (rules, fails_onward));
}

pub arguments-loop-expr-preserved : goal.arguments-loop-expr-preserved
arguments-loop-expr-preserved g t c =
    sym (arguments_step (calls_seen c.args.self.now) c.loop-expr.words.items c.args.all.now c.loop-expr.expr-index c.expr-item.result (activity_seen c.loop-expr.activity) c.loop-expr-test.true c.expr-item.is ∙ search rules) ∙ c.loop-expr.invariant

pub arguments-returns : goal.arguments-returns
arguments-returns g t c = record {
  run =
      sym c.loop-expr.invariant ∙ arguments_end (calls_seen c.args.self.now) c.loop-expr.words.items c.args.all.now c.loop-expr.expr-index (activity_seen c.loop-expr.activity) c.loop-expr-test.false;
}
