use Rattle.ash_tree.proofs.Rows.{call_is}
use Rattle.ash_tree.proofs.nodes.call.Goals as goal

pub returns : goal.returns
returns c = record {
  calls_name = rw (← call_is c.args.place c.args.name c.args.arguments) c.expression.ensures.placed;
}
