use Rattle.ash_tree.proofs.Rows.{method_is}
use Rattle.ash_tree.proofs.nodes.method.Goals as goal

pub returns : goal.returns
returns c = record { calls_method = method_is c.args.place c.args.name c.args.arguments }
