use Rattle.ash_tree.proofs.Rows.{block_is}
use Rattle.ash_tree.proofs.nodes.block.Goals as goal

pub returns : goal.returns
returns c = record {
  body_in_order = rw (← block_is c.args.place c.args.body) c.statement.ensures.placed;
}
