use Rattle.ash_tree.proofs.Rows.{switch_is}
use Rattle.ash_tree.proofs.nodes.switch.Goals as goal

pub returns : goal.returns
returns c = record {
  cases_in_order =
      rw (← switch_is c.args.place c.args.value c.args.labels) c.statement.ensures.placed;
}
