use Rattle.ash_typed.proofs.StatementRows.{block_is}
use Rattle.ash_typed.proofs.nodes.block.Goals as goal

pub returns : goal.returns
returns c = record { body_in_order = block_is c.args.line c.args.body }
