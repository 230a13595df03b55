use Rattle.ash_typed.proofs.StatementRows.{switch_is}
use Rattle.ash_typed.proofs.nodes.switch.Goals as goal

pub returns : goal.returns
returns c = record { cases_in_order = switch_is c.args.line c.args.int_type c.args.value c.args.labels }
