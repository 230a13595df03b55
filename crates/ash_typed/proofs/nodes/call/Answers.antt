use Rattle.ash_typed.proofs.Rows.{call_is, of_kind}
use Rattle.ash_typed.proofs.nodes.call.Goals as goal

pub returns : goal.returns
returns c = record {
  calls_target = of_kind _ _ c.new.result c.new.ensures.of_kind (call_is c.args.target c.args.parameters c.args.arguments);
}
