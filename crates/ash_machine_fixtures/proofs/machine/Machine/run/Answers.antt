use Rattle.ash_machine_fixtures.proofs.PlainWords.{all_alive}
use Rattle.ash_machine_fixtures.proofs.machine.Machine.run.Goals as goal

pub run-parts-requires-clause-alive : goal.run-parts-requires-clause-alive
run-parts-requires-clause-alive g c =
    all_alive c.self.inside.parts.table c.args.args.now (c.are_plain.ensures.none c.if-not-are_plain.false)
