use Rattle.ash_sources.specs.Sources.{registered_for, embedding_of}
use Rattle.ash_plain_steps.specs.Consistency.{AreConsistent}
use Rattle.ash_state_tests.proofs.rows.check_exchanges.Given as goal

-- the modules so far are what their sources are read as
abbrev pub invariant-loop-line : goal.invariant-loop-line
invariant-loop-line g l = AreConsistent (embedding_of (registered_for l.sources)) l.step.value.state.modules.items
