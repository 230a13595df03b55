use Rattle.std.proofs.Common.{◌≡◌, drop}
use Rattle.ash_host.specs.Objects.{handles}
use Rattle.ash_machine_fixtures.proofs.machine.are_plain.Given as goal

abbrev pub invariant-loop-word : goal.invariant-loop-word
invariant-loop-word l = handles (drop l.word-index l.words) ≡ handles l.words
