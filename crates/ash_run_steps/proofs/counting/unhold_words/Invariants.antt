use Rattle.std.proofs.Common.{take}
use Rattle.ash_host.specs.Objects.{handles}
use Rattle.ash_run_steps.specs.RunStates.{HoldsLess}
use Rattle.ash_run_steps.proofs.counting.unhold_words.Given as goal

abbrev pub invariant-loop-word : goal.invariant-loop-word
invariant-loop-word g l = HoldsLess (handles (take l.word-index l.words)) l.initial.table l.table
