use Rattle.std.proofs.Common.{take}
use Rattle.ash_host.specs.Objects.{handles}
use Rattle.ash_run_steps.specs.RunStates.{HoldsMore}
use Rattle.ash_run_steps.proofs.counting.hold_words.Given as goal

abbrev pub invariant-loop-word : goal.invariant-loop-word
invariant-loop-word g l = HoldsMore (handles (take l.word-index l.words)) l.initial.table l.table
