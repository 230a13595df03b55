use Rattle.std.proofs.Common.{◌≡◌, take, true}
use Rattle.std.specs.List.{list_all}
use Rattle.ash_run_steps.specs.RunStates.{is_alive_in}
use Rattle.ash_run_steps.proofs.counting.are_alive.Given as goal

abbrev pub invariant-loop-word : goal.invariant-loop-word
invariant-loop-word g l = list_all (λ word. is_alive_in word l.table) (take l.word-index l.words) ≡ true
