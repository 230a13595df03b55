use Rattle.std.proofs.Common.{◌≡◌, drop}
use Rattle.std.specs.Prelude.{is_some}
use Rattle.ash_requests.specs.Tasks.{arguments_of}
use Rattle.ash_plain_steps.proofs.arguments.are_held.Given as goal

abbrev pub invariant-loop-place : goal.invariant-loop-place
invariant-loop-place l = is_some (arguments_of (drop l.place l.parameters) (drop l.place l.arguments)) ≡ is_some (arguments_of l.parameters l.arguments)
