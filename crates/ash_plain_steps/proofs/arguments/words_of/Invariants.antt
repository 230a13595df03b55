use Rattle.std.proofs.Common.{◌≡◌, ◌++◌, drop, option_map}
use Rattle.ash_requests.specs.Tasks.{arguments_of}
use Rattle.ash_plain_steps.proofs.arguments.words_of.Given as goal

-- the words so far, and those of what is left
abbrev pub invariant-loop-place : goal.invariant-loop-place
invariant-loop-place l = option_map (λ more. l.words.items ++ more) (arguments_of (drop l.place l.parameters) (drop l.place l.arguments)) ≡ arguments_of l.parameters l.arguments
