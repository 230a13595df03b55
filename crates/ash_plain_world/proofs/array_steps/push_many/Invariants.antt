use Rattle.std.proofs.Common.{◌≡◌, ◌++◌, replicate}
use Rattle.ash_plain_world.proofs.array_steps.push_many.Given as goal

abbrev pub invariant-loop : goal.invariant-loop
invariant-loop l = l.words.items ≡ l.fn.words.items ++ replicate l.counter l.word
