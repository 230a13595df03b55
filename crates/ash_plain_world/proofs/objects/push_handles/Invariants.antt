use Rattle.std.proofs.Common.{◌≡◌, ◌++◌, drop}
use Rattle.ash_host.specs.Objects.{handles}
use Rattle.ash_plain_world.proofs.objects.push_handles.Given as goal

abbrev pub invariant-loop-word : goal.invariant-loop-word
invariant-loop-word l = l.numbers.items ++ handles (drop l.word-index l.words) ≡ l.fn.numbers.items ++ handles l.words
