use Rattle.std.specs.Prelude.{All}
use Rattle.ash_bench.specs.Uses.{HasField, MayBeHeld}
use Rattle.ash_bench.proofs.objects.turns.Given as goal

abbrev pub invariant-loop-call : goal.invariant-loop-call
invariant-loop-call l = record {
  fields : All (λ slot. HasField l.objects slot) l.slots.items;
  held : All (λ slot. MayBeHeld l.objects slot) l.slots.items;
}
