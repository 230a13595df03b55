use Rattle.std.specs.Prelude.{All}
use Rattle.ash_objects.specs.Table.{IsAlive}
use Rattle.ash_bench.specs.Uses.{HasField}
use Rattle.ash_bench.proofs.objects.write_each.Given as goal

abbrev pub invariant-loop-slot : goal.invariant-loop-slot
invariant-loop-slot l = record {
  fields : All (λ slot. HasField l.objects slot) l.slots;
  alive : IsAlive l.word l.objects;
}
