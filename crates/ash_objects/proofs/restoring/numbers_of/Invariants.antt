use Rattle.std.proofs.Common.{◌≡◌, ◌++◌, ◌≤◌, drop, length, vec_len, vec_capacity}
use Rattle.ash_host.specs.Objects.{numbers}
use Rattle.ash_objects.specs.Restoring.{stored_in}
use Rattle.ash_objects.proofs.restoring.numbers_of.Given as goal

abbrev pub invariant-loop-object : goal.invariant-loop-object
invariant-loop-object l = record {
  rest : l.list.items ++ numbers (stored_in (drop l.object-index l.objects)) ≡ numbers (stored_in l.objects);
  many : vec_len l.list ≡ l.object-index;
  room : length l.objects ≤ vec_capacity l.list;
}
