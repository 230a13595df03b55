use Rattle.std.proofs.Common.{◌≡◌, ◌++◌, ℕ}
use Rattle.std.specs.List.{AllByRecursion}
use Rattle.ash_host.specs.Objects.{Lives}
use Rattle.ash_objects.specs.Restoring.{bodies_of}
use Rattle.ash_table_states.specs.WrittenObjects.{listed_entries}
use Rattle.ash_table_states.proofs.Listed.{bodies_at}
use Rattle.ash_table_states.proofs.parts.listed.Given as goal

-- what is listed so far, with what is left
abbrev pub invariant-loop-number : goal.invariant-loop-number
invariant-loop-number g l = record {
  same : listed_entries l.objects.items ++ bodies_at l.table.objects l.number-iterator ≡ bodies_of l.table.objects;
  alive : AllByRecursion (λ (n : ℕ). Lives l.table.objects n) l.number-iterator;
}
