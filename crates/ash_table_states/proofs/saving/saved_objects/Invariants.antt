use Rattle.std.proofs.Common.{◌≡◌, ◌++◌, ℕ, List, map}
use Rattle.std.specs.List.{AllByRecursion}
use Rattle.ash_host.specs.Objects.{Plain}
use Rattle.ash_plain_data.specs.ObjectViews.{entry_seen}
use Rattle.ash_plain_steps.specs.StateViews.{modules_seen}
use Rattle.ash_states.specs.Indexes.{index_in, entry_indexed, IsPlainIndexed}
use Rattle.ash_table_states.specs.SavedObjects.{entry_saved}
use Rattle.ash_table_states.proofs.saving.saved_objects.Given as goal

-- what is saved so far, with what is left
abbrev pub invariant-loop-number : goal.invariant-loop-number
invariant-loop-number l = record {
  same : map entry_saved l.saved.items ++ map (entry_indexed (index_in (modules_seen l.modules))) (map entry_seen l.number-iterator)
      ≡ map (entry_indexed (index_in (modules_seen l.modules))) l.objects;
  indexed : AllByRecursion (λ (e : ℕ × Plain (List ℕ)). IsPlainIndexed (modules_seen l.modules) e.1) (map entry_seen l.number-iterator);
}
