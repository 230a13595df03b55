use Rattle.std.proofs.Common.{◌≡◌, ◌++◌, ℕ, List, map}
use Rattle.std.specs.List.{AllByRecursion}
use Rattle.ash_host.specs.Objects.{Plain}
use Rattle.ash_plain_data.specs.ObjectViews.{entry_seen}
use Rattle.ash_plain_steps.specs.StateViews.{modules_seen}
use Rattle.ash_image.specs.SnapshotViews.{objects_in}
use Rattle.ash_states.specs.Indexes.{index_in, entry_indexed, IsPlainIndexed}
use Rattle.ash_states.specs.Writing.{HavePartKinds}
use Rattle.ash_states.proofs.parts.object_parts.Given as goal

-- what is listed so far, with what is left
abbrev pub invariant-loop-number : goal.invariant-loop-number
invariant-loop-number l = record {
  same : objects_in l.parts.items ++ map (entry_indexed (index_in (modules_seen l.modules))) (map entry_seen l.number-iterator)
      ≡ map (entry_indexed (index_in (modules_seen l.modules))) l.objects;
  indexed : AllByRecursion (λ (e : ℕ × Plain (List ℕ)). IsPlainIndexed (modules_seen l.modules) e.1) (map entry_seen l.number-iterator);
  kinds : HavePartKinds l.parts.items;
}
