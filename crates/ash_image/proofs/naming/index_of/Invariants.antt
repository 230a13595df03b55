use Rattle.std.proofs.Common.{◌≡◌, ◌+◌, length, map, string_bytes}
use Rattle.std.specs.BTreeMap.{btree_map_len}
use Rattle.ash_image.specs.Leading.{index_among, index_of_name}
use Rattle.ash_image.specs.NamedViews.{modules_seen}
use Rattle.ash_image.proofs.naming.index_of.Given as goal

-- the index among the names that are left, and how many are left
abbrev pub invariant-loop-key : goal.invariant-loop-key
invariant-loop-key l = record {
  found : l.index + index_among (map string_bytes l.key-iterator) l.name ≡ index_of_name (modules_seen l.modules) l.name;
  left : l.index + length l.key-iterator ≡ btree_map_len l.modules;
}
