use Rattle.std.proofs.Common.{◌≡◌, map, drop}
use Rattle.ash_tree.specs.TreeViews.{item_of}
use Rattle.ash_type_rules.specs.ItemRules as definition
use Rattle.ash_check_names.specs.EnvironmentViews.{environment_of}
use Rattle.ash_check.specs.WalkViews.{names_of, walked_of}
use Rattle.ash_check.proofs.items.check_more_items.Given as goal

-- the outcome of what is left is that of the whole
abbrev pub invariant-loop-item : goal.invariant-loop-item
invariant-loop-item l = definition.check_items (environment_of l.env) (walked_of (names_of l.names) l.typed) (map item_of (drop l.item-index l.items)) ≡ definition.check_items (environment_of l.env) (walked_of (names_of l.initial.names) l.initial.typed) (map item_of l.items)
