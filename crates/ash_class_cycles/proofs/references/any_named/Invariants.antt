use Rattle.std.proofs.Common.{◌≡◌, drop, map}
use Rattle.std.specs.List.{Any}
use Rattle.ash_tree.specs.TreeViews.{type_name_of}
use Rattle.ash_class_cycles.proofs.references.any_named.Given as goal

abbrev pub invariant-loop-interface : goal.invariant-loop-interface
invariant-loop-interface l =
    Any (λ i. i.name ≡ l.name) (map type_name_of l.interfaces)
    → Any (λ i. i.name ≡ l.name) (map type_name_of (drop l.interface-index l.interfaces))
