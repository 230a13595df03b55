use Rattle.std.proofs.Common.{◌≡◌, ℕ, ◌+◌, ◌<◌, length, map, Some, slice_get}
use Rattle.ash_typed.specs.Modules.{class_of}
use Rattle.ash_compile.specs.Layout.{methods_before}
use Rattle.ash_compile.proofs.layout.first_methods.Given as goal

abbrev pub invariant-loop-class : goal.invariant-loop-class
invariant-loop-class l =
    (length (l.methods).items ≡ l.class-index)
    × (l.next ≡ l.first + methods_before l.class-index (map class_of l.classes))
    × ((k : ℕ) → k < l.class-index
    → slice_get (l.methods).items k ≡ Some (l.first + methods_before k (map class_of l.classes)))
