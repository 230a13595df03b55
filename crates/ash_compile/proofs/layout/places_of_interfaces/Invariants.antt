use Rattle.std.proofs.Common.{◌≡◌, ℕ, ◌+◌, ◌<◌, length, map, Some, slice_get}
use Rattle.ash_typed.specs.Modules.{interface_of}
use Rattle.ash_compile.specs.Layout.{classes_before}
use Rattle.ash_compile.proofs.layout.places_of_interfaces.Given as goal

abbrev pub invariant-loop-index : goal.invariant-loop-index
invariant-loop-index l =
    (length (l.places).items ≡ l.index)
    × ((k : ℕ) → k < l.index → slice_get (l.places).items k ≡ Some
    (k + classes_before k (map interface_of l.interfaces)))
