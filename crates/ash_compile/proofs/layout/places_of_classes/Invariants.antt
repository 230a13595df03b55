use Rattle.std.proofs.Common.{◌≡◌, ℕ, ◌+◌, ◌<◌, length, map, Some, slice_get}
use Rattle.ash_typed.specs.Modules.{interface_of}
use Rattle.ash_compile.specs.Layout.{interfaces_before}
use Rattle.ash_compile.proofs.layout.places_of_classes.Given as goal

abbrev pub invariant-loop-class : goal.invariant-loop-class
invariant-loop-class l =
    (length (l.places).items ≡ l.class)
    × ((k : ℕ) → k < l.class → slice_get (l.places).items k ≡ Some
    (k + interfaces_before k (map interface_of l.interfaces)))
