-- The fields of a class, with more after them.
use Rattle.std.proofs.Common.{◌≡◌, List, ◌++◌, map}
use Rattle.std.proofs.lemmas.List.{map-append}
use Rattle.ash_typed.specs.declared.tree.statements.Initialization as code_initialization
use Rattle.ash_typed.specs.BodyViews.{value_of}

pub values_append : (xs ys : List code_initialization.Initialization) → map value_of (xs ++ ys) ≡ map value_of xs ++ map value_of ys
values_append xs ys = map-append value_of xs ys
