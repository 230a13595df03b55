use Rattle.std.proofs.Common.{◌≡◌, ◌++◌, map, drop}
use Rattle.ash_typed.specs.BodyViews.{value_of}
use Rattle.ash_typed.specs.Signatures.{type_declared}
use Rattle.ash_meaning.specs.OperatorMeaning.{zero_of}
use Rattle.ash_engine.proofs.loading.push_zeros.Given as goal

abbrev pub invariant-loop-global : goal.invariant-loop-global
invariant-loop-global l =
    l.words.items ++ map zero_of (map type_declared (map value_of (drop l.global-index l.globals))) ≡ l.fn.words.items
    ++ map zero_of (map type_declared (map value_of l.globals))
