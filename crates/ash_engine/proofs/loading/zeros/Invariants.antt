use Rattle.std.proofs.Common.{◌≡◌, ◌++◌, map, drop}
use Rattle.ash_typed.specs.Modules.{variables_of}
use Rattle.ash_typed.specs.Signatures.{types_of_globals}
use Rattle.ash_meaning.specs.OperatorMeaning.{zero_of}
use Rattle.ash_engine.proofs.loading.zeros.Given as goal

abbrev pub invariant-loop-declaration : goal.invariant-loop-declaration
invariant-loop-declaration l =
    l.words.items ++ map zero_of (types_of_globals (map variables_of (drop l.declaration-index l.declarations))) ≡ map
    zero_of (types_of_globals (map variables_of l.declarations))
