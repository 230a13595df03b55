use Rattle.std.proofs.Common.{◌≡◌, ◌++◌, map, drop}
use Rattle.ash_check_names.specs.NameIndex.{texts}
use Rattle.ash_check_names.proofs.name_index.function_names.Given as goal

abbrev pub invariant-loop-function : goal.invariant-loop-function
invariant-loop-function l = texts l.names.items ++ map (λ f. f.name.now) (drop l.function-index l.all) ≡ map (λ f. f.name.now) l.all
