use Rattle.std.proofs.Common.{◌≡◌, ◌++◌, map, drop}
use Rattle.ash_check_names.specs.NameIndex.{texts}
use Rattle.ash_check_names.proofs.name_index.variable_names.Given as goal

abbrev pub invariant-loop-variable : goal.invariant-loop-variable
invariant-loop-variable l = texts l.names.items ++ map (λ v. v.name.now) (drop l.variable-index l.all) ≡ map (λ v. v.name.now) l.all
