use Rattle.std.proofs.Common.{◌≡◌, ◌++◌, map, drop}
use Rattle.ash_check_names.specs.NameIndex.{texts}
use Rattle.ash_check_names.proofs.name_index.interface_names.Given as goal

abbrev pub invariant-loop-interface : goal.invariant-loop-interface
invariant-loop-interface l = texts l.names.items ++ map (λ i. i.name.now) (drop l.interface-index l.all) ≡ map (λ i. i.name.now) l.all
