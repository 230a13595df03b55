use Rattle.std.proofs.Common.{◌≡◌, ◌++◌, map, drop}
use Rattle.ash_check_names.specs.NameIndex.{texts}
use Rattle.ash_check_names.proofs.name_index.class_names.Given as goal

abbrev pub invariant-loop-class : goal.invariant-loop-class
invariant-loop-class l = texts l.names.items ++ map (λ c. c.name.now) (drop l.class-index l.all) ≡ map (λ c. c.name.now) l.all
