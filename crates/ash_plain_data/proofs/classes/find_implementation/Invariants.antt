use Rattle.std.proofs.Common.{◌≡◌, nat_eq, map, drop}
use Rattle.std.specs.List.{find}
use Rattle.ash_typed.specs.Modules.{Implementation, implementation_of}
use Rattle.ash_plain_data.proofs.classes.find_implementation.Given as goal

abbrev pub invariant-loop-one : goal.invariant-loop-one
invariant-loop-one l =
    find (λ (i : Implementation). nat_eq i.interface l.interface) (map implementation_of (drop l.one-index l.all)) ≡ find (λ (i : Implementation). nat_eq i.interface l.interface) (map implementation_of l.all)
