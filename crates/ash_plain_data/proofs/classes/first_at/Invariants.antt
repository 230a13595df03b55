use Rattle.std.proofs.Common.{◌≡◌, ◌-◌, nat_eq, map}
use Rattle.std.specs.List.{position_from, range_with_len}
use Rattle.ash_typed.specs.Modules.{module_of}
use Rattle.ash_meaning.specs.Classes.{place_of_class}
use Rattle.ash_plain_data.proofs.classes.first_at.Given as goal

abbrev pub invariant-loop-class : goal.invariant-loop-class
invariant-loop-class l =
    position_from (nat_eq l.place) l.class (map (place_of_class (module_of l.tree)) (range_with_len l.class (l.count - l.class))) ≡ position_from (nat_eq l.place) 0 (map (place_of_class (module_of l.tree)) (range_with_len 0 l.count))
