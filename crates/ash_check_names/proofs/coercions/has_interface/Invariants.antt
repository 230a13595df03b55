use Rattle.std.proofs.Common.{◌≡◌, nat_eq, drop}
use Rattle.std.specs.List.{list_any}
use Rattle.ash_check_names.proofs.coercions.has_interface.Given as goal

abbrev pub invariant-loop-listed : goal.invariant-loop-listed
invariant-loop-listed l = list_any (nat_eq l.interface) (drop l.listed-index l.listed-items) ≡ list_any (nat_eq l.interface) l.class.interfaces.items
