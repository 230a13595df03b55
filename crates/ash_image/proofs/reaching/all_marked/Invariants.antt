use Rattle.std.proofs.Common.{◌≡◌, Bool, drop}
use Rattle.std.specs.List.{list_all}
use Rattle.ash_image.proofs.reaching.all_marked.Given as goal

abbrev pub invariant-loop-is_marked : goal.invariant-loop-is_marked
invariant-loop-is_marked l = list_all (λ (b : Bool). b) (drop l.is_marked-index l.marked) ≡ list_all (λ (b : Bool). b) l.marked
