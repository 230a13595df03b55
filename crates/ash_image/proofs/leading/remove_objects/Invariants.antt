use Rattle.std.proofs.Common.{◌≡◌, ℕ, cond, drop, None}
use Rattle.ash_host.specs.Objects.{object_at}
use Rattle.ash_host.specs.Reach.{is_among}
use Rattle.ash_image.specs.NamedViews.{objects_seen}
use Rattle.ash_image.proofs.leading.remove_objects.Given as goal

abbrev pub invariant-loop-number : goal.invariant-loop-number
invariant-loop-number l = (n : ℕ)
    → cond (is_among (drop l.number-index l.gone) n) None (object_at n (objects_seen l.objects))
    ≡ cond (is_among l.gone n) None (object_at n (objects_seen l.initial.objects))
