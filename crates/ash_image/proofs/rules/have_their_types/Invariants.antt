use Rattle.std.proofs.Common.{◌≡◌, ℕ, drop}
use Rattle.std.specs.List.{list_all}
use Rattle.ash_host.specs.Objects.{Plain}
use Rattle.ash_image.specs.SnapshotViews.{objects_of}
use Rattle.ash_image.specs.Rules.{are_elements}
use Rattle.ash_image.proofs.rules.have_their_types.Given as goal

abbrev pub invariant-loop-object : goal.invariant-loop-object
invariant-loop-object l =
    list_all (λ (e : ℕ × Plain ℕ). are_elements e.1) (objects_of (drop l.object-index l.objects))
    ≡ list_all (λ (e : ℕ × Plain ℕ). are_elements e.1) (objects_of l.objects)
