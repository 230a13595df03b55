use Rattle.std.proofs.Common.{◌≡◌, drop}
use Rattle.std.specs.List.{list_all}
use Rattle.std.proofs.Common.{ℕ}
use Rattle.ash_host.specs.Objects.{Plain}
use Rattle.ash_image.specs.SnapshotViews.{objects_of}
use Rattle.ash_image.specs.Rules.{is_placed}
use Rattle.ash_image.proofs.rules.are_placed.Given as goal

abbrev pub invariant-loop-object : goal.invariant-loop-object
invariant-loop-object l = list_all (λ (e : ℕ × Plain ℕ). is_placed l.modules e.1) (objects_of (drop l.object-index l.objects)) ≡ list_all (λ (e : ℕ × Plain ℕ). is_placed l.modules e.1) (objects_of l.objects)
