use Rattle.std.proofs.Common.{drop, map}
use Rattle.std.specs.List.{Any}
use Rattle.ash_tree.specs.TreeViews.{class_of, member_of}
use Rattle.ash_class_cycles.specs.ClassReferences.{MemberHolds}
use Rattle.ash_class_cycles.proofs.references.any_holds.Given as goal

abbrev pub invariant-loop-member : goal.invariant-loop-member
invariant-loop-member l =
    Any (λ m. MemberHolds m (class_of l.class)) (map member_of l.members)
    → Any (λ m. MemberHolds m (class_of l.class)) (map member_of (drop l.member-index l.members))
