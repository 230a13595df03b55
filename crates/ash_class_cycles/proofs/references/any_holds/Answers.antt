use Rattle.std.proofs.Common.{◌≡◌, refl, true, List, map}
use Rattle.std.specs.List.{Any}
use Rattle.ash_tree.specs.declared.tree.items.Member as code_member
use Rattle.ash_tree.specs.TreeViews.{class_of, member_of}
use Rattle.ash_class_cycles.specs.ClassReferences.{MemberHolds}
use Rattle.ash_class_cycles.proofs.Searches.{found, passed_by, missed}
use Rattle.ash_class_cycles.proofs.ReferenceLaws.{any_of}
use Rattle.ash_class_cycles.proofs.references.any_holds.Goals as goal

pub returns-then-holds : goal.returns-then-holds
returns-then-holds c = record {
  exact =
      let class = class_of c.args.class.now in (
        λ u. found (λ (xs : List code_member.Member). Any (λ m. MemberHolds m class) (map member_of xs))
            (λ x. MemberHolds (member_of x) class) (any_of (λ m. MemberHolds m class) member_of) c.args.members.now
            c.loop-member.member-index c.member-item.result c.loop-member-test.true c.member-item.is
            (c.holds.ensures.exact.0 c.if-holds.true),
        λ b. refl,
      );
}

pub loop-member-preserved : goal.loop-member-preserved
loop-member-preserved c = let class = class_of c.args.class.now in
    passed_by (λ (xs : List code_member.Member). Any (λ m. MemberHolds m class) (map member_of xs))
    (λ x. MemberHolds (member_of x) class) (any_of (λ m. MemberHolds m class) member_of) c.args.members.now
    c.loop-member.member-index c.member-item.result c.loop-member-test.true c.member-item.is
    (λ b. let e : c.holds.result ≡ true = c.holds.ensures.exact.1 b in cc) c.loop-member.invariant

pub returns : goal.returns
returns c = record {
  exact =
      let class = class_of c.args.class.now in (
        λ u. cc,
        λ b.
            absurd (missed (λ (xs : List code_member.Member). Any (λ m. MemberHolds m class) (map member_of xs))
            (λ x. MemberHolds (member_of x) class) (any_of (λ m. MemberHolds m class) member_of) c.args.members.now
            c.loop-member.member-index c.loop-member-test.false c.loop-member.invariant b),
      );
}
