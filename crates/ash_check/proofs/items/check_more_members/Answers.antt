use Rattle.std.proofs.Common.{map, refl, sym, ap, Ok}
use Rattle.std.proofs.lemmas.Result.{err_from_is_err_and}
use Rattle.ash_tree.specs.TreeViews.{member_of}
use Rattle.ash_type_rules.specs.TypingResult.{◌>>=◌}
use Rattle.ash_type_rules.specs.ItemRules.{check_member, check_members, class_of_members}
use Rattle.ash_check_names.specs.EnvironmentViews.{environment_of}
use Rattle.ash_check.specs.WalkViews.{names_of, members_of}
use Rattle.ash_check.proofs.Walks.{stops, walk_goes_on, walk_stops, walk_ends}
use Rattle.ash_check.proofs.items.check_more_members.Goals as goal

pub loop-member-preserved : goal.loop-member-preserved
loop-member-preserved c =
    let env = environment_of c.args.env.now in
    let whole = check_members env (members_of (names_of c.args.names.now) c.args.class) (map member_of c.args.members.now) in
    walk_goes_on (λ w x. check_member env w (member_of x)) (λ w xs. check_members env w (map member_of xs)) (λ w x xs. refl) c.args.members.now c.loop-member.member-index (members_of (names_of c.loop-member.names) c.loop-member.class) whole
    c.member-item.result (members_of (names_of c.check_member.new.names) c.check_member.new.class) c.loop-member-test.true c.member-item.is c.in_ok-check_member.ensures.agrees c.loop-member.invariant

pub returns-in_err-check_member : goal.returns-in_err-check_member
returns-in_err-check_member c = record {
  agrees =
      let env = environment_of c.args.env.now in
      let whole = check_members env (members_of (names_of c.args.names.now) c.args.class) (map member_of c.args.members.now) in
      let p = err_from_is_err_and c.from_residual.result c.from_residual.ensures.1 in
      let e = c.in_err-check_member.field-0.0 in
      rw (p.1, p.2) (stops whole (λ w. Ok (class_of_members w)) e
      (walk_stops (λ w x. check_member env w (member_of x)) (λ w xs. check_members env w (map member_of xs)) (λ w x xs. refl) c.args.members.now c.loop-member.member-index (members_of (names_of c.loop-member.names) c.loop-member.class) whole
      c.member-item.result e c.loop-member-test.true c.member-item.is c.in_err-check_member.ensures.agrees c.loop-member.invariant));
}

pub returns : goal.returns
returns c = record {
  agrees =
      let env = environment_of c.args.env.now in
      let whole = check_members env (members_of (names_of c.args.names.now) c.args.class) (map member_of c.args.members.now) in
      let last = members_of (names_of c.loop-member.names) c.loop-member.class in
      ap (λ r. r >>= λ w. Ok (class_of_members w)) (sym (walk_ends (λ w x. check_member env w (member_of x)) (λ w xs. check_members env w (map member_of xs)) (λ w x xs. refl) c.args.members.now c.loop-member.member-index last whole c.loop-member-test.false c.loop-member.invariant));
}
