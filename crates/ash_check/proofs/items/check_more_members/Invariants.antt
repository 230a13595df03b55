use Rattle.std.proofs.Common.{◌≡◌, map, drop}
use Rattle.ash_tree.specs.TreeViews.{member_of}
use Rattle.ash_type_rules.specs.ItemRules.{check_members}
use Rattle.ash_check_names.specs.EnvironmentViews.{environment_of}
use Rattle.ash_check.specs.WalkViews.{names_of, members_of}
use Rattle.ash_check.proofs.items.check_more_members.Given as goal

-- the outcome of what is left is that of the whole
abbrev pub invariant-loop-member : goal.invariant-loop-member
invariant-loop-member l = check_members (environment_of l.env) (members_of (names_of l.names) l.class) (map member_of (drop l.member-index l.members)) ≡ check_members (environment_of l.env) (members_of (names_of l.initial.names) l.initial.class) (map member_of l.members)
