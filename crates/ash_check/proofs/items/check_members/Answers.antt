use Rattle.std.proofs.Common.{◌≡◌, List, [], map, subst}
use Rattle.ash_tree.specs.TreeViews.{class_of as written_class, member_of}
use Rattle.ash_tree.specs.declared.tree.items.Member.{Member}
use Rattle.ash_typed.specs.Modules.{class_of, implementation_of}
use Rattle.ash_type_rules.specs.Environment.{inside}
use Rattle.ash_type_rules.specs.ItemRules.{Members, no_members}
use Rattle.ash_check_names.specs.Agreement.{Agrees}
use Rattle.ash_check_names.specs.NameIndex.{texts}
use Rattle.ash_check_names.specs.EnvironmentViews.{environment_of}
use Rattle.ash_check.specs.WalkViews.{class_after}
use Rattle.ash_check.proofs.items.check_members.Goals as goal

pub returns : goal.returns
returns c = record {
  agrees =
      let env = inside (environment_of c.args.env.now) c.args.place in
      let none = no_members (written_class c.args.class.now) (map implementation_of c.args.interfaces.items) in
      let before : Members = record { names = record { registered = []; taken = texts c.new.result.keys; room = none.names.room }; class = class_of c.in_ok-typed.typed } in
      let start : before ≡ none =
      λ k. record { names = record { registered = []; taken = texts (c.new.ensures.empty k); room = none.names.room }; class = c.in_ok-typed.ensures.empty k } in
      subst (λ ms. Agrees class_of c.check_more_members.result (class_after env ms (map member_of c.args.class.now.members.items))) start
      (subst (λ (members : List Member). Agrees class_of c.check_more_members.result (class_after env before (map member_of members))) c.deref.ensures.value c.check_more_members.ensures.agrees);
}
