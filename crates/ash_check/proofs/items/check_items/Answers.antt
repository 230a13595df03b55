use Rattle.std.proofs.Common.{◌≡◌, map, subst}
use Rattle.ash_registrations.specs.Registered.{registered}
use Rattle.ash_tree.specs.TreeViews.{item_of}
use Rattle.ash_typed.specs.Modules.{module_of}
use Rattle.ash_type_rules.specs.ItemRules.{module_environment, nothing}
use Rattle.ash_check_names.specs.Agreement.{Agrees}
use Rattle.ash_check_names.specs.EnvironmentViews.{signatures_of}
use Rattle.ash_check.specs.WalkViews.{names_of, walked_of, module_after}
use Rattle.ash_check.proofs.items.check_items.Goals as goal

pub returns : goal.returns
returns c = record {
  agrees =
      let registrations = registered c.args.registry.now in
      let env = module_environment registrations (signatures_of c.args.signatures.now) in
      let start : walked_of (names_of c.in_ok-names.names) c.in_ok-typed.typed ≡ nothing registrations =
      λ k. record { names = c.in_ok-names.ensures.registered k; typed = c.in_ok-typed.ensures.empty k } in
      subst (λ w. Agrees module_of c.check_more_items.result (module_after env w (map item_of c.args.items.now))) start c.check_more_items.ensures.agrees;
}
