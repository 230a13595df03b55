use Rattle.std.proofs.Common.{◌≡◌, ◌∙◌, ap, subst, map, IfOk}
use Rattle.ash_registrations.specs.Registered.{registered}
use Rattle.ash_tree.specs.TreeViews.{item_of}
use Rattle.ash_type_rules.specs.ModuleDeclarations as definition
use Rattle.ash_check_names.specs.EnvironmentViews.{signatures_of}
use Rattle.ash_check.proofs.signatures.module_signatures.Goals as goal

pub returns : goal.returns
unfolding definition.declarations
returns c = record {
  value =
      let registrations = registered c.args.registry.now in
      let items = c.args.declared.now.items.items in
      let names = signatures_of c.in_ok-type_names.type_names in
      subst (λ h. IfOk c.resolve_signatures.result (λ r. signatures_of r ≡ h))
      (ap (λ xs. definition.declarations_by registrations names (map item_of xs)) c.deref-2.ensures.value ∙ ap (λ all. definition.declarations_by registrations all (map item_of items)) (c.in_ok-type_names.ensures.value ∙ ap (λ xs. definition.names_in (map item_of xs)) c.deref.ensures.value))
      c.resolve_signatures.ensures.value;
}
