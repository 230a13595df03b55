use Rattle.std.proofs.Common.{◌≡◌, ◌∙◌, Bool, true, ◌||◌, sym}
use Rattle.std.specs.List.{list_any}
use Rattle.ash_tree.specs.TreeViews.{signature_of}
use Rattle.ash_registry.specs.declared.fault.RegistryFault.TheVariants.{UnknownType, NotPrimitive, NameTaken}
use Rattle.ash_registrations.specs.Registrations.{takes_member, takes_method}
use Rattle.ash_registry.specs.Refusals.{is_unknown, is_object, types_of}
use Rattle.ash_registry.specs.RegistryViews.{registered}
use Rattle.ash_registry.proofs.Verdicts.{skip_cause, refused_by_cause}
use Rattle.ash_registry.proofs.registry.Registry.method_of_signature.Goals as goal

pub returns-then-takes_method_or_name : goal.returns-then-takes_method_or_name
returns-then-takes_method_or_name c = record {
  registered =
      let taken : Bool =
      list_any (takes_member c.args.of.now (signature_of c.args.signature).name) (registered c.args.self.now)
      || list_any (takes_method c.args.of.now c.args.id) (registered c.args.self.now) in
      let named = c.as_str.ensures.value in
      let e : taken ≡ true = cc (c.takes_method_or_name.ensures.either, c.if-takes_method_or_name.true) in
      skip_cause (list_any (is_unknown (registered c.args.self.now)) (types_of (signature_of c.args.signature)))
      UnknownType _ _ _ _ _ (sym c.names_unknown.ensures.value ∙ c.if-names_unknown.false)
      (skip_cause (list_any is_object (types_of (signature_of c.args.signature))) NotPrimitive _ _ _ _ _
      (sym c.names_object.ensures.value ∙ c.if-names_object.false)
      (refused_by_cause taken NameTaken _ _ _ e));
}
