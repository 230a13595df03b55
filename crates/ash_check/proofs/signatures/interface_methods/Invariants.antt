use Rattle.std.proofs.Common.{◌≡◌, ◌++◌, map, drop}
use Rattle.ash_registrations.specs.Registered.{registered}
use Rattle.ash_tree.specs.TreeViews.{interface_method_of}
use Rattle.ash_type_rules.specs.ModuleDeclarations.{signature_declaration}
use Rattle.ash_check_names.specs.EnvironmentViews.{function_signature_of, signatures_of}
use Rattle.ash_check.proofs.signatures.interface_methods.Given as goal

abbrev pub invariant-loop-method : goal.invariant-loop-method
invariant-loop-method l = map function_signature_of l.all.items ++ map (signature_declaration (registered l.registry) (signatures_of l.type_names)) (map interface_method_of (drop l.method-index l.declared)) ≡ map (signature_declaration (registered l.registry) (signatures_of l.type_names)) (map interface_method_of l.declared)
