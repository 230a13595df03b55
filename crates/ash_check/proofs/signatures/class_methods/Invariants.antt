use Rattle.std.proofs.Common.{◌≡◌, ◌++◌, map, drop}
use Rattle.ash_registrations.specs.Registered.{registered}
use Rattle.ash_tree.specs.TreeViews.{member_of}
use Rattle.ash_type_rules.specs.ModuleDeclarations.{function_declaration}
use Rattle.ash_tree.specs.Items.{methods_of}
use Rattle.ash_check_names.specs.EnvironmentViews.{function_signature_of, signatures_of}
use Rattle.ash_check.proofs.signatures.class_methods.Given as goal

abbrev pub invariant-loop-member : goal.invariant-loop-member
invariant-loop-member l = map function_signature_of l.all.items ++ map (function_declaration (registered l.registry) (signatures_of l.type_names)) (methods_of (map member_of (drop l.member-index l.members))) ≡ map (function_declaration (registered l.registry) (signatures_of l.type_names)) (methods_of (map member_of l.members))
