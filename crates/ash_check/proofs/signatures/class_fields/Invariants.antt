use Rattle.std.proofs.Common.{◌≡◌, ◌++◌, map, drop}
use Rattle.ash_registrations.specs.Registered.{registered}
use Rattle.ash_tree.specs.TreeViews.{member_of}
use Rattle.ash_type_rules.specs.ModuleDeclarations.{all_variables}
use Rattle.ash_tree.specs.Items.{fields_of}
use Rattle.ash_check_names.specs.EnvironmentViews.{binding_of, signatures_of}
use Rattle.ash_check.proofs.signatures.class_fields.Given as goal

abbrev pub invariant-loop-member : goal.invariant-loop-member
invariant-loop-member l = map binding_of l.all.items ++ all_variables (registered l.registry) (signatures_of l.type_names) (fields_of (map member_of (drop l.member-index l.members))) ≡ all_variables (registered l.registry) (signatures_of l.type_names) (fields_of (map member_of l.members))
