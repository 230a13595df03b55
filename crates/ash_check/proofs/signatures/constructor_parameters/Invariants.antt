use Rattle.std.proofs.Common.{◌≡◌, map, drop}
use Rattle.ash_registrations.specs.Registered.{registered}
use Rattle.ash_tree.specs.TreeViews.{member_of}
use Rattle.ash_type_rules.specs.ModuleDeclarations.{constructed_by}
use Rattle.ash_tree.specs.Items.{constructors_of}
use Rattle.ash_check_names.specs.EnvironmentViews.{signatures_of}
use Rattle.ash_check.proofs.signatures.constructor_parameters.Given as goal

abbrev pub invariant-loop-member : goal.invariant-loop-member
invariant-loop-member l = constructed_by (registered l.registry) (signatures_of l.type_names) (constructors_of (map member_of (drop l.member-index l.members))) ≡ constructed_by (registered l.registry) (signatures_of l.type_names) (constructors_of (map member_of l.members))
