use Rattle.std.proofs.Common.{◌≡◌, ◌++◌, map, drop}
use Rattle.ash_registrations.specs.Registered.{registered}
use Rattle.ash_tree.specs.TreeViews.{type_name_of}
use Rattle.ash_type_rules.specs.ModuleDeclarations as definition
use Rattle.ash_check_names.specs.EnvironmentViews.{signatures_of}
use Rattle.ash_check.proofs.signatures.listed_interfaces.Given as goal

abbrev pub invariant-loop-name : goal.invariant-loop-name
invariant-loop-name l = l.places.items ++ definition.listed_in (registered l.registry) (signatures_of l.type_names) (map type_name_of (drop l.name-index l.names)) ≡ definition.listed_in (registered l.registry) (signatures_of l.type_names) (map type_name_of l.names)
