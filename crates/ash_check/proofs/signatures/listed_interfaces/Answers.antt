use Rattle.std.proofs.Common.{map, refl}
use Rattle.ash_registrations.specs.Registered.{registered}
use Rattle.ash_tree.specs.TreeViews.{type_name_of}
use Rattle.ash_type_rules.specs.ModuleDeclarations.{listed_in}
use Rattle.ash_check_names.specs.EnvironmentViews.{signatures_of}
use Rattle.ash_check.proofs.Rows.{whole}
use Rattle.ash_check.proofs.signatures.listed_interfaces.Goals as goal

pub returns : goal.returns
returns c = record { value = whole (λ xs. listed_in (registered c.args.registry.now) (signatures_of c.args.type_names.now) (map type_name_of xs)) c.args.names.now c.loop-name.name-index (c.loop-name.places.items) c.loop-name-test.false refl c.loop-name.invariant }
