use Rattle.std.proofs.Common.{map, refl}
use Rattle.ash_registrations.specs.Registered.{registered}
use Rattle.ash_tree.specs.TreeViews.{member_of}
use Rattle.ash_tree.specs.Items.{fields_of}
use Rattle.ash_type_rules.specs.ModuleDeclarations.{all_variables}
use Rattle.ash_check_names.specs.EnvironmentViews.{binding_of, signatures_of}
use Rattle.ash_check.proofs.Rows.{whole}
use Rattle.ash_check.proofs.signatures.class_fields.Goals as goal

pub returns : goal.returns
returns c = record { value = whole (λ xs. all_variables (registered c.args.registry.now) (signatures_of c.args.type_names.now) (fields_of (map member_of xs))) c.args.members.now c.loop-member.member-index (map binding_of c.loop-member.all.items) c.loop-member-test.false refl c.loop-member.invariant }
