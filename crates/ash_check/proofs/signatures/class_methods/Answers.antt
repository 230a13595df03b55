use Rattle.std.proofs.Common.{map, refl}
use Rattle.ash_registrations.specs.Registered.{registered}
use Rattle.ash_tree.specs.TreeViews.{member_of}
use Rattle.ash_tree.specs.Items.{methods_of}
use Rattle.ash_type_rules.specs.ModuleDeclarations.{function_declaration}
use Rattle.ash_check_names.specs.EnvironmentViews.{function_signature_of, signatures_of}
use Rattle.ash_check.proofs.Rows.{whole}
use Rattle.ash_check.proofs.signatures.class_methods.Goals as goal

pub returns : goal.returns
returns c = record { value = whole (λ xs. map (function_declaration (registered c.args.registry.now) (signatures_of c.args.type_names.now)) (methods_of (map member_of xs))) c.args.members.now c.loop-member.member-index (map function_signature_of c.loop-member.all.items) c.loop-member-test.false refl c.loop-member.invariant }
