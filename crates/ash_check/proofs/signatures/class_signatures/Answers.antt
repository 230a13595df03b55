use Rattle.std.proofs.Common.{map, refl}
use Rattle.ash_registrations.specs.Registered.{registered}
use Rattle.ash_tree.specs.TreeViews.{item_of}
use Rattle.ash_tree.specs.Items.{classes_of}
use Rattle.ash_type_rules.specs.ModuleDeclarations.{class_declaration}
use Rattle.ash_check_names.specs.EnvironmentViews.{class_signature_of, signatures_of}
use Rattle.ash_check.proofs.Rows.{whole}
use Rattle.ash_check.proofs.signatures.class_signatures.Goals as goal

pub returns : goal.returns
returns c = record { value = whole (λ xs. map (class_declaration (registered c.args.registry.now) (signatures_of c.args.type_names.now)) (classes_of (map item_of xs))) c.args.items.now c.loop-item.item-index (map class_signature_of c.loop-item.all.items) c.loop-item-test.false refl c.loop-item.invariant }
