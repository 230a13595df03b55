use Rattle.std.proofs.Common.{map, refl}
use Rattle.ash_tree.specs.TreeViews.{item_of}
use Rattle.ash_tree.specs.Items.{interfaces_of}
use Rattle.ash_type_rules.specs.ModuleDeclarations.{named_interface}
use Rattle.ash_check_names.specs.EnvironmentViews.{interface_signature_of}
use Rattle.ash_check.proofs.Rows.{whole}
use Rattle.ash_check.proofs.type_names.named_interfaces.Goals as goal

pub returns : goal.returns
returns c = record { value = whole (λ xs. map named_interface (interfaces_of (map item_of xs))) c.args.items.now c.loop-item.item-index (map interface_signature_of c.loop-item.all.items) c.loop-item-test.false refl c.loop-item.invariant }
