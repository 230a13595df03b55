use Rattle.std.proofs.Common.{map, refl}
use Rattle.ash_tree.specs.TreeViews.{item_of}
use Rattle.ash_tree.specs.Items.{classes_of}
use Rattle.ash_type_rules.specs.ModuleDeclarations.{named_class}
use Rattle.ash_check_names.specs.EnvironmentViews.{class_signature_of}
use Rattle.ash_check.proofs.Rows.{whole}
use Rattle.ash_check.proofs.type_names.named_classes.Goals as goal

pub returns : goal.returns
returns c = record { value = whole (λ xs. map named_class (classes_of (map item_of xs))) c.args.items.now c.loop-item.item-index (map class_signature_of c.loop-item.all.items) c.loop-item-test.false refl c.loop-item.invariant }
