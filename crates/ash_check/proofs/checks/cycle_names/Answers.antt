use Rattle.std.proofs.Common.{List, map, ap, ◌∙◌}
use Rattle.ash_tree.specs.declared.tree.items.Item.{Item}
use Rattle.ash_tree.specs.TreeViews.{item_of, module_of}
use Rattle.ash_class_cycles.specs.ClassReferences.{borrowed_classes, classes_of}
use Rattle.ash_check.specs.Checks.{name_at}
use Rattle.ash_check.proofs.checks.cycle_names.Goals as goal

pub returns : goal.returns
returns c = record {
  value =
      let declared = classes_of (module_of c.args.script.now) in
      let places = c.deref-3.result.now in
      let found = ap borrowed_classes c.deref-2.ensures.value ∙ c.in_ok-classes.ensures.in_order ∙ ap (λ (items : List Item). classes_of (map item_of items)) c.deref.ensures.value in
      c.in_ok-class_names_at.ensures.value ∙ ap (λ classes. map (name_at classes) places) found ∙ ap (map (name_at declared)) (c.deref-3.ensures.value ∙ c.in_ok-places.ensures.value);
}
