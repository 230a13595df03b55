use Rattle.std.proofs.Common.{None, Some, option_map, ◌∙◌, ap}
use Rattle.ash_typed.specs.Modules.{module_of, class_of}
use Rattle.ash_plain_data.specs.ObjectViews.{object_seen}
use Rattle.ash_plain_steps.proofs.ShownObjects.{in_tree}
use Rattle.ash_plain_steps.proofs.shown.class_of_object.Goals as goal

pub returns-in_err-class : goal.returns-in_err-class
returns-in_err-class c = record {
  value =
      ap (option_map (λ x. class_of x.now)) c.from_residual-in_err-class.ensures
      ∙ in_tree c.args.owner.now c.args.modules.now (object_seen c.args.object.now) (module_of c.in_ok-tree.tree.now) None c.in_ok-tree.ensures.value c.in_err-class.ensures.class;
}

pub returns : goal.returns
returns c = record {
  value =
      c.class_at.ensures.value
      ∙ in_tree c.args.owner.now c.args.modules.now (object_seen c.args.object.now) (module_of c.in_ok-tree.tree.now) (Some c.in_ok-class.class) c.in_ok-tree.ensures.value c.in_ok-class.ensures.class;
}
