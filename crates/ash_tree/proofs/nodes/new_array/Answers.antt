use Rattle.std.proofs.Common.{◌∙◌, ap, map}
use Rattle.ash_tree.specs.Tree.{NewArray, exprs}
use Rattle.ash_tree.specs.TreeViews.{element_of, expr_of}
use Rattle.ash_tree.proofs.Rows.{new_array_is}
use Rattle.ash_tree.proofs.nodes.new_array.Goals as goal

pub returns : goal.returns
returns c = record {
  makes_array =
      let made =
      new_array_is c.args.place c.in_ok-of.of c.args.arguments
      ∙ ap (λ e. NewArray c.args.place (element_of e)
      (exprs (map expr_of c.args.arguments.items))) c.in_ok-of.ensures.ok in
      rw (← made) c.expression.ensures.placed;
}
