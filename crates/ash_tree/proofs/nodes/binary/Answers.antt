use Rattle.std.proofs.Common.{◌<◌, ◌∙◌, sym, ap, length, map, arith}
use Rattle.std.proofs.lemmas.Grind.{common_steps}
use Rattle.ash_tree.specs.Tree.{Binary, links}
use Rattle.ash_tree.specs.TreeViews.{expr_of, operation_of}
use Rattle.ash_tree.proofs.Rows.{place_is, binary_is, chained-some}
use Rattle.ash_tree.proofs.nodes.binary.Goals as goal

pub returns : goal.returns
returns c = record {
  operators_in_order =
      let some : 0 < length (map operation_of c.args.links.items) = grind (arith, common_steps) in
      let made =
      binary_is c.args.first.place c.args.first c.args.links
      ∙ ap (λ q. Binary q (expr_of c.args.first) (links (map operation_of c.args.links.items)))
      (sym (place_is c.args.first.place c.args.first.kind.value))
      ∙ sym (chained-some (expr_of c.args.first) (map operation_of c.args.links.items) some) in
      rw (← made) c.expression.ensures.placed;
}
