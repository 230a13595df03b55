use Rattle.std.proofs.Common.{◌<◌, ◌∙◌, sym, ap, length, map, arith}
use Rattle.std.proofs.lemmas.Grind.{common_steps}
use Rattle.ash_tree.specs.Tree.{Postfix, suffixes}
use Rattle.ash_tree.specs.TreeViews.{expr_of, suffix_of}
use Rattle.ash_tree.proofs.Rows.{place_is, postfix_is, suffixed-some}
use Rattle.ash_tree.proofs.nodes.postfix.Goals as goal

pub returns : goal.returns
returns c = record {
  suffixes_in_order =
      let some : 0 < length (map suffix_of c.args.suffixes.items) = grind (arith, common_steps) in
      let made =
      postfix_is c.args.operand.place c.args.operand c.args.suffixes
      ∙ ap (λ q. Postfix q (expr_of c.args.operand) (suffixes (map suffix_of c.args.suffixes.items)))
      (sym (place_is c.args.operand.place c.args.operand.kind.value))
      ∙ sym (suffixed-some (expr_of c.args.operand) (map suffix_of c.args.suffixes.items) some) in
      rw (← made) c.expression.ensures.placed;
}
