use Rattle.std.proofs.Common.{◌≡◌, ℕ, sym, ap, ◌∙◌, nat_eq, map, length, arith}
use Rattle.std.proofs.lemmas.List.{length-map}
use Rattle.std.specs.List.{position_from, range_with_len}
use Rattle.ash_typed.specs.Modules.{module_of, class_of}
use Rattle.ash_meaning.specs.Classes.{place_of_class, places_of_classes}
use Rattle.ash_plain_data.proofs.Positions.{position_is}
use Rattle.ash_plain_data.proofs.classes.class_at_place.Goals as goal

pub returns : goal.returns
returns c = record {
  value =
      let m = module_of c.args.tree.now in
      let n : c.len.result ≡ length c.args.tree.now.classes.items = omega (arith, c.len.ensures, c.args.tree.now.classes.ok.0) in
      c.first_at.ensures.value
      ∙ ap (λ (n : ℕ). position_from (nat_eq c.args.place) 0 (map (place_of_class m) (range_with_len 0 n))) (n ∙ sym (length-map c.args.tree.now.classes.items class_of))
      ∙ sym (position_is (nat_eq c.args.place) (places_of_classes m));
}
