use Rattle.std.proofs.Common.{◌≡◌, ℕ, Bool, Option, Some, cond, sym, ap, ◌∙◌, ◌+◌, ◌-◌, nat_eq, map}
use Rattle.std.specs.List.{position_from, range_with_len}
use Rattle.ash_typed.specs.Modules.{module_of}
use Rattle.ash_meaning.specs.Classes.{place_of_class}
use Rattle.ash_plain_data.proofs.Positions.{ranged_more, ranged_end}
use Rattle.ash_plain_data.proofs.classes.first_at.Goals as goal

pub returns-then-is_place_of : goal.returns-then-is_place_of
returns-then-is_place_of c = record {
  value =
      let f = place_of_class (module_of c.args.tree.now) in
      let p = nat_eq c.args.place in
      let i = c.loop-class.class in
      ap (λ (b : Bool). cond b (Some i) (position_from p (i + 1) (map f (range_with_len (i + 1) (c.args.count - (i + 1)))))) (sym c.if-is_place_of.true ∙ c.is_place_of.ensures.value)
      ∙ sym (ranged_more f p c.args.count i c.loop-class-test.true)
      ∙ c.loop-class.invariant;
}

pub loop-class-preserved : goal.loop-class-preserved
loop-class-preserved c =
    let f = place_of_class (module_of c.args.tree.now) in
    let p = nat_eq c.args.place in
    let i = c.loop-class.class in
    ap (λ (b : Bool). cond b (Some i) (position_from p (i + 1) (map f (range_with_len (i + 1) (c.args.count - (i + 1)))))) (sym c.if-is_place_of.false ∙ c.is_place_of.ensures.value)
    ∙ sym (ranged_more f p c.args.count i c.loop-class-test.true)
    ∙ c.loop-class.invariant

pub returns : goal.returns
returns c = record {
  value =
      let f = place_of_class (module_of c.args.tree.now) in
      let p = nat_eq c.args.place in
      sym (ranged_end f p c.args.count c.loop-class.class c.loop-class-test.false) ∙ c.loop-class.invariant;
}
