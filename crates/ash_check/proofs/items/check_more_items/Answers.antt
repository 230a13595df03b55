use Rattle.std.proofs.Common.{map, refl, sym, ap, Ok}
use Rattle.std.proofs.lemmas.Result.{err_from_is_err_and}
use Rattle.ash_tree.specs.TreeViews.{item_of}
use Rattle.ash_type_rules.specs.TypingResult.{◌>>=◌}
use Rattle.ash_type_rules.specs.ItemRules.{check_item, check_items, module_walked}
use Rattle.ash_check_names.specs.EnvironmentViews.{environment_of}
use Rattle.ash_check.specs.WalkViews.{names_of, walked_of}
use Rattle.ash_check.proofs.Walks.{stops, walk_goes_on, walk_stops, walk_ends}
use Rattle.ash_check.proofs.items.check_more_items.Goals as goal

pub loop-item-preserved : goal.loop-item-preserved
loop-item-preserved c =
    let env = environment_of c.args.env.now in
    let whole = check_items env (walked_of (names_of c.args.names.now) c.args.typed) (map item_of c.args.items.now) in
    walk_goes_on (λ w x. check_item env w (item_of x)) (λ w xs. check_items env w (map item_of xs)) (λ w x xs. refl) c.args.items.now c.loop-item.item-index (walked_of (names_of c.loop-item.names) c.loop-item.typed) whole
    c.item-item.result (walked_of (names_of c.check_item.new.names) c.check_item.new.typed) c.loop-item-test.true c.item-item.is c.in_ok-check_item.ensures.agrees c.loop-item.invariant

pub returns-in_err-check_item : goal.returns-in_err-check_item
returns-in_err-check_item c = record {
  agrees =
      let env = environment_of c.args.env.now in
      let whole = check_items env (walked_of (names_of c.args.names.now) c.args.typed) (map item_of c.args.items.now) in
      let p = err_from_is_err_and c.from_residual.result c.from_residual.ensures.1 in
      let e = c.in_err-check_item.field-0.0 in
      rw (p.1, p.2) (stops whole (λ w. Ok (module_walked w)) e
      (walk_stops (λ w x. check_item env w (item_of x)) (λ w xs. check_items env w (map item_of xs)) (λ w x xs. refl) c.args.items.now c.loop-item.item-index (walked_of (names_of c.loop-item.names) c.loop-item.typed) whole
      c.item-item.result e c.loop-item-test.true c.item-item.is c.in_err-check_item.ensures.agrees c.loop-item.invariant));
}

pub returns : goal.returns
returns c = record {
  agrees =
      let env = environment_of c.args.env.now in
      let whole = check_items env (walked_of (names_of c.args.names.now) c.args.typed) (map item_of c.args.items.now) in
      let last = walked_of (names_of c.loop-item.names) c.loop-item.typed in
      ap (λ r. r >>= λ w. Ok (module_walked w)) (sym (walk_ends (λ w x. check_item env w (item_of x)) (λ w xs. check_items env w (map item_of xs)) (λ w x xs. refl) c.args.items.now c.loop-item.item-index last whole c.loop-item-test.false c.loop-item.invariant));
}
