use Rattle.std.proofs.Common.{◌≡◌, [], map, refl, sym, ap, ◌∙◌}
use Rattle.std.proofs.lemmas.Result.{err_from_is_err_and}
use Rattle.ash_tree.specs.TreeViews.{type_name_of}
use Rattle.ash_typed.specs.Modules.{implementation_of}
use Rattle.ash_type_rules.specs.ItemRules.{Listed, check_listed, all_listed, none_listed}
use Rattle.ash_check_names.specs.NameIndex.{texts}
use Rattle.ash_check_names.specs.EnvironmentViews.{environment_of}
use Rattle.ash_check.specs.WalkViews.{listed_interfaces_of}
use Rattle.ash_check.proofs.Walks.{walk_goes_on, walk_stops, walk_ends}
use Rattle.ash_check.proofs.implementations.check_listed_interfaces.Goals as goal

pub loop-name-preserved : goal.loop-name-preserved
loop-name-preserved c =
    let env = environment_of c.args.env.now in
    let before : Listed = record { names = record { registered = []; taken = texts c.new.result.keys; room = 0 }; interfaces = map implementation_of c.new-2.result.items } in
    let whole = all_listed env c.args.class before (map type_name_of c.args.names.now) in
    walk_goes_on (λ l x. check_listed env c.args.class l (type_name_of x)) (λ l xs. all_listed env c.args.class l (map type_name_of xs)) (λ l x xs. refl) c.args.names.now c.loop-name.name-index (listed_interfaces_of c.loop-name.listed) whole
    c.name-item.result (listed_interfaces_of c.check_listed.new.listed) c.loop-name-test.true c.name-item.is c.in_ok-check_listed.ensures.agrees c.loop-name.invariant

pub returns-in_err-check_listed : goal.returns-in_err-check_listed
returns-in_err-check_listed c = record {
  agrees =
      let env = environment_of c.args.env.now in
      let before : Listed = record { names = record { registered = []; taken = texts c.new.result.keys; room = 0 }; interfaces = map implementation_of c.new-2.result.items } in
      let start : before ≡ none_listed = λ k. record { names = record { registered = []; taken = texts (c.new.ensures.empty k); room = 0 }; interfaces = map implementation_of (c.new-2.ensures.items k) } in
      let whole = all_listed env c.args.class none_listed (map type_name_of c.args.names.now) in
      let p = err_from_is_err_and c.from_residual.result c.from_residual.ensures.1 in
      let e = c.in_err-check_listed.field-0.0 in
      rw (p.1, p.2) (walk_stops (λ l x. check_listed env c.args.class l (type_name_of x)) (λ l xs. all_listed env c.args.class l (map type_name_of xs)) (λ l x xs. refl) c.args.names.now c.loop-name.name-index (listed_interfaces_of c.loop-name.listed) whole
      c.name-item.result e c.loop-name-test.true c.name-item.is c.in_err-check_listed.ensures.agrees
      (c.loop-name.invariant ∙ ap (λ l. all_listed env c.args.class l (map type_name_of c.args.names.now)) start));
}

pub returns : goal.returns
returns c = record {
  agrees =
      let env = environment_of c.args.env.now in
      let before : Listed = record { names = record { registered = []; taken = texts c.new.result.keys; room = 0 }; interfaces = map implementation_of c.new-2.result.items } in
      let start : before ≡ none_listed = λ k. record { names = record { registered = []; taken = texts (c.new.ensures.empty k); room = 0 }; interfaces = map implementation_of (c.new-2.ensures.items k) } in
      let whole = all_listed env c.args.class none_listed (map type_name_of c.args.names.now) in
      sym (walk_ends (λ l x. check_listed env c.args.class l (type_name_of x)) (λ l xs. all_listed env c.args.class l (map type_name_of xs)) (λ l x xs. refl) c.args.names.now c.loop-name.name-index (listed_interfaces_of c.loop-name.listed) whole c.loop-name-test.false
      (c.loop-name.invariant ∙ ap (λ l. all_listed env c.args.class l (map type_name_of c.args.names.now)) start));
}
