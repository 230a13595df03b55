use Rattle.std.proofs.Common.{◌≡◌, ◌∙◌, ◌↔◌, ℕ, List, length, map, ap, subst, arith, refl}
use Rattle.ash_tree.specs.declared.tree.items.Item as code_item
use Rattle.ash_tree.specs.TreeViews.{module_of, item_of}
use Rattle.ash_class_cycles.specs.Paths.{AreRanksAlong}
use Rattle.ash_class_cycles.specs.Marking.{rows_of, Goes}
use Rattle.ash_class_cycles.specs.ClassReferences.{DeclaredClassRefers, classes_of, borrowed_classes}
use Rattle.ash_class_cycles.proofs.ReferenceLaws.{length-borrowed_classes}
use Rattle.ash_class_cycles.proofs.CycleLaws.{same_rows, rows_within, same_ranks, same_acyclic, same_cycle, only_cycle}
use Rattle.ash_class_cycles.proofs.CycleLaws.{in_ok, in_err, on_ok}
use Rattle.ash_class_cycles.proofs.CycleSearches.{some_if_cycle, none_if_acyclic}
use Rattle.ash_class_cycles.proofs.acyclic.class_ranks.Goals as goal

pub ranks-requires : goal.ranks-requires
ranks-requires c = record {
  within =
      let long = c.in_ok-referrers.ensures.places in
      rows_within (borrowed_classes c.deref-2.result.now) c.deref-3.result.now
      (omega (arith, ap length c.deref-3.ensures.value, long, length-borrowed_classes c.deref-2.result.now))
      (same_rows c.in_ok-referrers.referrers.items c.deref-3.result.now (borrowed_classes c.deref-2.result.now)
      (borrowed_classes c.deref-2.result.now) c.deref-3.ensures.value refl c.in_ok-referrers.ensures.rows);
}

pub returns-clause-ranks : goal.returns-clause-ranks
returns-clause-ranks c =
    let all = classes_of (module_of c.args.script.now) in
    let R = Goes (rows_of c.deref-3.result.now) in
    let e : borrowed_classes c.deref-2.result.now ≡ all =
    ap borrowed_classes c.deref-2.ensures.value ∙ c.in_ok-classes.ensures.in_order
    ∙ ap (λ (xs : List code_item.Item). classes_of (map item_of xs)) c.deref.ensures.value in
    let same : (from to : ℕ) → R from to ↔ DeclaredClassRefers all from to =
    same_rows c.in_ok-referrers.referrers.items c.deref-3.result.now (borrowed_classes c.deref-2.result.now) all
    c.deref-3.ensures.value e c.in_ok-referrers.ensures.rows in
    let long : length c.deref-3.result.now ≡ length all =
    omega (
      arith,
      ap length c.deref-3.ensures.value,
      c.in_ok-referrers.ensures.places,
      length-borrowed_classes c.deref-2.result.now,
      ap length e,
    ) in
    in_ok c.ranks.result _ _
    (λ answer. in_ok answer _ _
    (λ ranks h. same_ranks R (DeclaredClassRefers all) (length all) ranks.items same
    (subst (λ (n : ℕ). AreRanksAlong R n ranks.items) long h))) c.ranks.ensures.ranks

pub returns-clause-acyclic : goal.returns-clause-acyclic
returns-clause-acyclic c =
    let all = classes_of (module_of c.args.script.now) in
    let R = Goes (rows_of c.deref-3.result.now) in
    let e : borrowed_classes c.deref-2.result.now ≡ all =
    ap borrowed_classes c.deref-2.ensures.value ∙ c.in_ok-classes.ensures.in_order
    ∙ ap (λ (xs : List code_item.Item). classes_of (map item_of xs)) c.deref.ensures.value in
    let same : (from to : ℕ) → R from to ↔ DeclaredClassRefers all from to =
    same_rows c.in_ok-referrers.referrers.items c.deref-3.result.now (borrowed_classes c.deref-2.result.now) all
    c.deref-3.ensures.value e c.in_ok-referrers.ensures.rows in
    in_ok c.ranks.result _ _
    (λ answer. on_ok answer _ _ (λ h. same_acyclic R (DeclaredClassRefers all) same h)) c.ranks.ensures.acyclic

pub returns-clause-cycle : goal.returns-clause-cycle
returns-clause-cycle c =
    let all = classes_of (module_of c.args.script.now) in
    let R = Goes (rows_of c.deref-3.result.now) in
    let e : borrowed_classes c.deref-2.result.now ≡ all =
    ap borrowed_classes c.deref-2.ensures.value ∙ c.in_ok-classes.ensures.in_order
    ∙ ap (λ (xs : List code_item.Item). classes_of (map item_of xs)) c.deref.ensures.value in
    let same : (from to : ℕ) → R from to ↔ DeclaredClassRefers all from to =
    same_rows c.in_ok-referrers.referrers.items c.deref-3.result.now (borrowed_classes c.deref-2.result.now) all
    c.deref-3.ensures.value e c.in_ok-referrers.ensures.rows in
    in_ok c.ranks.result _ _
    (λ answer. in_err answer _ _ (λ cycle h. same_cycle R (DeclaredClassRefers all) cycle.first cycle.others.items same h))
    c.ranks.ensures.cycle

pub returns-clause-only : goal.returns-clause-only
returns-clause-only c =
    let all = classes_of (module_of c.args.script.now) in
    let R = Goes (rows_of c.deref-3.result.now) in
    let e : borrowed_classes c.deref-2.result.now ≡ all =
    ap borrowed_classes c.deref-2.ensures.value ∙ c.in_ok-classes.ensures.in_order
    ∙ ap (λ (xs : List code_item.Item). classes_of (map item_of xs)) c.deref.ensures.value in
    let same : (from to : ℕ) → R from to ↔ DeclaredClassRefers all from to =
    same_rows c.in_ok-referrers.referrers.items c.deref-3.result.now (borrowed_classes c.deref-2.result.now) all
    c.deref-3.ensures.value e c.in_ok-referrers.ensures.rows in
    in_ok c.ranks.result _ _
    (λ answer. in_err answer _ _
    (λ cycle h. only_cycle (DeclaredClassRefers all) cycle.first cycle.others.items
    (same_cycle R (DeclaredClassRefers all) cycle.first cycle.others.items same h))) c.ranks.ensures.cycle

pub returns-clause-none : goal.returns-clause-none
returns-clause-none c =
    let all = classes_of (module_of c.args.script.now) in
    let R = Goes (rows_of c.deref-3.result.now) in
    let e : borrowed_classes c.deref-2.result.now ≡ all =
    ap borrowed_classes c.deref-2.ensures.value ∙ c.in_ok-classes.ensures.in_order
    ∙ ap (λ (xs : List code_item.Item). classes_of (map item_of xs)) c.deref.ensures.value in
    let same : (from to : ℕ) → R from to ↔ DeclaredClassRefers all from to =
    same_rows c.in_ok-referrers.referrers.items c.deref-3.result.now (borrowed_classes c.deref-2.result.now) all
    c.deref-3.ensures.value e c.in_ok-referrers.ensures.rows in
    in_ok c.ranks.result _ _
    (λ answer. on_ok answer _ _ (λ h. none_if_acyclic all (same_acyclic R (DeclaredClassRefers all) same h)))
    c.ranks.ensures.acyclic

pub returns-clause-reported : goal.returns-clause-reported
returns-clause-reported c =
    let all = classes_of (module_of c.args.script.now) in
    let R = Goes (rows_of c.deref-3.result.now) in
    let e : borrowed_classes c.deref-2.result.now ≡ all =
    ap borrowed_classes c.deref-2.ensures.value ∙ c.in_ok-classes.ensures.in_order
    ∙ ap (λ (xs : List code_item.Item). classes_of (map item_of xs)) c.deref.ensures.value in
    let same : (from to : ℕ) → R from to ↔ DeclaredClassRefers all from to =
    same_rows c.in_ok-referrers.referrers.items c.deref-3.result.now (borrowed_classes c.deref-2.result.now) all
    c.deref-3.ensures.value e c.in_ok-referrers.ensures.rows in
    in_ok c.ranks.result _ _
    (λ answer. in_err answer _ _
    (λ cycle h. some_if_cycle all cycle.first cycle.others.items
    (same_cycle R (DeclaredClassRefers all) cycle.first cycle.others.items same h))) c.ranks.ensures.cycle
