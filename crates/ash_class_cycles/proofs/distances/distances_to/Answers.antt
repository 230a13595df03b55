use Rattle.std.proofs.Common.{◌≡◌, ◌∙◌, length, arith, get_or, sym, List, [], subst, ℕ, None, true, false, eqb}
use Rattle.std.proofs.lemmas.List.{length-replicate}
use Rattle.std.proofs.lemmas.Bool.{eqb-false, eqb-true}
use Rattle.std.specs.List.{Contains}
use Rattle.ash_class_cycles.proofs.Rounds.{row_read, row_within, first_search, next_search, end_search, found_within}
use Rattle.ash_class_cycles.specs.Marking.{rows_of, Goes}
use Rattle.ash_class_cycles.proofs.distances.distances_to.Goals as goal

pub mark_row-requires : goal.mark_row-requires
mark_row-requires c = record {
  within =
      rw c.deref.ensures.value
      (row_within c.args.referrers.now c.args.to c.index-referrers-to.result
      (length c.in_ok-distances.distances.items) c.requires.within c.requires.place c.index-referrers-to.is
      (rw c.in_ok-distances.ensures.value (length-replicate (length c.args.referrers.now) None)));
}

pub levels-init : goal.levels-init
levels-init c =
    let rows = rows_of c.args.referrers.now in
    let is_row : get_or rows c.args.to [] ≡ c.deref.result.now =
    row_read c.args.referrers.now c.args.to c.index-referrers-to.result c.requires.place c.index-referrers-to.is
    ∙ sym c.deref.ensures.value in
    first_search (Goes rows) (length c.args.referrers.now) c.args.to c.deref.result.now c.mark_row.new.distances.items
    c.mark_row.new.found.items
    (λ p h. subst (λ (r : List ℕ). Contains r p) is_row h)
    (λ p h. subst (λ (r : List ℕ). Contains r p) (sym is_row) h)
    (rw (← c.in_ok-distances.ensures.value, ← c.new-level.ensures.items) c.in_ok-mark_row.ensures.marks)

pub mark_level-requires-clause-places : goal.mark_level-requires-clause-places
mark_level-requires-clause-places c =
    rw c.deref-in-levels.ensures.value
    (found_within (Goes (rows_of c.args.referrers.now)) (length c.args.referrers.now) c.args.to c.levels.between
    c.levels.distances.items c.levels.level.items c.levels.invariant)

pub levels-preserved : goal.levels-preserved
levels-preserved c =
    let R = Goes (rows_of c.args.referrers.now) in
    let some : eqb c.levels.level.len 0 ≡ false = sym c.levels-test.ensures in
    next_search R (length c.args.referrers.now) c.args.to c.levels.between c.levels.distances.items
    c.mark_level.new.distances.items c.levels.level.items c.mark_level.new.found.items
    (omega (arith, eqb-false c.levels.level.len 0 some, c.levels.level.ok.0)) c.levels.invariant
    (rw (← c.new-found.ensures.items, ← c.deref-in-levels.ensures.value) c.in_ok-mark_level.ensures.marks)

pub returns : goal.returns
returns c = record {
  distances =
      let R = Goes (rows_of c.args.referrers.now) in
      let none : eqb c.levels.level.len 0 ≡ true = sym c.levels-test.ensures in
      end_search R (length c.args.referrers.now) c.args.to c.levels.between c.levels.distances.items c.levels.level.items
      (omega (arith, eqb-true c.levels.level.len 0 none, c.levels.level.ok.0)) c.levels.invariant;
}
