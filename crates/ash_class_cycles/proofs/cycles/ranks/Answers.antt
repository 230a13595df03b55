use Rattle.std.proofs.Common.{◌≡◌, ℕ, length, sym, subst, arith, Vec, Global}
use Rattle.std.proofs.lemmas.List.{length-map}
use Rattle.ash_class_cycles.specs.Marking.{rows_of, Goes}
use Rattle.ash_class_cycles.proofs.Ranked.{AreRanked, earliest_of, all_ranked, all_acyclic}
use Rattle.ash_class_cycles.proofs.cycles.ranks.Goals as goal

pub returns-in-Some-clause-cycle : goal.returns-in-Some-clause-cycle
returns-in-Some-clause-cycle c = record {
  cycle = c.in_ok-others.ensures.foremost;
  earliest = earliest_of (Goes (rows_of c.args.referrers.now)) (length c.args.referrers.now) c.loop-first.first
      c.loop-first.ranks.items c.loop-first.invariant;
}

pub returns-clause-ranks : goal.returns-clause-ranks
returns-clause-ranks c =
    let table = c.args.referrers.now in
    let same : length table ≡ length (rows_of table) = sym (length-map table (λ (v : Vec ℕ Global). v.items)) in
    let end : c.loop-first.first ≡ length table = omega (arith, c.loop-first-test.false, c.loop-first.auto.first-end) in
    all_ranked (rows_of table) (length table) c.loop-first.ranks.items same c.requires.within
    (subst (λ (n : ℕ). AreRanked (Goes (rows_of table)) (length table) n c.loop-first.ranks.items) end
    c.loop-first.invariant)

pub returns-clause-acyclic : goal.returns-clause-acyclic
returns-clause-acyclic c =
    let table = c.args.referrers.now in
    let same : length table ≡ length (rows_of table) = sym (length-map table (λ (v : Vec ℕ Global). v.items)) in
    let end : c.loop-first.first ≡ length table = omega (arith, c.loop-first-test.false, c.loop-first.auto.first-end) in
    all_acyclic (rows_of table) (length table) c.loop-first.ranks.items same c.requires.within
    (subst (λ (n : ℕ). AreRanked (Goes (rows_of table)) (length table) n c.loop-first.ranks.items) end
    c.loop-first.invariant)
