use Rattle.std.proofs.Common.{◌≡◌, ℕ, ◌+◌, ◌-◌, length, arith, subst}
use Rattle.ash_class_cycles.specs.Marking.{rows_of, Goes, IsAt}
use Rattle.ash_class_cycles.proofs.PathsBack.{IsOnPath, next_exists, step_path, end_path}
use Rattle.ash_class_cycles.proofs.cycles.path_back.Goals as goal

pub unreachable-requires : goal.unreachable-requires
unreachable-requires c =
    let k : ℕ = c.steps.remaining - 1 in
    let one : c.steps.remaining ≡ k + 1 = omega arith in
    let here : IsAt c.args.distances.now c.steps.at (k + 1) =
    subst (λ (n : ℕ). IsAt c.args.distances.now c.steps.at n) one c.steps.invariant.here in
    let next = next_exists (Goes (rows_of c.args.referrers.now)) (length c.args.referrers.now) c.args.first
    c.args.distances.now c.requires.distances c.steps.at k here in
    c.in_default.ensures.nearest next.0 next.1 next.2

pub steps-preserved : goal.steps-preserved
steps-preserved c =
    let R = Goes (rows_of c.args.referrers.now) in
    let k : ℕ = c.steps.remaining - 1 in
    let one : c.steps.remaining ≡ k + 1 = omega arith in
    let on : IsOnPath R c.args.first c.args.first c.steps.at (k + 1) c.args.distances.now c.steps.path.items =
    subst (λ (n : ℕ). IsOnPath R c.args.first c.args.first c.steps.at n c.args.distances.now c.steps.path.items) one
    c.steps.invariant in
    rw c.in_ok-push.ensures.items
    (step_path R (length c.args.referrers.now) c.args.first c.args.first c.steps.at k c.in-Some.next
    c.args.distances.now c.steps.path.items c.requires.distances on c.in-Some.ensures.nearest)

pub returns : goal.returns
returns c = record {
  foremost =
      let R = Goes (rows_of c.args.referrers.now) in
      let done : c.steps.remaining ≡ 0 = omega (arith, c.steps-test.false) in
      let on : IsOnPath R c.args.first c.args.first c.steps.at 0 c.args.distances.now c.steps.path.items =
      subst (λ (n : ℕ). IsOnPath R c.args.first c.args.first c.steps.at n c.args.distances.now c.steps.path.items) done
      c.steps.invariant in
      end_path R (length c.args.referrers.now) c.args.first c.args.first c.steps.at c.args.distances.now c.steps.path.items
      c.requires.distances on;
}
