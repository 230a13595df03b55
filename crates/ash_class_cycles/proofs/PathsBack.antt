-- The foremost path, step by step along the distances.
use Rattle.std.proofs.Common.{◌≡◌, ℕ, suc, ◌+◌, ◌<◌, ◌≤◌, List, [], ◌∷◌, ◌++◌, length, Option, Some, None, inl, inr}
use Rattle.std.proofs.Common.{sym, ap, ◌∙◌, subst, arith, append_assoc, append-nil, eqb, true, false, get_or, Contains}
use Rattle.std.proofs.lemmas.Bool.{cases_lt, eqb-true, eqb-false}
use Rattle.std.proofs.lemmas.Option.{same_Some, none-some}
use Rattle.std.specs.Option.{option_eq}
use Rattle.ash_class_cycles.specs.Paths.{IsPath, IsNoLater, IsForemost}
use Rattle.ash_class_cycles.specs.Marking.{IsAt, IsNearest, AreDistances}

one_mark : (marks : List (Option ℕ)) (place a b : ℕ) → IsAt marks place a → IsAt marks place b → a ≡ b
one_mark marks place a b g h = same_Some a b (sym g ∙ h)

-- no path is shorter than the distance
no_shorter : (R : ℕ → ℕ → Type 0) (places to : ℕ) (marks : List (Option ℕ)) → AreDistances R places to marks
    → (from k : ℕ) → IsAt marks from k → (between : List ℕ) → IsPath R from between to → k ≤ length between
no_shorter R places to marks d from k at between path =
    let near = d.least from between path in
    let e : near.0 ≡ k = one_mark marks from near.0 k near.1 at in
    omega (arith, near.2, e)

-- the place that a shortest path goes to first is one nearer
one_nearer : (R : ℕ → ℕ → Type 0) (places to : ℕ) (marks : List (Option ℕ)) → AreDistances R places to marks
    → (from k next : ℕ) (between : List ℕ) → IsAt marks from (k + 1) → R from next → IsPath R next between to
    → length between ≤ k → IsAt marks next k
one_nearer R places to marks d from k next between at step path short =
    let near = d.least next between path in
    let reached = d.reached next near.0 near.1 in
    let long : k + 1 ≤ suc (length reached.0) =
    no_shorter R places to marks d from (k + 1) at (next ∷ reached.0) (step, reached.2) in
    let e : near.0 ≡ k = omega (arith, near.2, reached.1, long, short) in
    subst (λ (j : ℕ). IsAt marks next j) e near.1

-- from a place that is not at distance 0 one goes to a nearer one
pub next_exists : (R : ℕ → ℕ → Type 0) (places to : ℕ) (marks : List (Option ℕ)) → AreDistances R places to marks
    → (from k : ℕ) → IsAt marks from (k + 1) → (next : ℕ) × R from next × IsAt marks next k
next_exists R places to marks d from k at = let reached = d.reached from (k + 1) at in go reached.0 reached.1 reached.2
  where
    go : (between : List ℕ) → length between ≡ k + 1 → IsPath R from between to
        → (next : ℕ) × R from next × IsAt marks next k
    go [] long path = absurd (omega (arith, long))
    go (next ∷ between) long path =
        (next, path.0, one_nearer R places to marks d from k next between at path.0 path.1 (omega (arith, long)))

-- the nearest place, and the foremost path from there
pub step_foremost : (R : ℕ → ℕ → Type 0) (places to : ℕ) (marks : List (Option ℕ)) → AreDistances R places to marks
    → (from k next : ℕ) → IsAt marks from (k + 1) → IsNearest R marks from k (Some next) → (rest : List ℕ)
    → IsForemost R next rest to → IsForemost R from (next ∷ rest) to
step_foremost R places to marks d from k next at nearest rest f =
    let reached = d.reached next k nearest.1 in
    let short : length rest ≤ k = omega (arith, f.shortest reached.0 reached.2, reached.1) in
    record {
      path = (nearest.0, f.path);
      shortest = λ other path. omega (arith, no_shorter R places to marks d from (k + 1) at other path, short);
      foremost = other_later short;
    }
  where
    other_later : length rest ≤ k → (other : List ℕ) → IsPath R from other to → length other ≡ length (next ∷ rest)
        → IsNoLater (next ∷ rest) other
    other_later short [] path long = absurd (omega (arith, long))
    other_later short (q ∷ qs) path long =
        let q_at : IsAt marks q k =
        one_nearer R places to marks d from k q qs at path.0 path.1 (omega (arith, long, short)) in
        let least : next ≤ q = nearest.2 q path.0 q_at in
        elim (cases_lt next q) [
          | inl lower ↦ inl lower
          | inr higher ↦
              let e : next ≡ q = omega (arith, least, higher) in
              inr (e, f.foremost qs (subst (λ (x : ℕ). IsPath R x qs to) (sym e) path.1) (omega (arith, long)))
        ]

-- where one goes straight to the end, no place is between
pub end_foremost : (R : ℕ → ℕ → Type 0) (places to : ℕ) (marks : List (Option ℕ)) → AreDistances R places to marks
    → (from : ℕ) → IsAt marks from 0 → IsForemost R from [] to
end_foremost R places to marks d from at = let reached = d.reached from 0 at in
    record {
      path = straight reached.0 reached.1 reached.2;
      shortest = λ other path. omega arith;
      foremost = λ other path long. tt;
    }
  where
    straight : (between : List ℕ) → length between ≡ 0 → IsPath R from between to → R from to
    straight [] long path = path
    straight (next ∷ between) long path = absurd (omega (arith, long))

-- a foremost path from the place that was reached goes on the path so far
pub record IsOnPath (R : ℕ → ℕ → Type 0) (first to at remaining : ℕ) (marks : List (Option ℕ))
    (path : List ℕ) : Type 0 where
  pub here : IsAt marks at remaining
  pub rest : (rest : List ℕ) → IsForemost R at rest to → IsForemost R first (path ++ rest) to

pub start_path : (R : ℕ → ℕ → Type 0) (first to remaining : ℕ) (marks : List (Option ℕ)) → IsAt marks first remaining
    → IsOnPath R first to first remaining marks []
start_path R first to remaining marks at = record { here = at; rest = λ rest f. f }

pub step_path : (R : ℕ → ℕ → Type 0) (places first to at k next : ℕ) (marks : List (Option ℕ)) (path : List ℕ)
    → AreDistances R places to marks → IsOnPath R first to at (k + 1) marks path → IsNearest R marks at k (Some next)
    → IsOnPath R first to next k marks (path ++ next ∷ [])
step_path R places first to at k next marks path d on nearest = record {
  here = nearest.1;
  rest = λ rest f.
      subst (λ (xs : List ℕ). IsForemost R first xs to) (sym (append_assoc path (next ∷ []) rest))
      (on.rest (next ∷ rest) (step_foremost R places to marks d at k next on.here nearest rest f));
}

pub end_path : (R : ℕ → ℕ → Type 0) (places first to at : ℕ) (marks : List (Option ℕ)) (path : List ℕ)
    → AreDistances R places to marks → IsOnPath R first to at 0 marks path → IsForemost R first path to
end_path R places first to at marks path d on =
    subst (λ (xs : List ℕ). IsForemost R first xs to) (append-nil path)
    (on.rest [] (end_foremost R places to marks d at on.here))

-- a mark that was compared with a distance
pub same_mark : (mark : Option ℕ) (distance : ℕ) → option_eq eqb mark (Some distance) ≡ true → mark ≡ Some distance
same_mark None distance h = cc
same_mark (Some k) distance h = ap (λ (n : ℕ). Some n) (eqb-true k distance h)

pub other_mark : (mark : Option ℕ) (distance : ℕ) → option_eq eqb mark (Some distance) ≡ false → mark ≡ Some distance
    → ⊥
other_mark None distance h e = none-some distance e
other_mark (Some k) distance h e = eqb-false k distance h (same_Some k distance e)

-- the number was found in a row
pub found_in : (row : List ℕ) (x : ℕ) → (k : ℕ) × (k < length row) × ((d : ℕ) → eqb (get_or row k d) x ≡ true)
    → Contains row x
found_in row x h = (h.0, h.1, eqb-true (get_or row h.0 x) x (h.2 x))

pub missed_in : (row : List ℕ) (x : ℕ) → ((k d : ℕ) → 0 ≤ k → k < length row → eqb (get_or row k d) x ≡ false)
    → Contains row x → ⊥
missed_in row x h c = eqb-false (get_or row c.0 x) x (h c.0 x (omega arith) c.1) c.2
