-- Ranks from the distances to each place.
use Rattle.std.proofs.Common.{◌≡◌, ℕ, zero, suc, ◌+◌, ◌<◌, ◌≤◌, List, [], ◌∷◌, ◌++◌, length, get_or, Option, Some, None}
use Rattle.std.proofs.Common.{is_none, inl, inr, refl, sym, ap, ◌∙◌, subst, arith, cond}
use Rattle.std.proofs.lemmas.Bool.{cases_lt}
use Rattle.std.proofs.lemmas.Option.{none-some}
use Rattle.std.proofs.lemmas.List.{get_or_past, get_or_push, length-append, get_or_append_left}
use Rattle.std.proofs.lemmas.List.Elements.{All-from_get_or}
use Rattle.std.proofs.lemmas.List.Sums.{sum_by-cons, count_by-le-length}
use Rattle.ash_class_cycles.specs.Paths.{IsPath, Reaches, AreRanksAlong}
use Rattle.ash_class_cycles.specs.Marking.{Goes, AreWithin, IsAt, AreDistances, unmarked}

-- whoever goes on along a path gets one step farther
path_further : (R : ℕ → ℕ → Type 0) (from mid to : ℕ) (between : List ℕ) → IsPath R from between mid → R mid to
    → IsPath R from (between ++ mid ∷ []) to
path_further R from mid to [] path step = (path, step)
path_further R from mid to (next ∷ between) path step = (path.0, path_further R next mid to between path.1 step)

unmarked-cons : (o : Option ℕ) (os : List (Option ℕ)) → unmarked (o ∷ os) ≡ cond (is_none o) 1 0 + unmarked os
unmarked-cons o os = sum_by-cons (λ (x : Option ℕ). cond (is_none x) 1 0) o os

-- a place without a mark counts
pub some_unmarked : (marks : List (Option ℕ)) (place : ℕ) → place < length marks → get_or marks place None ≡ None
    → 0 < unmarked marks
some_unmarked [] place within none = absurd (omega arith)
some_unmarked (None ∷ marks) place within none = omega (arith, unmarked-cons None marks)
some_unmarked (Some x ∷ marks) zero within none = absurd (none-some x (sym none))
some_unmarked (Some x ∷ marks) (suc place) within none =
    omega (arith, unmarked-cons (Some x) marks, some_unmarked marks place (omega arith) none)

-- whatever is marked in the one list is in the other
abbrev pub IsCovered : List (Option ℕ) → List (Option ℕ) → Type 0
IsCovered xs ys = (place at : ℕ) → IsAt xs place at → (also : ℕ) × IsAt ys place also

not_more : (xs ys : List (Option ℕ)) → length xs ≡ length ys → IsCovered xs ys → unmarked ys ≤ unmarked xs
not_more [] [] e h = omega arith
not_more [] (y ∷ ys) e h = absurd (omega (arith, e))
not_more (x ∷ xs) [] e h = absurd (omega (arith, e))
not_more (None ∷ xs) (None ∷ ys) e h =
    omega (
      arith,
      unmarked-cons None xs,
      unmarked-cons None ys,
      not_more xs ys (omega (arith, e)) (λ place at k. h (suc place) at k),
    )
not_more (None ∷ xs) (Some y ∷ ys) e h =
    omega (
      arith,
      unmarked-cons None xs,
      unmarked-cons (Some y) ys,
      not_more xs ys (omega (arith, e)) (λ place at k. h (suc place) at k),
    )
not_more (Some x ∷ xs) (None ∷ ys) e h = let k = h zero x refl in absurd (none-some k.0 k.1)
not_more (Some x ∷ xs) (Some y ∷ ys) e h =
    omega (
      arith,
      unmarked-cons (Some x) xs,
      unmarked-cons (Some y) ys,
      not_more xs ys (omega (arith, e)) (λ place at k. h (suc place) at k),
    )

-- and one more is marked in the other
pub fewer : (xs ys : List (Option ℕ)) (place at : ℕ) → length xs ≡ length ys → IsCovered xs ys → place < length xs
    → get_or xs place None ≡ None → IsAt ys place at → unmarked ys < unmarked xs
fewer [] ys place at e h within none some = absurd (omega arith)
fewer (x ∷ xs) [] place at e h within none some = absurd (omega (arith, e))
fewer (None ∷ xs) (None ∷ ys) zero at e h within none some = absurd (none-some at some)
fewer (None ∷ xs) (Some y ∷ ys) zero at e h within none some =
    omega (
      arith,
      unmarked-cons None xs,
      unmarked-cons (Some y) ys,
      not_more xs ys (omega (arith, e)) (λ place at k. h (suc place) at k),
    )
fewer (Some x ∷ xs) ys zero at e h within none some = absurd (none-some x (sym none))
fewer (None ∷ xs) (None ∷ ys) (suc place) at e h within none some =
    omega (
      arith,
      unmarked-cons None xs,
      unmarked-cons None ys,
      fewer xs ys place at (omega (arith, e)) (λ place at k. h (suc place) at k) (omega (arith, within)) none some,
    )
fewer (None ∷ xs) (Some y ∷ ys) (suc place) at e h within none some =
    omega (
      arith,
      unmarked-cons None xs,
      unmarked-cons (Some y) ys,
      fewer xs ys place at (omega (arith, e)) (λ place at k. h (suc place) at k) (omega (arith, within)) none some,
    )
fewer (Some x ∷ xs) (None ∷ ys) (suc place) at e h within none some = let k = h zero x refl in
    absurd (none-some k.0 k.1)
fewer (Some x ∷ xs) (Some y ∷ ys) (suc place) at e h within none some =
    omega (
      arith,
      unmarked-cons (Some x) xs,
      unmarked-cons (Some y) ys,
      fewer xs ys place at (omega (arith, e)) (λ place at k. h (suc place) at k) (omega (arith, within)) none some,
    )

-- a rank, one less than the number of places that don't lead to the place, which is one of them
pub record IsRank (R : ℕ → ℕ → Type 0) (places place rank : ℕ) : Type 0 where
  pub marks : List (Option ℕ)
  pub distances : AreDistances R places place marks
  pub itself_unmarked : get_or marks place None ≡ None
  pub counted : rank + 1 ≡ unmarked marks

-- the places before one have their ranks
pub record AreRanked (R : ℕ → ℕ → Type 0) (places before : ℕ) (ranks : List ℕ) : Type 0 where
  pub count : length ranks ≡ before
  pub each : (place : ℕ) → place < before → IsRank R places place (get_or ranks place 0)

pub none_ranked : (R : ℕ → ℕ → Type 0) (places : ℕ) → AreRanked R places 0 []
none_ranked R places = record { count = refl; each = λ place h. absurd (omega (arith, h)) }

-- a ranked place doesn't reach itself
pub not_on_cycle : (R : ℕ → ℕ → Type 0) (places place rank : ℕ) → IsRank R places place rank → Reaches R place place → ⊥
not_on_cycle R places place rank r cycle =
    let near = r.distances.least place cycle.0 cycle.1 in
    none-some near.0 (sym r.itself_unmarked ∙ near.1)

pub one_ranked : (R : ℕ → ℕ → Type 0) (places before rank : ℕ) (ranks : List ℕ) → AreRanked R places before ranks
    → IsRank R places before rank → AreRanked R places (before + 1) (ranks ++ rank ∷ [])
one_ranked R places before rank ranks h r = record {
  count = omega (arith, length-append ranks (rank ∷ []), h.count);
  each = λ place less. elim (cases_lt place before) [
    | inl lower ↦
        subst (λ (k : ℕ). IsRank R places place k)
        (sym (get_or_append_left ranks (rank ∷ []) 0 place (omega (arith, lower, h.count)))) (h.each place lower)
    | inr higher ↦
        let e : place ≡ before = omega (arith, less, higher) in
        subst (λ (k : ℕ). IsRank R places k (get_or (ranks ++ rank ∷ []) k 0)) (sym e)
        (subst (λ (k : ℕ). IsRank R places before k) (sym (get_or_push ranks rank 0 before h.count)) r)
  ];
}

-- no place was passed by that reaches itself
pub earliest_of : (R : ℕ → ℕ → Type 0) (places first : ℕ) (ranks : List ℕ) → AreRanked R places first ranks
    → (other : ℕ) → Reaches R other other → first ≤ other
earliest_of R places first ranks h other cycle = elim (cases_lt other first) [
  | inl lower ↦ absurd (not_on_cycle R places other (get_or ranks other 0) (h.each other lower) cycle)
  | inr higher ↦ higher
]

-- whoever goes from a place to another has the greater rank
greater_of : (R : ℕ → ℕ → Type 0) (places from to high low : ℕ) → from < places → R from to → IsRank R places from high
    → IsRank R places to low → low < high
greater_of R places from to high low within step f t =
    let covered : IsCovered f.marks t.marks = λ place at h.
    let reached = f.distances.reached place at h in
    let near = t.distances.least place (reached.0 ++ from ∷ [])
    (path_further R place from to reached.0 reached.2 step) in
    (near.0, near.1) in
    let near = t.distances.least from [] step in
    let less : unmarked t.marks < unmarked f.marks =
    fewer f.marks t.marks from near.0 (f.distances.long ∙ sym t.distances.long) covered
    (omega (arith, within, f.distances.long)) f.itself_unmarked near.1 in
    omega (arith, less, f.counted, t.counted)

pub row_of_place : (rows : List (List ℕ)) (from to : ℕ) → Goes rows from to → to < length rows
row_of_place rows from to h = elim (cases_lt to (length rows)) [
  | inl lower ↦ lower
  | inr past ↦
      let e : length (get_or rows to []) ≡ 0 = ap length (get_or_past rows to [] past) in
      let w : h.0 < length (get_or rows to []) = h.1 in
      absurd (omega (arith, e, w))
]

-- each place has its rank
pub all_ranked : (rows : List (List ℕ)) (places : ℕ) (ranks : List ℕ) → places ≡ length rows → AreWithin rows
    → AreRanked (Goes rows) places places ranks → AreRanksAlong (Goes rows) places ranks
all_ranked rows places ranks e within h = record {
  count = h.count;
  within = All-from_get_or (λ rank. rank < places) ranks 0 (λ i lt.
      let r = h.each i (omega (arith, lt, h.count)) in
      omega (arith, r.counted, count_by-le-length is_none r.marks, r.distances.long));
  greater = λ from to step.
      let low : from < places = omega (arith, within from to step, e) in
      let high : to < places = omega (arith, row_of_place rows from to step, e) in
      greater_of (Goes rows) places from to (get_or ranks from 0) (get_or ranks to 0) low step (h.each from low)
      (h.each to high);
}

-- no place reaches itself
pub all_acyclic : (rows : List (List ℕ)) (places : ℕ) (ranks : List ℕ) → places ≡ length rows → AreWithin rows
    → AreRanked (Goes rows) places places ranks → (place : ℕ) → Reaches (Goes rows) place place → ⊥
all_acyclic rows places ranks e within h place cycle = let low : place < places =
    omega (arith, starts_within cycle.0 cycle.1, e) in
    not_on_cycle (Goes rows) places place (get_or ranks place 0) (h.each place low) cycle
  where
    starts_within : (between : List ℕ) → IsPath (Goes rows) place between place → place < length rows
    starts_within [] path = within place place path
    starts_within (next ∷ between) path = within place next path.0
