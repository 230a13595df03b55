-- Paths found level by level.
use Rattle.std.proofs.Common.{◌≡◌, ℕ, zero, suc, ◌+◌, ◌<◌, ◌≤◌, ◌⊎◌, List, [], ◌∷◌, ◌++◌, length, take, get_or}
use Rattle.std.proofs.Common.{replicate, min, Option, None, is_none, Contains, All, Vec, Global, inl, inr, refl, sym}
use Rattle.std.proofs.Common.{ap, ◌∙◌, subst, arith, take_all, cond}
use Rattle.std.proofs.lemmas.Bool.{cases_lt}
use Rattle.std.proofs.lemmas.Option.{none-some}
use Rattle.std.proofs.lemmas.Grind.{take_at_read}
use Rattle.std.proofs.lemmas.List.{get_or-map, length-map, length-replicate, get_or_past}
use Rattle.std.proofs.lemmas.List.Elements.{Contains-push, Contains-push_cases, Contains-append_left, All-from_get_or}
use Rattle.std.proofs.lemmas.List.Elements.{Contains-get_or}
use Rattle.std.proofs.lemmas.List.Sums.{sum_by-cons}
use Rattle.ash_class_cycles.specs.Paths.{IsPath}
use Rattle.ash_class_cycles.specs.Marking.{rows_of, Goes, AreWithin, GoesToOne, IsAt, IsNear, Marks, AreDistances, unmarked}
use Rattle.ash_class_cycles.proofs.Markings.{marks_none, marks_same, marks_then}

-- the row that was read is the place's
pub row_read : (table : List (Vec ℕ Global)) (to : ℕ) (row : Vec ℕ Global) → to < length table
    → row ≡ get_or table to row → get_or (rows_of table) to [] ≡ row.items
row_read table to row within h =
    get_or-map (λ (v : Vec ℕ Global). v.items) table to row [] within ∙ ap (λ (v : Vec ℕ Global). v.items) (sym h)

-- each place in a row has a row
pub row_within : (table : List (Vec ℕ Global)) (to : ℕ) (row : Vec ℕ Global) (n : ℕ) → AreWithin (rows_of table)
    → to < length table → row ≡ get_or table to row → n ≡ length table → All (λ p. p < n) row.items
row_within table to row n within at h e =
    All-from_get_or (λ p. p < n) row.items 0 (λ i lt.
    let here : Contains row.items (get_or row.items i 0) = Contains-get_or row.items i 0 lt in
    let less : get_or row.items i 0 < length (rows_of table) =
    within (get_or row.items i 0) to
    (subst (λ (r : List ℕ). Contains r (get_or row.items i 0)) (sym (row_read table to row at h)) here) in
    omega (arith, less, length-map table (λ (v : Vec ℕ Global). v.items), e))

-- the places that go to the next of a level are marked, after those that go to the ones before it
pub marks_further : (rows : List (List ℕ)) (level row : List ℕ) (i distance : ℕ) (old mid new : List (Option ℕ))
    (before between found : List ℕ) → i < length level → get_or rows (get_or level i 0) [] ≡ row
    → Marks (GoesToOne (Goes rows) (take i level)) distance old mid before between
    → Marks (λ p. Contains row p) distance mid new between found
    → Marks (GoesToOne (Goes rows) (take (i + 1) level)) distance old new before found
marks_further rows level row i distance old mid new before between found within is_row m n =
    let to : ℕ = get_or level i 0 in
    let last : take (i + 1) level ≡ take i level ++ to ∷ [] = (take_at_read level i 0 within).1 in
    marks_same (λ p. GoesToOne (Goes rows) (take i level) p ⊎ Contains row p)
    (GoesToOne (Goes rows) (take (i + 1) level)) distance old new before found
    (λ p t. elim t [
      | inl h ↦ (
        h.0,
        subst (λ (xs : List ℕ). Contains xs h.0) (sym last) (Contains-append_left (take i level) (to ∷ []) h.0 h.1),
        h.2,
      )
      | inr h ↦ (
        to,
        subst (λ (xs : List ℕ). Contains xs to) (sym last) (Contains-push (take i level) to),
        subst (λ (r : List ℕ). Contains r p) (sym is_row) h,
      )
    ])
    (λ p h. elim (Contains-push_cases (take i level) to h.0 (subst (λ (xs : List ℕ). Contains xs h.0) last h.1)) [
      | inl w ↦ inl (h.0, w, h.2)
      | inr e ↦ inr (subst (λ (r : List ℕ). Contains r p) is_row (subst (λ (q : ℕ). Goes rows p q) (sym e) h.2))
    ])
    (marks_then (GoesToOne (Goes rows) (take i level))
    (λ p. Contains row p) distance old mid new before between found m n)

pub marks_level_start : (rows : List (List ℕ)) (level : List ℕ) (distance : ℕ) (marks : List (Option ℕ))
    (found : List ℕ) → Marks (GoesToOne (Goes rows) (take 0 level)) distance marks marks found found
marks_level_start rows level distance marks found =
    marks_none (GoesToOne (Goes rows) (take 0 level)) distance marks found (λ p h. let e : length (take 0 level) ≡ 0 =
    refl in let w : h.1.0 < length (take 0 level) = h.1.1 in omega (arith, e, w))

pub marks_level_end : (rows : List (List ℕ)) (level : List ℕ) (i distance : ℕ) (old new : List (Option ℕ))
    (before found : List ℕ) → length level ≤ i
    → Marks (GoesToOne (Goes rows) (take i level)) distance old new before found
    → Marks (GoesToOne (Goes rows) level) distance old new before found
marks_level_end rows level i distance old new before found past m =
    subst (λ (xs : List ℕ). Marks (GoesToOne (Goes rows) xs) distance old new before found) (take_all i level past) m

-- all distances up to a level are marked, and those at it are found
pub record IsSearched (R : ℕ → ℕ → Type 0) (places to level : ℕ) (marks : List (Option ℕ))
    (found : List ℕ) : Type 0 where
  pub long : length marks ≡ places
  pub reached : (from distance : ℕ) → IsAt marks from distance
      → (between : List ℕ) × (length between ≡ distance) × IsPath R from between to
  pub low : (from distance : ℕ) → IsAt marks from distance → distance ≤ level
  pub near : (from : ℕ) → R from to → IsNear marks from 0
  pub done : (from mid distance : ℕ) → R from mid → IsAt marks mid distance → distance < level
      → IsNear marks from (distance + 1)
  pub frontier : (mid : ℕ) → IsAt marks mid level → Contains found mid
  pub at_frontier : (mid : ℕ) → Contains found mid → IsAt marks mid level
  pub room : level + unmarked marks + min 1 (length found) ≤ places

same_everywhere : (o : Option ℕ) (n place : ℕ) → get_or (replicate n o) place o ≡ o
same_everywhere o zero place = refl
same_everywhere o (suc n) zero = refl
same_everywhere o (suc n) (suc place) = same_everywhere o n place

all_unmarked : (n : ℕ) → unmarked (replicate n None) ≡ n
all_unmarked zero = refl
all_unmarked (suc n) =
    let f : Option ℕ → ℕ = λ o. cond (is_none o) 1 0 in
    sum_by-cons f None (replicate n None) ∙ omega (arith, all_unmarked n)

none_in : (p : ℕ) → Contains [] p → ⊥
none_in p h = let w : h.0 < 0 = h.1 in omega (arith, w)

pub first_search : (R : ℕ → ℕ → Type 0) (places to : ℕ) (row : List ℕ) (marks : List (Option ℕ)) (found : List ℕ)
    → ((p : ℕ) → R p to → Contains row p) → ((p : ℕ) → Contains row p → R p to)
    → Marks (λ p. Contains row p) 0 (replicate places None) marks [] found → IsSearched R places to 0 marks found
first_search R places to row marks found there back m =
    let new : (p at : ℕ) → IsAt marks p at → (at ≡ 0) × Contains row p × Contains found p =
    λ p at h. elim (m.added p at h) [
      | inl was ↦ absurd (none-some at (sym (same_everywhere None places p) ∙ was))
      | inr now ↦ now
    ] in
    record {
      long = m.long ∙ length-replicate places None;
      reached = λ p at h. ([], sym (new p at h).0, back p (new p at h).1);
      low = λ p at h. let e = (new p at h).0 in omega (arith, e);
      near = λ p r. let h = m.marked p (there p r) in (h.0, h.1, omega (arith, (new p h.0 h.1).0));
      done = λ p mid at r h less. absurd (omega (arith, less));
      frontier = λ mid h. (new mid 0 h).2;
      at_frontier = λ mid h. elim (m.listed mid h) [ inl was ↦ absurd (none_in mid was) | inr now ↦ now ];
      room = omega (arith, m.counted, all_unmarked places);
    }

pub next_search : (R : ℕ → ℕ → Type 0) (places to level : ℕ) (marks later : List (Option ℕ)) (found more : List ℕ)
    → 0 < length found → IsSearched R places to level marks found
    → Marks (GoesToOne R found) (level + 1) marks later [] more → IsSearched R places to (level + 1) later more
next_search R places to level marks later found more some s m = record {
  long = m.long ∙ s.long;
  reached = λ p at h. elim (m.added p at h) [
    | inl was ↦ s.reached p at was
    | inr now ↦
        let mid = now.1.0 in
        let path = s.reached mid level (s.at_frontier mid now.1.1) in
        (mid ∷ path.0, omega (arith, path.1, now.0), (now.1.2, path.2))
  ];
  low = λ p at h. elim (m.added p at h) [ inl was ↦ omega (arith, s.low p at was) | inr now ↦ omega (arith, now.0) ];
  near = λ p r. let h = s.near p r in (h.0, m.unchanged p h.0 h.1, h.2);
  done = λ p mid at r h less. elim (m.added mid at h) [
    | inl was ↦ elim (cases_lt at level) [
      | inl lower ↦ (let n = s.done p mid at r was lower in (n.0, m.unchanged p n.0 n.1, n.2))
      | inr higher ↦
          let e : at ≡ level = omega (arith, s.low mid at was) in
          let n = m.marked p (mid, s.frontier mid (subst (λ (k : ℕ). IsAt marks mid k) e was), r) in (
            n.0,
            n.1,
            elim (m.added p n.0 n.1) [
              | inl before ↦ omega (arith, s.low p n.0 before)
              | inr now ↦ omega (arith, now.0)
            ],
          )
    ]
    | inr now ↦ absurd (omega (arith, now.0, less))
  ];
  frontier = λ mid h.
      elim (m.added mid (level + 1) h) [
        | inl was ↦ absurd (let low : level + 1 ≤ level = s.low mid (level + 1) was in omega (arith, low))
        | inr now ↦ now.2
      ];
  at_frontier = λ mid h. elim (m.listed mid h) [ inl was ↦ absurd (none_in mid was) | inr now ↦ now ];
  room = omega (arith, s.room, m.counted, some);
}

pub end_search : (R : ℕ → ℕ → Type 0) (places to level : ℕ) (marks : List (Option ℕ)) (found : List ℕ)
    → length found ≡ 0 → IsSearched R places to level marks found → AreDistances R places to marks
end_search R places to level marks found none s =
    let below : (mid at : ℕ) → IsAt marks mid at → at < level = λ mid at h. elim (cases_lt at level) [
      | inl lower ↦ lower
      | inr higher ↦
          let e : at ≡ level = omega (arith, s.low mid at h) in
          let in_frontier : Contains found mid = s.frontier mid (subst (λ (k : ℕ). IsAt marks mid k) e h) in
          let w : in_frontier.0 < length found = in_frontier.1 in
          absurd (omega (arith, w, none))
    ] in
    record { long = s.long; reached = s.reached; least = least_of R places to level marks found s below }
  where
    least_of : (R : ℕ → ℕ → Type 0) (places to level : ℕ) (marks : List (Option ℕ)) (found : List ℕ)
        → IsSearched R places to level marks found → ((mid at : ℕ) → IsAt marks mid at → at < level)
        → (from : ℕ) (between : List ℕ) → IsPath R from between to → IsNear marks from (length between)
    least_of R places to level marks found s below from [] path = s.near from path
    least_of R places to level marks found s below from (next ∷ between) path =
        let h = least_of R places to level marks found s below next between path.1 in
        let n = s.done from next h.0 path.0 h.1 (below next h.0 h.1) in
        (n.0, n.1, omega (arith, n.2, h.2))

-- what is marked is a place
pub at_within : (marks : List (Option ℕ)) (place at : ℕ) → IsAt marks place at → place < length marks
at_within marks place at h = elim (cases_lt place (length marks)) [
  | inl l ↦ l
  | inr past ↦ absurd (none-some at (sym (get_or_past marks place None past) ∙ h))
]

-- the places found at a level have rows
pub found_within : (R : ℕ → ℕ → Type 0) (places to level : ℕ) (marks : List (Option ℕ)) (found : List ℕ)
    → IsSearched R places to level marks found → All (λ p. p < places) found
found_within R places to level marks found s =
    All-from_get_or (λ p. p < places) found 0 (λ i lt.
    let mid : ℕ = get_or found i 0 in
    let less : mid < length marks = at_within marks mid level (s.at_frontier mid (Contains-get_or found i 0 lt)) in
    omega (arith, less, s.long))
